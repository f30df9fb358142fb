use Rattle.numbers.proofs.Sizes.{lengths, figures}
use Rattle.numbers.proofs.laws.lengths_stand.Goals as goal

pub returns : goal.returns
returns c = (lengths, figures)
