use Rattle.directory.proofs.Cutting.{line-laws}
use Rattle.directory.proofs.laws.lines_stand.Goals as goal

pub returns : goal.returns
returns c = line-laws
