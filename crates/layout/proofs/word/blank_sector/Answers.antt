use Rattle.std.proofs.Common.{refl}
use Rattle.layout.specs.Words.{blank}
use Rattle.layout.proofs.word.blank_sector.Goals as goal

pub returns : goal.returns
unfolding blank
returns c = refl
