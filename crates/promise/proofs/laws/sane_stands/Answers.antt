use Rattle.promise.proofs.laws.sane_stands.Goals as goal
use Rattle.promise.proofs.StaySane.{stays-sane}

pub returns : goal.returns
returns c = stays-sane
