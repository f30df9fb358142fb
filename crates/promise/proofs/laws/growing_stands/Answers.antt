use Rattle.promise.proofs.laws.growing_stands.Goals as goal
use Rattle.promise.proofs.Growing.{growing}

pub returns : goal.returns
returns c = growing
