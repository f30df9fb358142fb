use Rattle.promise.proofs.laws.replacing_stands.Goals as goal
use Rattle.promise.proofs.Replacing.{replacing}

pub returns : goal.returns
returns c = replacing
