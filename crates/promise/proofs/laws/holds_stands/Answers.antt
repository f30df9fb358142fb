use Rattle.promise.proofs.laws.holds_stands.Goals as goal
use Rattle.promise.proofs.Holding.{holds-one}
use Rattle.promise.proofs.Clear.{holds-clear}

pub returns : goal.returns
returns c = record { one = holds-one; clear = holds-clear }
