use Rattle.promise.proofs.laws.restart_stands.Goals as goal
use Rattle.promise.proofs.Restarted.{restart-forgets}

pub returns : goal.returns
returns c = restart-forgets
