use Rattle.recovery.proofs.keeping_stands.Goals as goal
use Rattle.recovery.proofs.Keeping.{keeps}

pub returns : goal.returns
returns c = keeps
