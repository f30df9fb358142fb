use Rattle.recovery.proofs.start_stands.Goals as goal
use Rattle.recovery.proofs.Turning.{restart-recovers, started-steady}

pub returns : goal.returns
returns c = record { recovers = restart-recovers; steady = started-steady }
