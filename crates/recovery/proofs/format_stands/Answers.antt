use Rattle.recovery.proofs.format_stands.Goals as goal
use Rattle.recovery.proofs.Turning.{wiping-recoverable, format-recoverable, format-steady}

pub returns : goal.returns
returns c = record { stopped = wiping-recoverable; recoverable = format-recoverable; steady = format-steady }
