use Rattle.recovery.proofs.turning_stands.Goals as goal
use Rattle.recovery.proofs.Turning.{put-turns, stopped-recoverable, turning-recoverable, turning-steady}

pub returns : goal.returns
returns c = record { put = put-turns; stopped = stopped-recoverable; recoverable = turning-recoverable; steady = turning-steady }
