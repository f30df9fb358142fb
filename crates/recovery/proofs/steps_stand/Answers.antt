use Rattle.recovery.proofs.steps_stand.Goals as goal
use Rattle.recovery.proofs.Steps.{are-steps, one-put, less-recoverable, less-steady}

pub returns : goal.returns
returns c = record { steps = are-steps; put = one-put; recoverable = less-recoverable; steady = less-steady }
