use Rattle.recovery.proofs.run_stands.Goals as goal
use Rattle.recovery.proofs.Kept.{run-kept, run-size, run-promise}

pub returns : goal.returns
returns c = record { kept = run-kept; size = run-size; promise = run-promise }
