use Rattle.recovery.proofs.picks_stand.Goals as goal
use Rattle.recovery.proofs.Agreement.{steady-recoverable, agrees-frame, settled-steady, local-steady}

pub returns : goal.returns
returns c = record { recoverable = steady-recoverable; frame = agrees-frame; settled = settled-steady; local = local-steady }
