use Rattle.recovery.proofs.owed_stand.Goals as goal
use Rattle.recovery.proofs.Owed.{delete-turns, register-turns, close-turns, sane-gives, register-named}

pub returns : goal.returns
returns c = record { delete = delete-turns; register = register-turns; close = close-turns; ledger = sane-gives; name = register-named }
