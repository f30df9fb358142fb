use Rattle.promise.proofs.laws.accounts_stand.Goals as goal
use Rattle.promise.proofs.Accounts.{accounts}

pub returns : goal.returns
returns c = accounts
