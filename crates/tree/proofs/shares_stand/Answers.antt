use Rattle.tree.proofs.shares_stand.Goals as goal
use Rattle.tree.proofs.Shares.{shares}

pub returns : goal.returns
returns g c = shares _ _
