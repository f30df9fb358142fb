use Rattle.tree.proofs.delete_stands.Goals as goal
use Rattle.tree.proofs.Delete.{delete-takes}
use Rattle.tree.proofs.Drain.{delete-keeps}
use Rattle.tree.proofs.Loss.{delete-loses}
use Rattle.tree.proofs.DeleteMost.{delete-most}

pub returns : goal.returns
returns g c = record { takes = delete-takes; keeps = delete-keeps; loses = λ cmp ord. delete-loses cmp; most = λ cmp ord. delete-most cmp }
