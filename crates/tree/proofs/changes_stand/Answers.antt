use Rattle.tree.proofs.changes_stand.Goals as goal
use Rattle.tree.proofs.Present.{insert-again}
use Rattle.tree.proofs.Changes.{insert-changes, delete-changes}

pub returns : goal.returns
returns g c = record { insert = insert-changes; again = insert-again; delete = delete-changes }
