use Rattle.tree.proofs.insert_stands.Goals as goal
use Rattle.tree.proofs.Insert.{insert-puts}
use Rattle.tree.proofs.Fill.{insert-keeps}
use Rattle.tree.proofs.Count.{insert-levels, insert-within, insert-rises}
use Rattle.tree.proofs.Pages.{insert-six}
use Rattle.tree.proofs.Present.{insert-path, insert-gains}

pub returns : goal.returns
returns g c = record { puts = insert-puts; keeps = insert-keeps; stays = insert-levels; within = insert-within; rises = insert-rises; gains = insert-gains; path = insert-path; six = insert-six }
