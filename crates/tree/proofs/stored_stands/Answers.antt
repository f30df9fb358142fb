use Rattle.tree.proofs.stored_stands.Goals as goal
use Rattle.tree.proofs.Stored.{seek-looks}
use Rattle.tree.proofs.Replaced.{replace-stores, delete-stores, replace-frees, delete-frees}
use Rattle.tree.proofs.Places.{good-apart}
use Rattle.tree.proofs.Balance.{spots-stand}
use Rattle.tree.proofs.Inserted.{insert-stores, insert-frees}
use Rattle.tree.proofs.FreedCount.{insert-balances, replace-balances, delete-balances}

pub returns : goal.returns
returns g c = record {
  seeks = seek-looks;
  inserts = insert-stores;
  replaces = replace-stores _;
  deletes = delete-stores;
  spots = spots-stand _;
  apart = good-apart;
  insert_frees = insert-frees;
  replace_frees = replace-frees;
  delete_frees = delete-frees;
  insert_balances = insert-balances;
  replace_balances = replace-balances;
  delete_balances = delete-balances;
}
