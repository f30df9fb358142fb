use Rattle.std.proofs.Common.{[], ◌∷◌, replicate, refl, lit≤}
use Rattle.promise.specs.Table.{Close, Register, Delete, gone, gone_read, gone_names}
use Rattle.promise.specs.Ledger.{never, first, emptied}
use Rattle.promise.specs.Examples.{at, hall, lost, no_row}
use Rattle.promise.proofs.examples.examples_stand.Goals as goal

pub returns-clause-threes : goal.returns-clause-threes
returns-clause-threes c = record {
  read = gone_read (at 0 1) (replicate 9 0) lost 2 refl refl (lit≤ tt);
  list = gone_names (no_row ∷ []) lost 0 refl refl (lit≤ tt);
  close = gone (Close 0) lost refl refl refl;
  after = refl;
}

pub returns-clause-broken_off : goal.returns-clause-broken_off
returns-clause-broken_off c = record {
  write = refl;
  close = refl;
  close_never = never;
  close_first = first (Close 0) refl;
  close_start = refl;
  register = refl;
  register_never = never;
  register_start = refl;
  register_first = first (Register 0) refl;
  delete = refl;
  delete_never = never;
  delete_first = first (Delete hall) refl;
  format_never = never;
  format_first = emptied refl;
}
