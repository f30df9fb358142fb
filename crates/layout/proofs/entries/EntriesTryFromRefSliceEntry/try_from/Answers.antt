use Rattle.std.proofs.Common.{length, drop, replicate, ap, ◌∙◌, length-append, length-drop, arith}
use Rattle.std.proofs.lemmas.List.{drop-replicate}
use Rattle.std.proofs.lemmas.Slice.{drop-append-drop}
use Rattle.layout.specs.Places.{no_entry}
use Rattle.layout.proofs.entries.EntriesTryFromRefSliceEntry.try_from.Goals as goal

pub invariant_of-result : goal.invariant_of-result
invariant_of-result c = let n = length c.args.entries.now in let l = ap length c.copy_from_slice.ensures.after in
    rw (c.no_entries-places.ensures) (
      omega arith,
      length-append c.copy_from_slice.new.self (drop n (replicate 25 no_entry)) ∙ omega (arith, l, length-drop n (replicate 25 no_entry)),
      drop-append-drop n (replicate 25 no_entry) _ n (omega arith) l ∙ drop-replicate n 25 no_entry,
    )
