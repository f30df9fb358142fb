use Rattle.std.proofs.Common.{length, drop, replicate, ap, ◌∙◌, length-append, length-drop, length-take-le, arith}
use Rattle.std.proofs.lemmas.List.{drop-replicate}
use Rattle.std.proofs.lemmas.Slice.{drop-append-drop}
use Rattle.layout.specs.Places.{no_entry}
use Rattle.layout.proofs.entries.Entries.truncate.Goals as goal

pub invariant_of-self : goal.invariant_of-self
invariant_of-self c =
    let n = c.args.count in let v = c.self.invariant in
    let l = ap length c.copy_from_slice.ensures.after ∙ length-take-le n c.self.inside.places (omega (arith, v.0, v.1)) in
    rw (c.no_entries-places.ensures) (
      omega (arith, v.0),
      length-append c.copy_from_slice.new.self (drop n (replicate 25 no_entry)) ∙ omega (arith, l, v.0, length-drop n (replicate 25 no_entry)),
      drop-append-drop n (replicate 25 no_entry) _ n (omega arith) l ∙ drop-replicate n 25 no_entry,
    )
