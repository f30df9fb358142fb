use Rattle.std.proofs.Common.{◌∙◌, length-set, arith}
use Rattle.layout.proofs.Places.{place-freed}
use Rattle.layout.proofs.entries.Entries.pop.Goals as goal

pub invariant_of-self : goal.invariant_of-self
invariant_of-self c =
    let p = c.self.inside in let v = c.self.invariant in
    rw (c.no_entry-none.ensures)
    (omega arith, length-set p.places _ _ ∙ v.1, place-freed _ p.places p.count _ (omega arith) v.0 v.1 v.2)
