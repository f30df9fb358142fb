use Rattle.std.proofs.Common.{length, ap, sym, ◌∙◌, length-set, length-take-le, arith}
use Rattle.layout.proofs.Places.{place-used}
use Rattle.layout.proofs.entries.Entries.push.Goals as goal

pub invariant_of-self : goal.invariant_of-self
invariant_of-self c =
    let p = c.self.inside in let v = c.self.invariant in
    let l = sym (length-take-le p.count p.places (omega (arith, v.0, v.1))) ∙ ap length c.self.view_is in
    (omega (arith, l), length-set p.places p.count c.args.entry ∙ v.1, place-used _ p.places p.count p.count c.args.entry (omega arith) (omega (arith, l)) v.2)
