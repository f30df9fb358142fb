use Rattle.std.proofs.Common.{◌+◌, ◌-◌, length, drop, ap, sym, refl, ◌∙◌, length-take-le, arith}
use Rattle.std.proofs.lemmas.Slice.{put_mid-paste}
use Rattle.layout.specs.Places.{no_entry}
use Rattle.layout.proofs.Places.{places-used}
use Rattle.layout.proofs.entries.Entries.try_extend_from_slice.Goals as goal

pub invariant_of-self : goal.invariant_of-self
invariant_of-self c =
    let p = c.self.inside in let v = c.self.invariant in let n = length c.args.more.now in
    let l = sym (length-take-le p.count p.places (omega (arith, v.0, v.1))) ∙ ap length c.self.view_is in
    let u = places-used no_entry p.places c.args.more.now p.count n (omega (arith, l, c.remaining_capacity.ensures)) v.1 refl v.2 in
    let e = put_mid-paste p.count (p.count + n - p.count) p.places c.copy_from_slice.new.self c.args.more.now n c.copy_from_slice.ensures.after (omega arith) refl in
    (omega (arith, l, c.remaining_capacity.ensures), ap length e ∙ u.0, ap (drop (p.count + n)) e ∙ u.1)
