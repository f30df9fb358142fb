use Rattle.std.proofs.Common.{◌+◌, length, ap, sym, ◌∙◌, length-set, length-take-le, arith}
use Rattle.std.proofs.lemmas.List.{drop-set-lt}
use Rattle.std.specs.List.{insert}
use Rattle.layout.proofs.Places.{more-used, put_in}
use Rattle.layout.proofs.entries.Entries.try_insert.Goals as goal

pub invariant_of-self : goal.invariant_of-self
invariant_of-self c =
    let p = c.self.inside in let v = c.self.invariant in
    let l = sym (length-take-le p.count p.places (omega (arith, v.0, v.1))) ∙ ap length c.self.view_is in
    let t = c.copy_within.new.self in (
      omega arith,
      length-set t c.args.i c.args.entry ∙ c.copy_within.ensures.len ∙ v.1,
      drop-set-lt (p.count + 1) t c.args.i c.args.entry (omega (arith, l)) ∙ more-used _ p.places t p.count c.args.i (omega (arith, l)) (omega arith) v.1 c.copy_within.ensures.after v.2,
    )

pub returns-clause-value : goal.returns-clause-value
returns-clause-value c =
    let p = c.self.inside in let v = c.self.invariant in
    let l = sym (length-take-le p.count p.places (omega (arith, v.0, v.1))) ∙ ap length c.self.view_is in (
      omega (arith, l),
      omega (arith, l),
      put_in p.places p.count c.args.i c.copy_within.new.self c.args.entry c.args.entry (omega (arith, l)) (omega (arith, l, v.1)) c.copy_within.ensures.after
          ∙ ap (λ xs. insert xs c.args.i c.args.entry) c.self.view_is,
    )
