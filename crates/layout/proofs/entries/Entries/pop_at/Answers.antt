use Rattle.std.proofs.Common.{◌-◌, ap, sym, ◌∙◌, length-set, length-take-le, get_or-take, arith}
use Rattle.std.proofs.lemmas.List.{take-set-le, get_or_default}
use Rattle.std.proofs.lemmas.Option.{slice_get-get_or}
use Rattle.std.specs.List.{remove, slice_get}
use Rattle.std.specs.Prelude.{Some}
use Rattle.layout.proofs.Places.{place-freed, take_out, take_out-behind}
use Rattle.layout.proofs.entries.Entries.pop_at.Goals as goal

pub invariant_of-self : goal.invariant_of-self
invariant_of-self c =
    let p = c.self.inside in let v = c.self.invariant in let t = c.copy_within.new.self in
    rw (c.no_entry-none.ensures) (
      omega arith,
      length-set t _ _ ∙ c.copy_within.ensures.len ∙ v.1,
      place-freed _ t p.count _ (omega arith) v.0 (c.copy_within.ensures.len ∙ v.1) (take_out-behind p.places p.count c.args.i t (omega arith) (omega (arith, v.0, v.1)) c.copy_within.ensures.after ∙ v.2),
    )

pub returns-clause-value : goal.returns-clause-value
returns-clause-value c =
    let p = c.self.inside in let v = c.self.invariant in
    let l = length-take-le p.count p.places (omega (arith, v.0, v.1)) in
    ap Some (get_or_default p.places c.args.i _ c.no_entry-none.result (omega (arith, v.0, v.1)) ∙ sym (get_or-take p.count p.places c.args.i _ (omega arith)))
    ∙ sym (slice_get-get_or _ c.args.i _ (omega (arith, l))) ∙ ap (λ xs. slice_get xs c.args.i) c.self.view_is

pub returns-clause-rest : goal.returns-clause-rest
returns-clause-rest c =
    let p = c.self.inside in let v = c.self.invariant in
    take-set-le (p.count - 1) c.copy_within.new.self _ _ (omega arith) ∙ take_out p.places p.count c.args.i c.copy_within.new.self (omega arith) (omega (arith, v.0, v.1)) c.copy_within.ensures.after
    ∙ ap (λ xs. remove xs c.args.i) c.self.view_is
