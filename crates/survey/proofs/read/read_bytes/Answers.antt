use Rattle.layout.specs.Words.{written}
use Rattle.std.proofs.Common.{◌≡◌, ℕ, take, drop, ◌+◌, ◌-◌, inl, inr, length, Result, sym, refl, ap, ◌∙◌, subst, arith}
use Rattle.std.proofs.lemmas.Bool.{cases_lt}
use Rattle.catalog.specs.declared.fault.VolumeFault.{VolumeFault}
use Rattle.survey.specs.Fetches.{Fills}
use Rattle.survey.proofs.Tellings.{exit}
use Rattle.survey.proofs.Reading.{filling-start, filling-all, filling-no-part, filling-lost, filling-more}
use Rattle.survey.proofs.read.read_bytes.Goals as goal

pub loop-done-init : goal.loop-done-init
loop-done-init g c = filling-start _ _ _ _ _

pub returns-in_err-part : goal.returns-in_err-part
returns-in_err-part g c =
    subst (λ (r : Result (Unit {0}) VolumeFault). Fills g.D.Disk.meaning g.D.Disk.does c.args.disk.now c.args.size c.args.header.now c.args.first.0 c.args.into.now r c.find_part.new.disk c.loop-done.into) (sym (exit _ c.from_residual.ensures.1))
    (filling-no-part c.loop-done.invariant c.in_err-part.field-0.0 (omega arith) c.place-i.ensures.0 c.in_err-part.ensures)

pub returns-in_err-get : goal.returns-in_err-get
returns-in_err-get g c =
    subst (λ (r : Result (Unit {0}) VolumeFault). Fills g.D.Disk.meaning g.D.Disk.does c.args.disk.now c.args.size c.args.header.now c.args.first.0 c.args.into.now r c.get.new.self c.loop-done.into) (sym (exit _ c.from_residual-in_err-get.ensures.1))
    (filling-lost c.loop-done.invariant (omega arith) c.place-i.ensures.0 c.in_ok-part.ensures c.from.ensures c.in_err-get.ensures.rule c.in_err-get.ensures.done)

pub loop-done-preserved : goal.loop-done-preserved
loop-done-preserved g c =
    let h = c.copy_part.ensures in
    let m = c.min-count.ensures in
    let x = c.get.array_long in
    let count : c.place-i.result.1 + c.min-count.result - c.place-i.result.1 ≡ c.min-count.result = omega arith in
    filling-more c.loop-done.invariant (omega arith) c.place-i.ensures.0 c.in_ok-part.ensures c.from.ensures c.place-i.result.1 c.min-count.result c.in_ok-get.ensures.rule c.in_ok-get.ensures.done c.place-i.ensures.1 (h ∙ ap (λ (k : ℕ). written c.loop-done.into c.loop-done.done (take k (drop c.place-i.result.1 c.get.new.into))) count) refl (omega arith) (omega arith) (let o = c.place-i.ensures.1 in omega arith) x

pub returns : goal.returns
returns g c = filling-all c.loop-done.invariant (elim (cases_lt (length c.args.into.now) (c.loop-done.done + 1)) [ inl l ↦ inl (omega arith) | inr l ↦ inr (omega arith) ])
