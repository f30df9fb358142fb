use Rattle.std.proofs.Common.{sym, ap, ◌∙◌}
use Rattle.std.specs.Ordering.{is_eq}
use Rattle.directory.proofs.Finding.{stands_at, stands-before, stands-behind}
use Rattle.directory.proofs.place.find.Goals as goal

pub returns-in-Some : goal.returns-in-Some
returns-in-Some c =
    rw (← c.page.view_is, ← c.as_slice-entries.ensures.value)
    (stands_at c.args.name.now.bytes c.as_slice-entries.result.now c.in-Some.i _ (sym c.first_reached.ensures ∙ c.in-Some.is)
    (sym (ap is_eq c.compare.ensures) ∙ sym c.is_eq.ensures ∙ c.if-is_eq.true))

pub returns-in-Some-2 : goal.returns-in-Some-2
returns-in-Some-2 c =
    rw (← c.page.view_is, ← c.as_slice-entries.ensures.value)
    (stands-before c.args.name.now.bytes c.as_slice-entries.result.now c.in-Some.i _ (sym c.first_reached.ensures ∙ c.in-Some.is)
    (sym (ap is_eq c.compare.ensures) ∙ sym c.is_eq.ensures ∙ c.if-is_eq.false))

pub returns-in-None : goal.returns-in-None
returns-in-None c =
    rw (← c.page.view_is, ← c.as_slice-entries.ensures.value)
    (stands-behind c.args.name.now.bytes c.as_slice-entries.result.now (sym c.first_reached.ensures ∙ c.in-None.is))
