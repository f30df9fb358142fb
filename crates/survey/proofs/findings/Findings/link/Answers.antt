use Rattle.std.proofs.Common.{sym, refl, ap}
use Rattle.survey.specs.Asks.{address_asks, told_layout}
use Rattle.survey.proofs.Tellings.{exit, tells_said}
use Rattle.survey.proofs.findings.Findings.link.Goals as goal

pub returns-in_err-sector-clause-told : goal.returns-in_err-sector-clause-told
returns-in_err-sector-clause-told c = λ rows.
    tells_said (λ w. ap (λ d. address_asks d c.args.holder.0 c.args.address.0 w) (sym c.if-due.true)) (ap told_layout (exit _ c.from_residual.ensures.1)) (c.in_err-sector.ensures.told rows)

pub returns-then-due-clause-told : goal.returns-then-due-clause-told
returns-then-due-clause-told c = λ rows.
    tells_said (λ w. ap (λ d. address_asks d c.args.holder.0 c.args.address.0 w) (sym c.if-due.true)) refl (c.in_ok-sector.ensures.told rows)
