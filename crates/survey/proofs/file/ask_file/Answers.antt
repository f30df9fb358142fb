use Rattle.std.proofs.Common.{refl, ap}
use Rattle.survey.specs.Asks.{told}
use Rattle.survey.proofs.Tellings.{exit, s_said}
use Rattle.survey.proofs.Files.{parts, head-only, length-word}
use Rattle.survey.proofs.file.ask_file.Goals as goal

pub returns-in_err-header-clause-told : goal.returns-in_err-header-clause-told
returns-in_err-header-clause-told g c = λ rows.
    s_said (λ w s. refl) (ap told (exit _ c.from_residual.ensures.1)) (head-only c.args.first.0 (c.in_err-header.ensures.told _ c.requires))

pub returns-in_err-ask_links-clause-told : goal.returns-in_err-ask_links-clause-told
returns-in_err-ask_links-clause-told g c = λ rows.
    let h = c.in_ok-header.ensures.head in
    s_said (λ w s. refl) (ap told (exit _ c.from_residual-in_err-ask_links.ensures.1))
    (parts _ c.args.first.0 h.1 refl (c.in_ok-header.ensures.told _ c.requires) (c.in_err-ask_links.ensures _ rows h.0))

pub returns-clause-told : goal.returns-clause-told
returns-clause-told g c = λ rows.
    let h = c.in_ok-header.ensures.head in
    parts _ c.args.first.0 h.1 refl (c.in_ok-header.ensures.told _ c.requires) (c.in_ok-ask_links.ensures _ rows h.0)

pub returns-clause-length : goal.returns-clause-length
returns-clause-length g c =
    let h = c.in_ok-header.ensures.head in
    let l = length-word _ _ h.0 in
    (l.0, l.1, h.1)
