use Rattle.std.proofs.Common.{Ok, Err, refl, ap, ◌∙◌, subst, arith}
use Rattle.disk.specs.Meaning.{Contents}
use Rattle.layout.specs.declared.header.Header.{Header}
use Rattle.survey.specs.Asks.{told, head_asks, HeaderOf}
use Rattle.survey.proofs.Tellings.{exit, still, s_said, s_read, s_unread, got-shown}
use Rattle.survey.proofs.Files.{length-word}
use Rattle.survey.proofs.file.read_head.Goals as goal

pub returns-in_err-get-clause-told : goal.returns-in_err-get-clause-told
returns-in_err-get-clause-told g c = λ x i.
    s_said (λ w s. refl) (ap told (exit _ c.from_residual.ensures.1)) (s_unread _ _ c.in_err-get.ensures.rule c.in_err-get.ensures.done (omega arith))

pub returns-in_err-header-clause-told : goal.returns-in_err-header-clause-told
returns-in_err-header-clause-told g c = λ x i.
    s_said (λ w s. ap (λ (b : Contents). head_asks b c.args.first.0) (got-shown c.in_ok-get.ensures.rule s c.from.ensures)) (ap told (exit _ c.from_residual-in_err-header.ensures.1))
    (s_read c.in_ok-get.ensures.rule c.in_ok-get.ensures.done (still {T = Header} _ (Err c.in_err-header.field-0.0) (c.in_err-header.ensures.told x)))

pub returns-clause-told : goal.returns-clause-told
returns-clause-told g c = λ x i.
    s_said (λ w s. ap (λ (b : Contents). head_asks b c.args.first.0) (got-shown c.in_ok-get.ensures.rule s c.from.ensures)) refl
    (s_read c.in_ok-get.ensures.rule c.in_ok-get.ensures.done (still {T = Header} _ (Ok c.in_ok-header.header) (c.in_ok-header.ensures.told x)))

pub returns-clause-head : goal.returns-clause-head
returns-clause-head g c =
    let rule = c.in_ok-get.ensures.rule.answer in
    let m = g.D.Disk.meaning c.args.disk.now in
    (subst (λ (b : Contents). HeaderOf b c.in_ok-header.header) (rule.filled ∙ ap m.shown c.from.ensures) c.in_ok-header.ensures.head, omega (arith, rule.inside), rule.was)

pub returns-clause-fits : goal.returns-clause-fits
returns-clause-fits g c = (length-word _ _ c.in_ok-header.ensures.head).1
