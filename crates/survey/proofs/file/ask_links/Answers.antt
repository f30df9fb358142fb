use Rattle.std.proofs.Common.{Ok, Err, refl, ap}
use Rattle.survey.specs.Asks.{told, near_asks, table_asks}
use Rattle.survey.proofs.Tellings.{exit, still, s_said, s_then, s_stop}
use Rattle.survey.proofs.file.ask_links.Goals as goal

pub returns-in_err-ask_near : goal.returns-in_err-ask_near
returns-in_err-ask_near g c = λ b rows p.
    s_said (λ w s. refl) (ap told (exit _ c.from_residual.ensures.1))
    (s_stop (near_asks b c.args.first.0) (table_asks b c.args.first.0) (still {T = Unit {0}} _ (Err c.in_err-ask_near.field-0.0) (c.in_err-ask_near.ensures b rows p)))

pub returns : goal.returns
returns g c = λ b rows p.
    s_then (near_asks b c.args.first.0) (table_asks b c.args.first.0) (still {T = Unit {0}} _ (Ok tt) (c.in_ok-ask_near.ensures b rows p)) (c.ask_tables.ensures b rows p)
