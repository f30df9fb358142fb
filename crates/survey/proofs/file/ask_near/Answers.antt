use Rattle.std.proofs.Common.{refl, ap, arith}
use Rattle.survey.specs.Asks.{told_layout, near_turn}
use Rattle.survey.proofs.Tellings.{exit, tells_said, t_start, t_more, t_broke}
use Rattle.survey.proofs.Files.{near_asked, near_all}
use Rattle.survey.proofs.file.ask_near.Goals as goal

pub loop-i-init : goal.loop-i-init
loop-i-init c = λ b rows p. t_start _ (near_turn b c.args.first.0) 1

pub loop-i-preserved : goal.loop-i-preserved
loop-i-preserved c = λ b rows p.
    t_more (near_turn b c.args.first.0) 1 _ (omega arith) (c.loop-i.invariant b rows p)
    (near_asked b _ p c.args.first.0 _ _ _ (omega arith) c.last_sector-last.ensures (c.in_ok-link.ensures.told rows))

pub returns-in_err-link : goal.returns-in_err-link
returns-in_err-link c = λ b rows p.
    tells_said (λ w. near_all b c.args.first.0 64 w refl) (ap told_layout (exit _ c.from_residual.ensures.1))
    (t_broke (near_turn b c.args.first.0) 1 _ 64 (omega arith) (omega arith) (c.loop-i.invariant b rows p)
    (near_asked b _ p c.args.first.0 _ _ _ (omega arith) c.last_sector-last.ensures (c.in_err-link.ensures.told rows)))

pub returns : goal.returns
returns c = λ b rows p. tells_said (λ w. near_all b c.args.first.0 _ w (omega arith)) refl (c.loop-i.invariant b rows p)
