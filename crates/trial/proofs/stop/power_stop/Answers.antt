use Rattle.std.proofs.Common.{take, ap}
use Rattle.trial.proofs.Stops.{reported}
use Rattle.trial.proofs.stop.power_stop.Goals as goal

pub returns : goal.returns
returns g c =
    reported _ g.D.Disk.meaning g.D.Disk.does _ _ _ _ c.args.steps.now _ _ _
    c.run-ending.ensures.done c.run-ending.ensures.ran c.in_ok-restart.ensures.done c.in_ok-restart.ensures.rule
    (ap (λ j. take j c.args.steps.now) c.reach.ensures)
    c.in_ok-wrong.ensures
