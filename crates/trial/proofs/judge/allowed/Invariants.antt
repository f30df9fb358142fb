use Rattle.std.proofs.Common.{[], ◌∷◌, take}
use Rattle.plan.specs.Plans.{blank}
use Rattle.trial.specs.Leaves.{leaves}
use Rattle.trial.specs.Judges.{Knows}
use Rattle.trial.proofs.judge.allowed.Given as goal

abbrev pub invariant-loop-step : goal.invariant-loop-step
invariant-loop-step l = Knows l.judged l.shown (leaves l.sector (blank ∷ []) (take l.step-index l.steps))
