-- How a run of a plan ended, and how far it reached.
use Rattle.std.specs.Prelude.{ℕ, ◌+◌, Bool, true, false, cond, List, length, slice_index_or, Ok, Err, Result}
use Rattle.plan.specs.declared.step.Step.{Step}
use Rattle.plan.specs.declared.step.Step.TheVariants.{Put, Settle}
use Rattle.trial.specs.declared.ending.Stop.{Stop}

-- at its end, or at a step that was refused
abbrev pub Ending : Type 0
Ending = Result (Unit {0}) Stop

abbrev pub is_put : Step → Bool
is_put (Put n x) = true
is_put Settle = false

-- how many steps may have come down: where a step was refused, a put may have come down all the same, a settle counts for nothing
abbrev pub reach : Ending → List Step → ℕ
reach (Ok _) ss = length ss
reach (Err p) ss = cond (is_put (slice_index_or ss p.step Settle)) (p.step + 1) p.step
