use Rattle.std.proofs.Common.{sym, ◌∙◌}
use Rattle.std.proofs.Math.Bool.{or-false}
use Rattle.plan.specs.Plans.{blank}
use Rattle.trial.proofs.judge.Judged.at_first.Goals as goal

pub returns : goal.returns
unfolding blank
returns c = let e = c.eq-blank.ensures ∙ sym (or-false _) in (e, e)
