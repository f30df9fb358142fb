use Rattle.std.proofs.Common.{[], ◌∷◌, get_or, take, sym, ap, ◌∙◌, subst}
use Rattle.std.proofs.lemmas.List.{take_more}
use Rattle.plan.specs.Plans.{blank}
use Rattle.plan.specs.declared.step.Step.TheVariants.{Put}
use Rattle.trial.specs.Leaves.{leaves}
use Rattle.trial.specs.Judges.{Knows}
use Rattle.trial.proofs.Steps.{leaves-more}
use Rattle.trial.proofs.judge.allowed.Goals as goal

pub loop-step-preserved : goal.loop-step-preserved
loop-step-preserved c =
    let ss = c.args.steps.now in
    let k = c.args.sector in
    let i = c.loop-step.step-index in
    let e = ap (leaves k (blank ∷ [])) (take_more ss i (Put 0 []) c.loop-step-test.true) ∙ leaves-more k (blank ∷ []) (take i ss) (get_or ss i (Put 0 [])) in
    subst (Knows c.after-judged.result c.args.shown.now) (sym e) (c.after-judged.ensures (leaves k (blank ∷ []) (take i ss)) c.loop-step.invariant)
