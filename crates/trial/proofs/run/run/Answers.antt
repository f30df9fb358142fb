use Rattle.std.proofs.Common.{◌≡◌, List, [], length, get_or, take, Err, sym, subst, arith}
use Rattle.std.proofs.lemmas.List.{get_or_default, take_more}
use Rattle.plan.specs.declared.step.Step.{Step}
use Rattle.plan.specs.declared.step.Step.TheVariants.{Put, Settle}
use Rattle.trial.specs.Runs.{Rule, Accepted}
use Rattle.trial.specs.Runs.Accepted.{none, more}
use Rattle.trial.proofs.Steps.{Kept, kept-none, kept_more, ran-stopped, ran-finished}
use Rattle.trial.proofs.run.run.Goals as goal

-- what stands past the end of the steps that the code reads
past : Step
past = Put 0 []

pub loop-i-init : goal.loop-i-init
loop-i-init g c = (kept-none _ c.size.ensures.sound, none)

pub returns-in-Err-clause-ran : goal.returns-in-Err-clause-ran
unfolding past
returns-in-Err-clause-ran g c =
    let lt = c.loop-i-test.true in
    let m = g.D.Disk.meaning c.loop-i.disk in
    let m' = g.D.Disk.meaning c.ask.new.disk in
    ran-stopped _ m m' c.args.steps.now c.loop-i.i c.in-Err.fault lt c.loop-i.invariant.0
    (subst (λ (s : Step). Rule s m (Err c.in-Err.fault) m') (get_or_default c.args.steps.now c.loop-i.i past Settle lt) c.in-Err.ensures.rule)

pub loop-i-preserved : goal.loop-i-preserved
unfolding past
loop-i-preserved g c =
    let ss = c.args.steps.now in
    let i = c.loop-i.i in
    let m₀ = g.D.Disk.meaning c.args.disk.now in
    let m' = g.D.Disk.meaning c.ask.new.disk in
    let e = sym (take_more ss i past c.loop-i-test.true) in
    let h = c.in_default.ensures in (
      subst (λ (l : List Step). Kept m₀ l m') e (kept_more m₀ _ m' (take i ss) c.loop-i.invariant.0 (get_or ss i past) h.rule),
      subst (λ (l : List Step). Accepted g.D.Disk.does c.args.disk.now l c.ask.new.disk) e (more (get_or ss i past) c.loop-i.invariant.1 h.done),
    )

pub returns-clause-ran : goal.returns-clause-ran
returns-clause-ran g c =
    let i = c.loop-i.i in
    let is : length c.args.steps.now ≡ i = omega arith in
    ran-finished _ _ c.args.steps.now i is c.loop-i.invariant.0
