use Rattle.std.proofs.Common.{◌≡◌, ◌+◌, cond, sym, ap, ◌∙◌, arith}
use Rattle.trial.proofs.Stops.{looked-more, counts-err}
use Rattle.trial.proofs.stop.count_wrong.Goals as goal
use Rattle.trial.proofs.stop.count_wrong.Goals.{then-not-branch, else-not-branch}

pub returns-in_err-look : goal.returns-in_err-look
returns-in_err-look g c =
    let e = c.size-k-end.ensures.is in
    counts-err _ _ _ _ _ _ (omega arith) c.loop-k.invariant _ _ c.from_residual.ensures.1 c.in_err-look.ensures

pub loop-k-preserved : goal.loop-k-preserved
loop-k-preserved g c =
    let e = c.size-k-end.ensures.is in
    let w = c.loop-k.wrong in
    let none : w ≡ w + 0 = omega arith in
    looked-more _ _ _ _ _ _ (omega arith) c.loop-k.invariant c.in_ok-look.field-0 _ c.in_ok-look.ensures
    (elim c.if-not-branch.branch [
      | then-not-branch v ↦ v.wrong-is ∙ sym (ap (λ b. w + cond b 0 1) v.if-not-branch.true)
      | else-not-branch v ↦ v.wrong-is ∙ (none ∙ sym (ap (λ b. w + cond b 0 1) v.if-not-branch.false))
    ])
