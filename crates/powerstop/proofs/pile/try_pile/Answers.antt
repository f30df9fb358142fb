use Rattle.std.proofs.Common.{rules, ◌≡◌, ◌*◌, List, ℕ, replicate, subst}
use Rattle.powerstop.specs.Tries.{Tried}
use Rattle.powerstop.proofs.pile.try_pile.Goals as goal

pub returns-clause-ran : goal.returns-clause-ran
returns-clause-ran c =
    let e : c.deref_mut.result.now ≡ replicate (1024 * c.args.size) 0 = search rules in
    subst (λ (l : List ℕ). Tried c.args.setup.passes l c.args.steps.now c.args.setup.pile c.try_over.result) e c.try_over.ensures.ran
