-- The changed pages are those that insert and delete count.
use Rattle.std.proofs.Common.{◌≡◌, ℕ, suc, Bool, refl, arith}
use Rattle.numbers.specs.Order.{Cmp, IsOrder}
use Rattle.tree.specs.Tree.{Sub, Tree, page, Found, absent, at, lookup, lowest}
use Rattle.tree.specs.Delete.{if_found, shrink, del}
use Rattle.tree.specs.Fresh.{has, sum_children, unmarked, changed}
use Rattle.tree.specs.Laws.{InsertChanges, DeleteChanges}
use Rattle.tree.proofs.Homes.{home}
use Rattle.tree.proofs.Old.{has-marked, has-marks}
use Rattle.tree.proofs.InsertCount.{root-new}
use Rattle.tree.proofs.DeleteCount.{root-gone}
use Rattle.tree.proofs.Marks.{Marked, old-none}

module _ {K : Type 0} (cmp : K → K → Cmp) (ord : IsOrder K cmp) where
  pub insert-changes : InsertChanges cmp
  insert-changes eq is t k v g q =
      root-new cmp (λ n s. has eq (suc t.over) t.root n s) (λ k. home cmp (suc t.over) k t.root) (has-marks eq is cmp ord (suc t.over) t.root g.rises)
      t.over (lowest t.over) (k, v) t.root g.filled (has-marked eq is (suc t.over) t.root) q

  -- under a marked root nothing is unmarked
  none_below : (o : (n : ℕ) → Sub K n → Bool) (h : K → ℕ × ℕ × ℕ) (n : ℕ) (p : Sub K (suc n)) → Marked K o (suc n) p → sum_children (unmarked K o n) p ≡ 0
  none_below o h n (page c xs) m = let q = old-none cmp o h (suc n) (page c xs) m in omega arith

  pub delete-changes : DeleteChanges cmp
  delete-changes eq is t k g = go (lookup cmp t k) refl
    where
      o : (n : ℕ) → Sub K n → Bool
      o n s = has eq (suc t.over) t.root n s

      r : Sub K (suc t.over) × ℕ
      r = del cmp (suc t.over) k t.root

      go : (f : Found) → lookup cmp t k ≡ f → let u = if_found {A = Tree K × ℕ} f (t, 0) (shrink t.over r.0 r.1) in changed eq t u.0 ≡ u.1
      go absent e = none_below o (λ k. home cmp (suc t.over) k t.root) t.over t.root (has-marked eq is (suc t.over) t.root)
      go (at w) e = root-gone cmp ord o (λ k. home cmp (suc t.over) k t.root) (has-marks eq is cmp ord (suc t.over) t.root g.rises) t.over k w t.root g.filled (has-marked eq is (suc t.over) t.root) e
