-- How two neighbours share their entries.
use Rattle.std.proofs.Common.{◌≡◌, ℕ, suc, pred, ◌+◌, ◌-◌, ◌<◌, List, [], ◌∷◌, ◌++◌, length, take, drop, ap, ◌∙◌, ap₂, arith}
use Rattle.std.proofs.lemmas.List.{length-take, length-drop, length-append}
use Rattle.tree.specs.Tree.{Entry, Item, item, Page, page}
use Rattle.tree.specs.Insert.{halves}
use Rattle.tree.specs.Delete.{lent, size, even}
use Rattle.tree.specs.Laws.{sizes, Shares}
use Rattle.tree.proofs.EvenCount.{even-joins, even-right, even-left}

module _ {K S : Type 0} where
  halves-sizes : (c : S) (l r : List (Item K S)) (a b : ℕ) → length l ≡ a → length r ≡ suc b → sizes (halves c l r) ≡ a ∷ b ∷ []
  halves-sizes c l [] a b h k = absurd (omega arith)
  halves-sizes c l (item e d ∷ r) a b h k = let i : length r ≡ b = omega arith in ap₂ (λ (x y : ℕ). x ∷ y ∷ []) h i

  joined : (p : Page K S) (e : Entry K) (q : Page K S) → size p + size q ≡ 23 → sizes (even p e q) ≡ 24 ∷ []
  joined (page c xs) e (page d ys) h =
      let l = length-append xs (item e d ∷ ys) in let i : length (xs ++ (item e d ∷ ys)) ≡ 24 = omega arith in rw (even-joins c xs e d ys (omega arith)) (ap (λ (z : ℕ). z ∷ []) i)

  from-right : (p : Page K S) (e : Entry K) (q : Page K S) → size p ≡ 11 → 12 < size q → sizes (even p e q) ≡ (11 + lent (size q)) ∷ (size q - lent (size q)) ∷ []
  from-right (page c xs) e (page d ys) h k =
      let j = pred (lent (length ys)) in let a = length-append xs (item e d ∷ take j ys) in let t = length-take j ys in let r = length-drop j ys in
      rw (even-right c xs e d ys h (omega arith)) (halves-sizes c (xs ++ (item e d ∷ take j ys)) (drop j ys) (11 + lent (length ys)) (length ys - lent (length ys)) (omega arith) (omega arith))

  from-left : (p : Page K S) (e : Entry K) (q : Page K S) → 12 < size p → size q ≡ 11 → sizes (even p e q) ≡ (size p - lent (size p)) ∷ (11 + lent (size p)) ∷ []
  from-left (page c xs) e (page d ys) h k =
      let m = length xs - lent (length xs) in let a = length-append (drop m xs) (item e d ∷ ys) in let t = length-take m xs in let r = length-drop m xs in
      rw (even-left c xs e d ys (omega arith) k) (halves-sizes c (take m xs) (drop m xs ++ (item e d ∷ ys)) m (11 + lent (length xs)) (omega arith) (omega arith))

pub shares : (K S : Type 0) → Shares K S
shares K S = record {
  joined = joined;
  from_right = from-right;
  from_left = from-left;
  of13 = λ p e q h k. from-right p e q h (omega arith) ∙ ap (λ (z : ℕ). (11 + lent z) ∷ (z - lent z) ∷ []) k;
  of24 = λ p e q h k. from-right p e q h (omega arith) ∙ ap (λ (z : ℕ). (11 + lent z) ∷ (z - lent z) ∷ []) k;
}
