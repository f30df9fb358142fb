-- The changed pages: those of the new tree, its root apart, that are not pages of the old tree as they stood.
use Rattle.std.specs.Prelude.{◌≡◌, ℕ, zero, suc, ◌+◌, Bool, true, false, cond, ◌&&◌, ◌||◌, List, [], ◌∷◌, ◌==◌}
use Rattle.tree.specs.Tree.{Entry, Item, item, Page, page, Sub, Tree, pages_rest}

-- a test that tells whether two names are one and the same, to the letter
pub record IsSame (K : Type 0) (eq : K → K → Bool) : Type 0 where
  pub itself : (a : K) → eq a a ≡ true
  pub exact : (a b : K) → eq a b ≡ true → a ≡ b

module _ {K : Type 0} where
  -- has one of the children of a page what f asks?
  abbrev pub any_rest : {S : Type 0} → (S → Bool) → List (Item K S) → Bool
  any_rest f [] = false
  any_rest f (item e d ∷ xs) = f d || any_rest f xs

  abbrev pub any_child : {S : Type 0} → (S → Bool) → Page K S → Bool
  any_child f (page c xs) = f c || any_rest f xs

  -- the sum over the children of a page
  abbrev pub sum_children : {S : Type 0} → (S → ℕ) → Page K S → ℕ
  sum_children f (page c xs) = f c + pages_rest f xs

module _ {K : Type 0} (eq : K → K → Bool) where
  abbrev pub same_entry : Entry K → Entry K → Bool
  same_entry e d = eq e.0 d.0 && e.1 == d.1

  -- the same entries with the same children, as f compares them
  abbrev pub same_rest : {S T : Type 0} → (S → T → Bool) → List (Item K S) → List (Item K T) → Bool
  same_rest f [] [] = true
  same_rest f [] (y ∷ ys) = false
  same_rest f (x ∷ xs) [] = false
  same_rest f (item e c ∷ xs) (item g d ∷ ys) = same_entry e g && (f c d && same_rest f xs ys)

  abbrev pub same_page : {S T : Type 0} → (S → T → Bool) → Page K S → Page K T → Bool
  same_page f (page c xs) (page d ys) = f c d && same_rest f xs ys

  -- the same page with the same below it
  abbrev pub same_sub : (m n : ℕ) → Sub K m → Sub K n → Bool
  same_sub zero zero s t = true
  same_sub zero (suc n) s t = false
  same_sub (suc m) zero s t = false
  same_sub (suc m) (suc n) s t = same_page (same_sub m n) s t

  -- is s a page of t?
  abbrev pub has : (m : ℕ) → Sub K m → (n : ℕ) → Sub K n → Bool
  has zero t n s = false
  has (suc m) t n s = same_sub (suc m) n t s || any_child (λ d. has m d n s) t

-- the pages of t that o does not mark
abbrev pub unmarked : (K : Type 0) → ((n : ℕ) → Sub K n → Bool) → (n : ℕ) → Sub K n → ℕ
unmarked K o zero t = 0
unmarked K o (suc n) t = cond (o (suc n) t) 0 1 + sum_children (unmarked K o n) t

-- the pages of the new tree, its root apart, that are not pages of the old one
abbrev pub changed : {K : Type 0} → (K → K → Bool) → Tree K → Tree K → ℕ
changed {K} eq old new = sum_children (unmarked K (λ n t. has eq (suc old.over) old.root n t) new.over) new.root
