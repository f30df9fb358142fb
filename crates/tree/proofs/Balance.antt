-- Pages before and those written to free sectors are as many as pages after and those set free.
use Rattle.std.proofs.Common.{◌≡◌, ℕ, zero, suc, ◌+◌, Bool, true, false, cond, ◌||◌, eqb, ◌⊎◌, List, [], ◌∷◌, ◌++◌, length, sym, refl, ap, subst, inl, inr, arith, length-append, ◌∙◌}
use Rattle.std.proofs.lemmas.Bool.{or_cases, or_left, or_right, eqb-true, eq-eqb, ne_eqb, false≢true, true≢false}
use Rattle.tree.specs.Tree.{Item, item, Page, page, Sub, All, pages_rest, pages_page, pages_of}
use Rattle.tree.specs.Fresh.{sum_children, unmarked}
use Rattle.tree.specs.Stored.{Shown, map_rest, map_page, load, SomeRest, SomeKid, Stands, spots_rest, spots_page, spots, Once, within, missing, SpotsStand}
use Rattle.tree.proofs.Places.{Mem, spot-under, under-spot, not-mem}

abbrev common : List ℕ → List ℕ → ℕ
common A [] = 0
common A (x ∷ xs) = cond (within x A) 1 0 + common A xs

split-count : (A B : List ℕ) → length B ≡ common A B + missing A B
split-count A [] = omega arith
split-count A (x ∷ B) = go (within x A) (split-count A B)
  where
    go : (b : Bool) → length B ≡ common A B + missing A B → suc (length B) ≡ (cond b 1 0 + common A B) + (cond b 0 1 + missing A B)
    go true h = omega arith
    go false h = omega arith

pub mem-within : (x : ℕ) (A : List ℕ) → Mem x A → within x A ≡ true
mem-within x [] s = absurd s
mem-within x (y ∷ A) (inl q) = or_left (eqb x y) (within x A) (eq-eqb x y (sym q))
mem-within x (y ∷ A) (inr s) = or_right (eqb x y) (within x A) (mem-within x A s)

not_within : (x : ℕ) (A : List ℕ) → All (λ (y : ℕ). x ≡ y → ⊥) A → within x A ≡ false
not_within x [] h = refl
not_within x (y ∷ A) h = rw (ne_eqb x y h.0) (not_within x A h.1)

pub none_within : (x : ℕ) (A : List ℕ) → (Mem x A → ⊥) → within x A ≡ false
none_within x A h = not_within x A (not-mem x A h)

common-none : (B : List ℕ) → common [] B ≡ 0
common-none [] = refl
common-none (x ∷ B) = let h = common-none B in omega arith

common-more : (x : ℕ) (A B : List ℕ) → All (λ (y : ℕ). x ≡ y → ⊥) A → Once B → common (x ∷ A) B ≡ cond (within x B) 1 0 + common A B
common-more x A [] h o = omega arith
common-more x A (y ∷ B) h o = go (eqb x y) refl (common-more x A B h o.1)
  where
    go : (b : Bool) → eqb x y ≡ b → common (x ∷ A) B ≡ cond (within x B) 1 0 + common A B → cond (eqb y x || within y A) 1 0 + common (x ∷ A) B ≡ cond (eqb x y || within x B) 1 0 + (cond (within y A) 1 0 + common A B)
    go true e r =
        let q : x ≡ y = eqb-true x y e in
        let c₀ : cond {A = ℕ} (eqb x y || within x B) 1 0 ≡ 1 = rw e refl in
        let c₁ : cond {A = ℕ} (eqb y x || within y A) 1 0 ≡ 1 = rw (eq-eqb y x (sym q)) refl in
        let c₂ : cond {A = ℕ} (within y A) 1 0 ≡ 0 = ap (λ (b : Bool). cond {A = ℕ} b 1 0) (subst (λ (z : ℕ). within z A ≡ false) q (not_within x A h)) in
        let c₃ : cond {A = ℕ} (within x B) 1 0 ≡ 0 = ap (λ (b : Bool). cond {A = ℕ} b 1 0) (subst (λ (z : ℕ). within z B ≡ false) (sym q) (not_within y B o.0)) in
        omega arith
    go false e r =
        let c₀ : cond {A = ℕ} (eqb x y || within x B) 1 0 ≡ cond {A = ℕ} (within x B) 1 0 = rw e refl in
        let f : eqb y x ≡ false = ne_eqb y x (λ q. true≢false (sym (eq-eqb x y (sym q)) ∙ e)) in
        let c₁ : cond {A = ℕ} (eqb y x || within y A) 1 0 ≡ cond {A = ℕ} (within y A) 1 0 = rw f refl in
        omega arith

common-same : (A B : List ℕ) → Once A → Once B → common A B ≡ common B A
common-same [] B a b = common-none B
common-same (x ∷ A) B a b = let h = common-same A B a.1 b in let i = common-more x A B a.0 b in omega arith

-- two lists without repeats have as much together, counted from either
pub union : (A B : List ℕ) → Once A → Once B → length A + missing A B ≡ length B + missing B A
union A B a b = let h = common-same A B a b in let i = split-count A B in let j = split-count B A in omega arith

missing-join : (A l r : List ℕ) → missing A (l ++ r) ≡ missing A l + missing A r
missing-join A [] r = omega arith
missing-join A (x ∷ l) r = let h = missing-join A l r in omega arith

-- sectors that are not in A, where A has those of marked pages
module _ {K : Type 0} (o : (n : ℕ) → Sub K n → Bool) (A : List ℕ) (d : Shown K) where
  module _ (n : ℕ) (deeper : (b : ℕ) → ((j x : ℕ) → Stands d n b j x → within x A ≡ o j (load d j x)) → missing A (spots d n b) ≡ unmarked K o n (load d n b)) where
    rest-missing : (xs : List (Item K ℕ)) → ((j x : ℕ) → SomeRest (λ c. Stands d n c j x) xs → within x A ≡ o j (load d j x)) → missing A (spots_rest (spots d n) xs) ≡ pages_rest (unmarked K o n) (map_rest (load d n) xs)
    rest-missing [] h = refl
    rest-missing (item e c ∷ xs) h =
        let i = deeper c (λ j x t. h j x (inl t)) in let k = rest-missing xs (λ j x t. h j x (inr t)) in let l = missing-join A (spots d n c) (spots_rest (spots d n) xs) in omega arith

    page-missing : (p : Page K ℕ) → ((j x : ℕ) → SomeKid (λ c. Stands d n c j x) p → within x A ≡ o j (load d j x)) → missing A (spots_page (spots d n) p) ≡ sum_children (unmarked K o n) (map_page (load d n) p)
    page-missing (page c xs) h =
        let i = deeper c (λ j x t. h j x (inl t)) in let k = rest-missing xs (λ j x t. h j x (inr t)) in let l = missing-join A (spots d n c) (spots_rest (spots d n) xs) in omega arith

  sub-missing : (n b : ℕ) → ((j x : ℕ) → Stands d n b j x → within x A ≡ o j (load d j x)) → missing A (spots d n b) ≡ unmarked K o n (load d n b)
  sub-missing zero b h = refl
  sub-missing (suc n) b h =
      let e : cond {A = ℕ} (within b A) 0 1 ≡ cond {A = ℕ} (o (suc n) (load d (suc n) b)) 0 1 = ap (λ (z : Bool). cond {A = ℕ} z 0 1) (h (suc n) b (inl (refl, refl))) in
      let f = page-missing n (λ c i. sub-missing n c i) (d b) (λ j x t. h j x (inr t)) in
      omega arith

  pub root-missing : (n r : ℕ) → ((j x : ℕ) → SomeKid (λ c. Stands d n c j x) (d r) → within x A ≡ o j (load d j x)) → missing A (spots_page (spots d n) (d r)) ≡ sum_children (unmarked K o n) (load d (suc n) r)
  root-missing n r h = page-missing n (λ c i. sub-missing n c i) (d r) h

-- as many sectors as pages
module _ {K : Type 0} (d : Shown K) where
  module _ (n : ℕ) (deeper : (b : ℕ) → length (spots d n b) ≡ pages_of K n (load d n b)) where
    rest-length : (xs : List (Item K ℕ)) → length (spots_rest (spots d n) xs) ≡ pages_rest (pages_of K n) (map_rest (load d n) xs)
    rest-length [] = refl
    rest-length (item e c ∷ xs) = let i = deeper c in let k = rest-length xs in let l = length-append (spots d n c) (spots_rest (spots d n) xs) in omega arith

    page-length : (p : Page K ℕ) → suc (length (spots_page (spots d n) p)) ≡ pages_page (pages_of K n) (map_page (load d n) p)
    page-length (page c xs) = let i = deeper c in let k = rest-length xs in let l = length-append (spots d n c) (spots_rest (spots d n) xs) in omega arith

  pub sub-length : (n b : ℕ) → length (spots d n b) ≡ pages_of K n (load d n b)
  sub-length zero b = refl
  sub-length (suc n) b = page-length n (λ c. sub-length n c) (d b)

  pub root-length : (n r : ℕ) → suc (length (spots_page (spots d n) (d r))) ≡ pages_of K (suc n) (load d (suc n) r)
  root-length n r = page-length n (λ c. sub-length n c) (d r)

within-mem : (x : ℕ) (A : List ℕ) → within x A ≡ true → Mem x A
within-mem x [] e = absurd (false≢true e)
within-mem x (y ∷ A) e = go (within-mem x A) (or_cases (eqb x y) (within x A) e)
  where
    go : (within x A ≡ true → Mem x A) → (eqb x y ≡ true) ⊎ (within x A ≡ true) → Mem x (y ∷ A)
    go f (inl e) = inl (sym (eqb-true x y e))
    go f (inr e) = inr (f e)

pub spots-stand : (K : Type 0) → SpotsStand K
spots-stand K d n r x = let l = spots_page (spots d n) (d r) in (λ j s. mem-within x l (under-spot d x n r j s), λ e. spot-under d x n r (within-mem x l e))
