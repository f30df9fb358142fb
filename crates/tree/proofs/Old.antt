-- The pages of a tree as marks.
use Rattle.std.proofs.Common.{◌≡◌, ℕ, zero, suc, Bool, true, false, ◌&&◌, ◌||◌, eqb, ◌⊎◌, List, [], ◌∷◌, ◌++◌, length, refl, ap, ◌∙◌, subst, ap₂, inl, inr, sym}
use Rattle.std.proofs.lemmas.Bool.{and_parts, and_from, or_cases, or_left, or_right, eqb-true, eq-eqb, false≢true, true≢false}
use Rattle.numbers.specs.Order.{Cmp, IsOrder}
use Rattle.tree.specs.Tree.{Entry, Item, item, page, Sub, at, All, Child, flat_rest, flat, Rises}
use Rattle.tree.specs.Laws.{find}
use Rattle.tree.specs.Fresh.{IsSame, any_rest, same_entry, same_rest, same_page, same_sub, has}
use Rattle.tree.proofs.Lists.{rises-left, rises-right, child_map}
use Rattle.tree.proofs.Marks.{Some, AtHome, SomeChild, Marked, New, Marks, EachChild, each-child}
use Rattle.tree.proofs.Homes.{Each, each_map, home_in, home, home_same, home-first, home-later, home-own}

module _ {K : Type 0} (o o' : (n : ℕ) → Sub K n → Bool) (more : (n : ℕ) (s : Sub K n) → o n s ≡ true → o' n s ≡ true) where
  marked_more : (n : ℕ) (t : Sub K n) → Marked K o n t → Marked K o' n t
  marked_more zero t h = tt
  marked_more (suc n) (page c xs) h = (more (suc n) (page c xs) h.0, marked_more n c h.1, child_map (Marked K o n) (Marked K o' n) (λ d k. marked_more n d k) xs h.2)

module _ {K : Type 0} (eq : K → K → Bool) (is : IsSame K eq) where
  pub entry-exact : (e g : Entry K) → same_entry eq e g ≡ true → e ≡ g
  entry-exact (k, v) (l, w) h = let p = and_parts (eq k l) (eqb v w) h in ap₂ (λ (a : K) (b : ℕ). (a, b)) (is.exact k l p.0) (eqb-true v w p.1)

  rest-refl : {S : Type 0} (f : S → S → Bool) → ((c : S) → f c c ≡ true) → (xs : List (Item K S)) → same_rest eq f xs xs ≡ true
  rest-refl f r [] = refl
  rest-refl f r (item e d ∷ xs) = and_from _ _ (and_from _ _ (is.itself e.0) (eq-eqb e.1 e.1 refl)) (and_from _ _ (r d) (rest-refl f r xs))

  pub sub_refl : (n : ℕ) (t : Sub K n) → same_sub eq n n t t ≡ true
  sub_refl zero t = refl
  sub_refl (suc n) (page c xs) = and_from _ _ (sub_refl n c) (rest-refl (same_sub eq n n) (sub_refl n) xs)

  in-first : (m : ℕ) (c : Sub K m) (xs : List (Item K (Sub K m))) (n : ℕ) (s : Sub K n) → has eq m c n s ≡ true → has eq (suc m) (page c xs) n s ≡ true
  in-first m c xs n s h = or_right (same_sub eq (suc m) n (page c xs) s) (has eq m c n s || any_rest (λ d. has eq m d n s) xs) (or_left (has eq m c n s) (any_rest (λ d. has eq m d n s) xs) h)

  in_rest : (m : ℕ) (c : Sub K m) (xs : List (Item K (Sub K m))) (n : ℕ) (s : Sub K n) → any_rest (λ d. has eq m d n s) xs ≡ true → has eq (suc m) (page c xs) n s ≡ true
  in_rest m c xs n s h = or_right (same_sub eq (suc m) n (page c xs) s) (has eq m c n s || any_rest (λ d. has eq m d n s) xs) (or_right (has eq m c n s) (any_rest (λ d. has eq m d n s) xs) h)

  -- every page of a tree is one of it
  rest-marked : (m : ℕ) (o : (n : ℕ) → Sub K n → Bool) (xs : List (Item K (Sub K m))) → ((n : ℕ) (s : Sub K n) → any_rest (λ d. has eq m d n s) xs ≡ true → o n s ≡ true) →
      ((d : Sub K m) → Marked K (λ n s. has eq m d n s) m d) → All (Child (Marked K o m)) xs
  rest-marked m o [] inc each = tt
  rest-marked m o (item e d ∷ xs) inc each =
      (marked_more (λ n s. has eq m d n s) o (λ n s h. inc n s (or_left _ _ h)) m d (each d), rest-marked m o xs (λ n s h. inc n s (or_right _ _ h)) each)

  pub has-marked : (m : ℕ) (t : Sub K m) → Marked K (λ n s. has eq m t n s) m t
  has-marked zero t = tt
  has-marked (suc m) (page c xs) = (
    or_left _ _ (sub_refl (suc m) (page c xs)),
    marked_more (λ n s. has eq m c n s) (λ n s. has eq (suc m) (page c xs) n s) (in-first m c xs) m c (has-marked m c),
    rest-marked m (λ n s. has eq (suc m) (page c xs) n s) xs (in_rest m c xs) (λ d. has-marked m d),
  )

  -- with a page its children are pages of the tree
  same-has : (m n : ℕ) (d : Sub K m) (c : Sub K (suc n)) → same_sub eq m (suc n) d c ≡ true → has eq m d (suc n) c ≡ true
  same-has zero n d c h = cc
  same-has (suc m) n d c h = or_left _ _ h

  rest_has : (m n : ℕ) (P : Sub K (suc n) → Type 0) (ys : List (Item K (Sub K m))) (xs : List (Item K (Sub K (suc n)))) → ((x : Sub K (suc n)) → any_rest (λ d. has eq m d (suc n) x) ys ≡ true → P x) →
      same_rest eq (same_sub eq m (suc n)) ys xs ≡ true → All (Child P) xs
  rest_has m n P [] [] inc h = tt
  rest_has m n P [] (x ∷ xs) inc h = absurd (false≢true h)
  rest_has m n P (y ∷ ys) [] inc h = tt
  rest_has m n P (item e d ∷ ys) (item g c ∷ xs) inc h =
      let p = and_parts (same_entry eq e g) (same_sub eq m (suc n) d c && same_rest eq (same_sub eq m (suc n)) ys xs) h in
      let q = and_parts (same_sub eq m (suc n) d c) (same_rest eq (same_sub eq m (suc n)) ys xs) p.1 in
      (inc c (or_left _ _ (same-has m n d c q.0)), rest_has m n P ys xs (λ x k. inc x (or_right _ _ k)) q.1)

  abbrev pub HasAll : (M : ℕ) (t : Sub K M) (n : ℕ) → Sub K (suc (suc n)) → Type 0
  HasAll M t n p = EachChild (λ d. has eq M t (suc n) d ≡ true) p

  -- a page found in c or in one of the children ys right of it, of which each is closed
  pub kids-closed : (m n : ℕ) (T : Sub K (suc n) → Type 0) (p : Sub K (suc (suc n))) → ((d : Sub K m) → has eq m d (suc (suc n)) p ≡ true → HasAll m d n p) → (c : Sub K m) (ys : List (Item K (Sub K m))) →
      ((x : Sub K (suc n)) → (has eq m c (suc n) x || any_rest (λ d. has eq m d (suc n) x) ys) ≡ true → T x) → (has eq m c (suc (suc n)) p || any_rest (λ d. has eq m d (suc (suc n)) p) ys) ≡ true → EachChild T p
  kids-closed m n T p each c [] inc h = go (or_cases (has eq m c (suc (suc n)) p) false h)
    where
      go : (has eq m c (suc (suc n)) p ≡ true) ⊎ (false ≡ true) → EachChild T p
      go (inl e) = each-child _ T (λ x k. inc x (or_left (has eq m c (suc n) x) false k)) p (each c e)
      go (inr e) = absurd (false≢true e)
  kids-closed m n T p each c (item g b ∷ ys) inc h =
      go (kids-closed m n T p each b ys (λ x k. inc x (or_right (has eq m c (suc n) x) (has eq m b (suc n) x || any_rest (λ d. has eq m d (suc n) x) ys) k))) (or_cases (has eq m c (suc (suc n)) p) (has eq m b (suc (suc n)) p || any_rest (λ d. has eq m d (suc (suc n)) p) ys) h)
    where
      go : ((has eq m b (suc (suc n)) p || any_rest (λ d. has eq m d (suc (suc n)) p) ys) ≡ true → EachChild T p) → (has eq m c (suc (suc n)) p ≡ true) ⊎ ((has eq m b (suc (suc n)) p || any_rest (λ d. has eq m d (suc (suc n)) p) ys) ≡ true) → EachChild T p
      go rec (inl e) = each-child _ T (λ x k. inc x (or_left (has eq m c (suc n) x) (has eq m b (suc n) x || any_rest (λ d. has eq m d (suc n) x) ys) k)) p (each c e)
      go rec (inr e) = rec e

  pub has-closed : (m : ℕ) (t : Sub K m) (n : ℕ) (p : Sub K (suc (suc n))) → has eq m t (suc (suc n)) p ≡ true → HasAll m t n p
  has-closed zero t n p h = absurd (false≢true h)
  has-closed (suc m) (page d ys) n (page c xs) h =
      go (λ b k. has-closed m b n (page c xs) k) (or_cases (same_page eq (same_sub eq m (suc n)) (page d ys) (page c xs)) (has eq m d (suc (suc n)) (page c xs) || any_rest (λ d. has eq m d (suc (suc n)) (page c xs)) ys) h)
    where
      go : ((b : Sub K m) → has eq m b (suc (suc n)) (page c xs) ≡ true → HasAll m b n (page c xs)) →
          (same_page eq (same_sub eq m (suc n)) (page d ys) (page c xs) ≡ true) ⊎ ((has eq m d (suc (suc n)) (page c xs) || any_rest (λ d. has eq m d (suc (suc n)) (page c xs)) ys) ≡ true) → HasAll (suc m) (page d ys) n (page c xs)
      go r (inl h) =
          let p = and_parts (same_sub eq m (suc n) d c) (same_rest eq (same_sub eq m (suc n)) ys xs) h in
          (in-first m d ys (suc n) c (same-has m n d c p.0), rest_has m n (λ x. has eq (suc m) (page d ys) (suc n) x ≡ true) ys xs (λ s k. in_rest m d ys (suc n) s k) p.1)
      go r (inr h) =
          kids-closed m n (λ x. has eq (suc m) (page d ys) (suc n) x ≡ true) (page c xs) r d ys
          (λ x k. or_right (same_sub eq (suc m) (suc n) (page d ys) x) (has eq m d (suc n) x || any_rest (λ b. has eq m b (suc n) x) ys) k) h

  -- the same page has the same entries, on the same level
  pub level-same : (m n : ℕ) (s : Sub K m) (t : Sub K n) → same_sub eq m n s t ≡ true → m ≡ n
  level-same zero zero s t h = refl
  level-same zero (suc n) s t h = cc
  level-same (suc m) zero s t h = cc
  level-same (suc m) (suc n) (page c xs) (page d ys) h = ap suc (level-same m n c d (and_parts (same_sub eq m n c d) (same_rest eq (same_sub eq m n) xs ys) h).0)

  length-same : {S T : Type 0} (f : S → T → Bool) (xs : List (Item K S)) (ys : List (Item K T)) → same_rest eq f xs ys ≡ true → length xs ≡ length ys
  length-same f [] [] h = refl
  length-same f [] (y ∷ ys) h = cc
  length-same f (x ∷ xs) [] h = cc
  length-same f (item e c ∷ xs) (item g d ∷ ys) h = ap suc (length-same f xs ys (and_parts (f c d) (same_rest eq f xs ys) (and_parts (same_entry eq e g) (f c d && same_rest eq f xs ys) h).1).1)

  each_same : {S T : Type 0} (P : Entry K → Type 0) (f : S → T → Bool) (xs : List (Item K S)) (ys : List (Item K T)) → same_rest eq f xs ys ≡ true → All (Each P) xs → All (Each P) ys
  each_same P f [] [] h a = tt
  each_same P f [] (y ∷ ys) h a = absurd (false≢true h)
  each_same P f (x ∷ xs) [] h a = tt
  each_same P f (item e c ∷ xs) (item g d ∷ ys) h a =
      let p = and_parts (same_entry eq e g) (f c d && same_rest eq f xs ys) h in
      let q = and_parts (f c d) (same_rest eq f xs ys) p.1 in
      (subst P (entry-exact e g p.0) a.0, each_same P f xs ys q.1 a.1)

  module _ (cmp : K → K → Cmp) (ord : IsOrder K cmp) where
    -- in t, e is at home on level n in a page of l entries
    abbrev Stands : (m : ℕ) → Sub K m → ℕ → ℕ → Entry K → Type 0
    Stands m t n l e = (home cmp m e.0 t ≡ (n, l, e.1)) × (find cmp e.0 (flat K m t) ≡ at e.1)

    abbrev StandsIn : (m j k : ℕ) → Sub K m → List (Item K (Sub K m)) → ℕ → ℕ → Entry K → Type 0
    StandsIn m j k c ys n l e = (home_in cmp (home cmp m e.0) j k e.0 c ys ≡ (n, l, e.1)) × (find cmp e.0 (flat K m c ++ flat_rest (flat K m) ys) ≡ at e.1)

    -- a page found under c or under one of ys
    under-stands : (m j k n l : ℕ) (p : Sub K (suc n)) (xs : List (Item K (Sub K n))) → ((d : Sub K m) → Rises cmp (flat K m d) → has eq m d (suc n) p ≡ true → All (Each (Stands m d (suc n) l)) xs) →
        (c : Sub K m) (ys : List (Item K (Sub K m))) → Rises cmp (flat K m c ++ flat_rest (flat K m) ys) → (has eq m c (suc n) p || any_rest (λ d. has eq m d (suc n) p) ys) ≡ true → All (Each (StandsIn m j k c ys (suc n) l)) xs
    under-stands m j k n l p xs each c [] r h = go (or_cases (has eq m c (suc n) p) false h)
      where
        go : (has eq m c (suc n) p ≡ true) ⊎ (false ≡ true) → All (Each (StandsIn m j k c [] (suc n) l)) xs
        go (inl h) = each_map _ _ xs (λ e s. let i = home-first cmp ord (flat K m) j k (home cmp m e.0) e.0 e.1 c [] r s.1 in (s.0, i.1)) (each c (rises-left cmp ord (flat K m c) [] r) h)
        go (inr h) = absurd (false≢true h)
    under-stands m j k n l p xs each c (item g d ∷ ys) r h =
        go (under-stands m j k n l p xs each d ys (rises-right cmp ord (flat K m c) _ r).1) (or_cases (has eq m c (suc n) p) (has eq m d (suc n) p || any_rest (λ d. has eq m d (suc n) p) ys) h)
      where
        go : ((has eq m d (suc n) p || any_rest (λ d. has eq m d (suc n) p) ys) ≡ true → All (Each (StandsIn m j k d ys (suc n) l)) xs) →
            (has eq m c (suc n) p ≡ true) ⊎ ((has eq m d (suc n) p || any_rest (λ d. has eq m d (suc n) p) ys) ≡ true) → All (Each (StandsIn m j k c (item g d ∷ ys) (suc n) l)) xs
        go rec (inl h) =
            each_map _ _ xs (λ e s. let i = home-first cmp ord (flat K m) j k (home cmp m e.0) e.0 e.1 c (item g d ∷ ys) r s.1 in (i.0 ∙ s.0, i.1)) (each c (rises-left cmp ord (flat K m c) _ r) h)
        go rec (inr h) = each_map _ _ xs (λ e s. let i = home-later cmp ord (flat K m) j k (home cmp m e.0) e.0 e.1 c g d ys r s.1 in (i.0 ∙ s.0, i.1)) (rec h)

    has-stands : (m : ℕ) (t : Sub K m) → Rises cmp (flat K m t) → (n : ℕ) (c : Sub K n) (xs : List (Item K (Sub K n))) → has eq m t (suc n) (page c xs) ≡ true → All (Each (Stands m t (suc n) (length xs))) xs
    has-stands zero t r n c xs h = absurd (false≢true h)
    has-stands (suc m) (page d ys) r n c xs h =
        go (λ b k i. has-stands m b k n c xs i) (or_cases (same_page eq (same_sub eq m n) (page d ys) (page c xs)) (has eq m d (suc n) (page c xs) || any_rest (λ d. has eq m d (suc n) (page c xs)) ys) h)
      where
        go : ((b : Sub K m) → Rises cmp (flat K m b) → has eq m b (suc n) (page c xs) ≡ true → All (Each (Stands m b (suc n) (length xs))) xs) →
            (same_page eq (same_sub eq m n) (page d ys) (page c xs) ≡ true) ⊎ ((has eq m d (suc n) (page c xs) || any_rest (λ d. has eq m d (suc n) (page c xs)) ys) ≡ true) → All (Each (Stands (suc m) (page d ys) (suc n) (length xs))) xs
        go rec (inl h) =
            let p = and_parts (same_sub eq m n d c) (same_rest eq (same_sub eq m n) ys xs) h in
            let i = level-same m n d c p.0 in let j = length-same (same_sub eq m n) ys xs p.1 in
            subst (λ (z : ℕ). All (Each (StandsIn m (suc m) (length ys) d ys (suc n) z)) xs) j
            (subst (λ (z : ℕ). All (Each (StandsIn m (suc m) (length ys) d ys (suc z) (length ys))) xs) i
            (each_same _ (same_sub eq m n) ys xs p.1 (home-own cmp ord (flat K m) (suc m) (length ys) (λ k. home cmp m k) d ys r)))
        go rec (inr h) = under-stands m (suc m) (length ys) n (length xs) (page c xs) xs rec d ys r h

    -- the pages of a rising tree are marks
    pub has-marks : (m : ℕ) (t : Sub K m) → Rises cmp (flat K m t) → Marks cmp (λ n s. has eq m t n s) (λ k. home cmp m k t)
    has-marks m t r = record { respects = λ a b s. home_same cmp ord m t a b s; closed = closed; own = own }
      where
        o : (n : ℕ) → Sub K n → Bool
        o n s = has eq m t n s

        to-home : (n l : ℕ) (ys : List (Item K (Sub K n))) → All (Each (Stands m t (suc n) l)) ys → All (AtHome (λ k. home cmp m k t) (suc n) l) ys
        to-home n l [] a = tt
        to-home n l (item e d ∷ ys) a = (a.0.0, to-home n l ys a.1)

        own : (n : ℕ) (c : Sub K n) (xs : List (Item K (Sub K n))) → has eq m t (suc n) (page c xs) ≡ true → All (AtHome (λ k. home cmp m k t) (suc n) (length xs)) xs
        own n c xs h = to-home n (length xs) xs (has-stands m t r n c xs h)

        not-rest : (n : ℕ) (xs : List (Item K (Sub K (suc n)))) → All (Child (λ d. has eq m t (suc n) d ≡ true)) xs → Some (Child (λ d. has eq m t (suc n) d ≡ false)) xs → ⊥
        not-rest n [] a s = s
        not-rest n (item e d ∷ xs) a (inl s) = true≢false (sym a.0 ∙ s)
        not-rest n (item e d ∷ xs) a (inr s) = not-rest n xs a.1 s

        none-new : (n : ℕ) (p : Sub K (suc (suc n))) → HasAll m t n p → SomeChild (λ d. has eq m t (suc n) d ≡ false) p → ⊥
        none-new n (page c xs) h (inl s) = true≢false (sym h.0 ∙ s)
        none-new n (page c xs) h (inr s) = not-rest n xs h.1 s

        no-child : (xs : List (Item K (Sub K 0))) → Some (Child (λ (d : Sub K 0). ⊥)) xs → ⊥
        no-child [] s = s
        no-child (item e d ∷ xs) (inl s) = s
        no-child (item e d ∷ xs) (inr s) = no-child xs s

        closed : (n : ℕ) (p : Sub K (suc n)) → has eq m t (suc n) p ≡ true → SomeChild (New cmp (λ n s. has eq m t n s) (λ k. home cmp m k t) n) p → ⊥
        closed zero (page c xs) h (inl s) = s
        closed zero (page c xs) h (inr s) = no-child xs s
        closed (suc n) p h s = none-new n p (has-closed m t n p h) s
