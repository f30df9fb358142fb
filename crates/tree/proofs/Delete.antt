use Rattle.std.proofs.Common.{◌≡◌, ℕ, zero, suc, ◌+◌, Bool, true, false, cond, leb, List, [], ◌∷◌, ◌++◌, length, sym, refl, ◌∙◌, append_assoc, append-nil, arith}
use Rattle.numbers.specs.Order.{Cmp, below, same, above, IsOrder}
use Rattle.tree.specs.Tree.{Entry, Item, item, Page, page, Sub, flat_rest, flat_page, flat, pick, Found, absent, at, lookup, Tree, to_list, Rises}
use Rattle.tree.specs.Insert.{Up, one, splice, before, cut}
use Rattle.tree.specs.Delete.{share, even, mend_page, mend, Got, none, got, max_last, past, alone, max_in, max_page, fill, back, del_in, del_page, take_max, del, shrink, if_found}
use Rattle.tree.specs.Laws.{without, DeleteTakes}
use Rattle.tree.proofs.Mend.{mended}
use Rattle.tree.proofs.Lists.{rises-left, rises-right, rises-mid, past_same, past-above, without-skip, without-left, not-nil, find_absent}
use Rattle.tree.proofs.Look.{lookup-finds}
use Rattle.tree.proofs.Insert.{flat_up, splice-flat, before-flat, rest-append, cut-flat}

module _ {K : Type 0} (cmp : K → K → Cmp) (ord : IsOrder K cmp) where
  module _ {S : Type 0} (φ : S → List (Entry K)) where
    glue-flat : (c : S) (xs : List (Item K S)) (e : Entry K) (d : S) (ys : List (Item K S)) → φ c ++ flat_rest φ (xs ++ (item e d ∷ ys)) ≡ (φ c ++ flat_rest φ xs) ++ (e ∷ (φ d ++ flat_rest φ ys))
    glue-flat c xs e d ys = rw (rest-append φ xs (item e d ∷ ys)) (sym (append_assoc (φ c) (flat_rest φ xs) (flat_rest φ (item e d ∷ ys))))

    even-flat : (p : Page K S) (e : Entry K) (q : Page K S) → flat_up (flat_page φ) (even p e q) ≡ flat_page φ p ++ (e ∷ flat_page φ q)
    even-flat (page c xs) e (page d ys) = go (leb (length (xs ++ (item e d ∷ ys))) 24)
      where
        go : (b : Bool) → flat_up (flat_page φ) (cond b (one (page c (xs ++ (item e d ∷ ys)))) (cut (share (length xs) (length ys)) c (xs ++ (item e d ∷ ys)))) ≡ flat_page φ (page c xs) ++ (e ∷ flat_page φ (page d ys))
        go true = glue-flat c xs e d ys
        go false = cut-flat φ (share (length xs) (length ys)) c (xs ++ (item e d ∷ ys)) ∙ glue-flat c xs e d ys

    mend_page-flat : (p : Page K S) (e : Entry K) (q : Page K S) → flat_up (flat_page φ) (mend_page p e q).0 ≡ flat_page φ p ++ (e ∷ flat_page φ q)
    mend_page-flat p e q = mended (λ r. flat_up (flat_page φ) r.0 ≡ flat_page φ p ++ (e ∷ flat_page φ q)) p e q (λ k. even-flat p e q) (λ k l. even-flat p e q) (λ k l. refl)

  pub mend-flat : (n : ℕ) (c : Sub K n) (e : Entry K) (d : Sub K n) → flat_up (flat K n) (mend K n c e d).0 ≡ flat K n c ++ (e ∷ flat K n d)
  mend-flat zero c e d = refl
  mend-flat (suc n) c e d = mend_page-flat (flat K n) c e d

  -- l is what a subtree had before its largest entry was taken
  abbrev pub GotFlat : {S : Type 0} → (S → List (Entry K)) → Got K S → List (Entry K) → Type 0
  GotFlat φ none l = l ≡ []
  GotFlat φ (got x c n) l = l ≡ φ c ++ (x ∷ [])

  module _ {S : Type 0} (φ : S → List (Entry K)) (m : S → Entry K → S → Up K S × ℕ) (mends : (c : S) (e : Entry K) (d : S) → flat_up φ (m c e d).0 ≡ φ c ++ (e ∷ φ d))
      (g : S → Got K S) (takes : (c : S) → GotFlat φ (g c) (φ c)) where
    spliced : (c : S) (e : Entry K) (d : S) (xs : List (Item K S)) → flat_page φ (splice (m c e d).0 xs) ≡ φ c ++ (e ∷ (φ d ++ flat_rest φ xs))
    spliced c e d xs = splice-flat φ (m c e d).0 xs ∙ rw (mends c e d) (append_assoc (φ c) (e ∷ φ d) (flat_rest φ xs))

    alone-flat : (u : Got K S) (l : List (Entry K)) → GotFlat φ u l → GotFlat (flat_page φ) (alone m u) (l ++ [])
    alone-flat none l h = rw append-nil h
    alone-flat (got x c n) l h = rw append-nil (rw append-nil h)

    last_flat : (c : S) (e : Entry K) (u : Got K S) (l : List (Entry K)) → GotFlat φ u l → GotFlat (flat_page φ) (max_last m c e u) (φ c ++ (e ∷ (l ++ [])))
    last_flat c e none l h = rw h (rw (append-nil (φ c)))
    last_flat c e (got x d n) l h = rw (spliced c e d []) (simp (append-nil, h, append_assoc))

    past-flat : (c : S) (e : Entry K) (u : Got K (Page K S)) (l : List (Entry K)) (y : Entry K) (r : List (Entry K)) → GotFlat (flat_page φ) u (l ++ (y ∷ r)) → GotFlat (flat_page φ) (past m c e u) (φ c ++ (e ∷ (l ++ (y ∷ r))))
    past-flat c e none l y r h = absurd (let z = not-nil l y r h in omega arith)
    past-flat c e (got x p n) l y r h = rw h (rw (before-flat φ c e p) (sym (append_assoc (φ c) (e ∷ flat_page φ p) (x ∷ []))))

    max_in-flat : (c : S) (xs : List (Item K S)) → GotFlat (flat_page φ) (max_in m g c xs) (φ c ++ flat_rest φ xs)
    max_in-flat c [] = alone-flat (g c) (φ c) (takes c)
    max_in-flat c (item e d ∷ []) = last_flat c e (g d) (φ d) (takes d)
    max_in-flat c (item e d ∷ item y b ∷ ys) = past-flat c e (max_in m g d (item y b ∷ ys)) (φ d) y (φ b ++ flat_rest φ ys) (max_in-flat d (item y b ∷ ys))

    pub max_page-flat : (p : Page K S) → GotFlat (flat_page φ) (max_page m g p) (flat_page φ p)
    max_page-flat (page c xs) = max_in-flat c xs

    fill-flat : (q : Up K S → ℕ) (u : Got K S) (l : List (Entry K)) (d : S) (xs : List (Item K S)) → GotFlat φ u l → flat_page φ (fill m q u d xs).0 ≡ l ++ (φ d ++ flat_rest φ xs)
    fill-flat q none l d xs h = rw h
    fill-flat q (got x c n) l d xs h = spliced c x d xs ∙ rw h (sym (append_assoc (φ c) (x ∷ []) (φ d ++ flat_rest φ xs)))

    module _ (kept : S → Up K S → ℕ) (k : K) (f : S → S × ℕ) (right : (c : S) → Rises cmp (φ c) → φ (f c).0 ≡ without cmp k (φ c)) where
      -- the three cases, at a page φ c, e, r
      case-below : (c : S) (e : Entry K) (d : S) (xs : List (Item K S)) → cmp k e.0 ≡ below → Rises cmp (φ c ++ (e ∷ (φ d ++ flat_rest φ xs))) →
          flat_page φ (splice (m (f c).0 e d).0 xs) ≡ without cmp k (φ c ++ (e ∷ (φ d ++ flat_rest φ xs)))
      case-below c e d xs b h = spliced (f c).0 e d xs ∙ rw (right c (rises-left cmp ord (φ c) _ h)) (sym (without-left cmp ord k (φ c) e (φ d ++ flat_rest φ xs) b))

      case_same : (c : S) (e : Entry K) (d : S) (xs : List (Item K S)) → cmp k e.0 ≡ same → Rises cmp (φ c ++ (e ∷ (φ d ++ flat_rest φ xs))) →
          flat_page φ (fill m (kept c) (g c) d xs).0 ≡ without cmp k (φ c ++ (e ∷ (φ d ++ flat_rest φ xs)))
      case_same c e d xs b h = fill-flat (kept c) (g c) (φ c) d xs (takes c) ∙ sym (without-skip cmp ord k (φ c) (e ∷ (φ d ++ flat_rest φ xs)) (past_same cmp ord k e (φ c) b (rises-mid cmp ord (φ c) e _ h)) ∙ rw b)

      case-above : (c : S) (e : Entry K) (r : List (Entry K)) → cmp k e.0 ≡ above → Rises cmp (φ c ++ (e ∷ r)) → φ c ++ (e ∷ without cmp k r) ≡ without cmp k (φ c ++ (e ∷ r))
      case-above c e r b h = sym (without-skip cmp ord k (φ c) (e ∷ r) (past-above cmp ord k e (φ c) b (rises-mid cmp ord (φ c) e r h)) ∙ rw b)

      del_in-flat : (c : S) (xs : List (Item K S)) → Rises cmp (φ c ++ flat_rest φ xs) → flat_page φ (del_in cmp m kept g f k c xs).0 ≡ without cmp k (φ c ++ flat_rest φ xs)
      del_in-flat c [] h = rw append-nil (rw append-nil (right c (rises-left cmp ord (φ c) [] h)))
      del_in-flat c (item e d ∷ []) h = go (cmp k e.0) refl
        where
          go : (o : Cmp) → cmp k e.0 ≡ o → flat_page φ (pick {A = Page K S × ℕ} o (splice (m (f c).0 e d).0 [], (f c).1 + (m (f c).0 e d).1) (fill m (kept c) (g c) d []) (splice (m c e (f d).0).0 [], (f d).1 + (m c e (f d).0).1)).0 ≡ without cmp k (φ c ++ (e ∷ (φ d ++ [])))
          go below b = case-below c e d [] b h
          go same b = case_same c e d [] b h
          go above b = spliced c e (f d).0 [] ∙ rw (right d (rises-left cmp ord (φ d) [] (rises-right cmp ord (φ c) _ h).1)) (rw append-nil (rw append-nil (case-above c e (φ d) b (rw append-nil at h))))
      del_in-flat c (item e d ∷ y ∷ ys) h = go (cmp k e.0) refl (del_in-flat d (y ∷ ys) (rises-right cmp ord (φ c) _ h).1)
        where
          w : Page K S × ℕ
          w = del_in cmp m kept g f k d (y ∷ ys)

          go : (o : Cmp) → cmp k e.0 ≡ o → flat_page φ w.0 ≡ without cmp k (φ d ++ flat_rest φ (y ∷ ys)) →
              flat_page φ (pick {A = Page K S × ℕ} o (splice (m (f c).0 e d).0 (y ∷ ys), (f c).1 + (m (f c).0 e d).1) (fill m (kept c) (g c) d (y ∷ ys)) (before c e w.0, w.1)).0 ≡ without cmp k (φ c ++ (e ∷ (φ d ++ flat_rest φ (y ∷ ys))))
          go below b i = case-below c e d (y ∷ ys) b h
          go same b i = case_same c e d (y ∷ ys) b h
          go above b i = before-flat φ c e w.0 ∙ rw i (case-above c e (φ d ++ flat_rest φ (y ∷ ys)) b h)

      pub del_page-flat : (p : Page K S) → Rises cmp (flat_page φ p) → flat_page φ (del_page cmp m kept g f k p).0 ≡ without cmp k (flat_page φ p)
      del_page-flat (page c xs) h = del_in-flat c xs h

  pub take_max-flat : (n : ℕ) (t : Sub K n) → GotFlat (flat K n) (take_max K n t) (flat K n t)
  take_max-flat zero t = refl
  take_max-flat (suc n) t = max_page-flat (flat K n) (mend K n) (mend-flat n) (take_max K n) (λ c. take_max-flat n c) t

  pub del-flat : (n : ℕ) (k : K) (t : Sub K n) → Rises cmp (flat K n t) → flat K n (del cmp n k t).0 ≡ without cmp k (flat K n t)
  del-flat zero k t h = refl
  del-flat (suc n) k t h = del_page-flat (flat K n) (mend K n) (mend-flat n) (take_max K n) (take_max-flat n) (back K n) k (del cmp n k) (λ c g. del-flat n k c g) t h

  pub shrink-flat : (n : ℕ) (p : Sub K (suc n)) (f : ℕ) → to_list (shrink n p f).0 ≡ flat K (suc n) p
  shrink-flat zero p f = refl
  shrink-flat (suc n) (page c []) f = sym (append-nil (flat K (suc n) c))
  shrink-flat (suc n) (page c (x ∷ xs)) f = refl

  pub delete-takes : DeleteTakes cmp
  delete-takes t k g = go (lookup cmp t k) refl
    where
      r : Sub K (suc t.over) × ℕ
      r = del cmp (suc t.over) k t.root

      go : (o : Found) → lookup cmp t k ≡ o → to_list (if_found {A = Tree K × ℕ} o (t, 0) (shrink t.over r.0 r.1)).0 ≡ without cmp k (to_list t)
      go absent e = sym (find_absent cmp ord k (to_list t) (sym (lookup-finds cmp ord t k g) ∙ e))
      go (at v) e = shrink-flat t.over r.0 r.1 ∙ del-flat (suc t.over) k t.root g.rises
