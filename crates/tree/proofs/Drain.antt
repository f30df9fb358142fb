-- How full the pages stay when an entry goes.
use Rattle.std.proofs.Common.{◌≡◌, ℕ, zero, suc, ◌+◌, ◌-◌, ◌/◌, ◌≤◌, Bool, true, false, cond, ltb, leb, ◌⊎◌, List, [], ◌∷◌, ◌++◌, length, refl, inl, inr, arith}
use Rattle.std.proofs.lemmas.List.{length-append}
use Rattle.std.proofs.lemmas.Bool.{leb-true, leb-false, ltb-true, ltb-false}
use Rattle.numbers.specs.Order.{Cmp, below, same, above, IsOrder}
use Rattle.tree.specs.Tree.{Entry, Item, item, Page, page, Sub, pick, Found, absent, at, lookup, levels, most_levels, Tree, to_list, All, Child, Full, FullPage, lowest}
use Rattle.tree.specs.Insert.{Up, one, splice, before, cut}
use Rattle.tree.specs.Delete.{share, even, mend_page, mend, Got, none, got, max_last, past, max_in, fill, back, del_in, take_max, del, shrink, if_found, delete}
use Rattle.tree.specs.Laws.{DeleteKeeps}
use Rattle.tree.proofs.Mend.{mended}
use Rattle.tree.proofs.Lists.{all_join, without-rises}
use Rattle.tree.proofs.Fill.{Within, EachUp, Fits, splice-full, before-full, within_wider, cut-full, fits-up, RootOk}
use Rattle.tree.proofs.Delete.{delete-takes}

module _ {K : Type 0} (cmp : K → K → Cmp) (ord : IsOrder K cmp) where
  -- the left one's share, where one has 11 entries and the two have at least 24
  share-fits : (a b : ℕ) → 11 ≤ a → 11 ≤ b → a ≤ 24 → b ≤ 24 → 24 ≤ a + b → ((a ≤ 11) × (12 ≤ b)) ⊎ ((12 ≤ a) × (b ≤ 11)) → (12 ≤ share a b) × (share a b ≤ 24) × (share a b + 13 ≤ a + suc b) × (a + suc b ≤ share a b + 25)
  share-fits a b h₁ h₂ h₃ h₄ h₅ l = go (ltb a b) refl
    where
      go : (t : Bool) → ltb a b ≡ t → let m = cond t (a + (b - 11) / 2) (a - (a - 11) / 2) in (12 ≤ m) × (m ≤ 24) × (m + 13 ≤ a + suc b) × (a + suc b ≤ m + 25)
      go true e = let h = ltb-true a b e in omega arith
      go false e = let h = ltb-false a b e in omega arith

  module _ {S : Type 0} (P : S → Type 0) where
    -- one of the two has 11 at least, the other 12
    even-full : (c : S) (xs : List (Item K S)) (e : Entry K) (d : S) (ys : List (Item K S)) → Within P 11 24 (page c xs) → Within P 11 24 (page d ys) →
        ((length xs ≤ 11) × (12 ≤ length ys)) ⊎ ((12 ≤ length xs) × (length ys ≤ 11)) → EachUp (FullPage P 12) (even (page c xs) e (page d ys))
    even-full c xs e d ys v w l = fits-up P (even (page c xs) e (page d ys)) (go (leb (length (xs ++ (item e d ∷ ys))) 24) refl)
      where
        n : length (xs ++ (item e d ∷ ys)) ≡ length xs + suc (length ys)
        n = length-append xs (item e d ∷ ys)

        a : All (Child P) (xs ++ (item e d ∷ ys))
        a = all_join (Child P) xs (item e d ∷ ys) v.3 (w.2, w.3)

        go : (b : Bool) → leb (length (xs ++ (item e d ∷ ys))) 24 ≡ b → Fits P 12 (cond b (one (page c (xs ++ (item e d ∷ ys)))) (cut (share (length xs) (length ys)) c (xs ++ (item e d ∷ ys))))
        go true h = let k = leb-true (length (xs ++ (item e d ∷ ys))) 24 h in (omega (arith, n), k, v.2, a)
        go false h =
            let k = leb-false (length (xs ++ (item e d ∷ ys))) 24 h in
            let s = share-fits (length xs) (length ys) v.0 w.0 v.1 w.1 (omega (arith, n)) l in
            cut-full P 12 (share (length xs) (length ys)) c (xs ++ (item e d ∷ ys)) s.0 s.1 (rw n s.2) (rw n s.3) v.2 a

    mend_page-full : (p : Page K S) (e : Entry K) (q : Page K S) (a b : ℕ) → 11 ≤ a → 11 ≤ b → 23 ≤ a + b → FullPage P a p → FullPage P b q → EachUp (FullPage P 12) (mend_page p e q).0
    mend_page-full (page c xs) e (page d ys) a b h₁ h₂ h₃ v w =
        mended (λ r. EachUp (FullPage P 12) r.0) (page c xs) e (page d ys) (λ k. even-full c xs e d ys v' w' (inl (omega arith))) (λ k l. even-full c xs e d ys v' w' (inr (omega arith)))
        (λ k l. ((k, v.1, v.2, v.3), (l, w.1, w.2, w.3)))
      where
        v' : Within P 11 24 (page c xs)
        v' = within_wider P (page c xs) a 24 11 24 h₁ (omega arith) v

        w' : Within P 11 24 (page d ys)
        w' = within_wider P (page d ys) b 24 11 24 h₂ (omega arith) w

  -- a subtree that may be short by one
  abbrev pub Near : (n : ℕ) → Sub K n → Type 0
  Near zero t = Unit {0}
  Near (suc n) t = FullPage (Full K n) 11 t

  mend-near : (n : ℕ) (c : Sub K n) (e : Entry K) (d : Sub K n) → Near n c → Full K n d → EachUp (Full K n) (mend K n c e d).0
  mend-near zero c e d h k = (tt, tt)
  mend-near (suc n) c e d h k = mend_page-full (Full K n) c e d 11 12 (omega arith) (omega arith) (omega arith) h k

  mend-near' : (n : ℕ) (c : Sub K n) (e : Entry K) (d : Sub K n) → Full K n c → Near n d → EachUp (Full K n) (mend K n c e d).0
  mend-near' zero c e d h k = (tt, tt)
  mend-near' (suc n) c e d h k = mend_page-full (Full K n) c e d 12 11 (omega arith) (omega arith) (omega arith) h k

  abbrev pub GotOk : {S : Type 0} → (S → Type 0) → Got K S → Type 0
  GotOk Q none = Unit {0}
  GotOk Q (got x c n) = Q c

  module _ {S : Type 0} (P Q : S → Type 0) (m : S → Entry K → S → Up K S × ℕ)
      (mends : (c : S) (e : Entry K) (d : S) → Q c → P d → EachUp P (m c e d).0)
      (mends' : (c : S) (e : Entry K) (d : S) → P c → Q d → EachUp P (m c e d).0)
      (g : S → Got K S) (takes : (c : S) → P c → GotOk Q (g c)) where
    last_ok : (c : S) (e : Entry K) (u : Got K S) → P c → GotOk Q u → GotOk (Within P 0 1) (max_last m c e u)
    last_ok c e none p h = (omega arith, omega arith, p, tt)
    last_ok c e (got x d n) p h = splice-full P (m c e d).0 [] (mends' c e d p h) tt

    past-ok : (c : S) (e : Entry K) (u : Got K (Page K S)) (a b : ℕ) → P c → GotOk (Within P a b) u → GotOk (Within P (suc a) (suc b)) (past m c e u)
    past-ok c e none a b p h = tt
    past-ok c e (got x q n) a b p h = before-full P c e q a b p h

    -- a page with an entry, x ∷ xs
    max_in-ok : (c : S) (x : Item K S) (xs : List (Item K S)) → P c → All (Child P) (x ∷ xs) → GotOk (Within P (length xs) (suc (length xs))) (max_in m g c (x ∷ xs))
    max_in-ok c (item e d) [] p a = last_ok c e (g d) p (takes d a.0)
    max_in-ok c (item e d) (y ∷ ys) p a = past-ok c e (max_in m g d (y ∷ ys)) (length ys) (suc (length ys)) p (max_in-ok d y ys a.0 a.1)

    fill-ok : (q : Up K S → ℕ) (u : Got K S) (d : S) (xs : List (Item K S)) → GotOk Q u → P d → All (Child P) xs → Within P (length xs) (suc (length xs)) (fill m q u d xs).0
    fill-ok q none d xs h p a = (omega arith, omega arith, p, a)
    fill-ok q (got x c n) d xs h p a = splice-full P (m c x d).0 xs (mends c x d h p) a

    module _ (kept : S → Up K S → ℕ) (k : K) (f : S → S × ℕ) (right : (c : S) → P c → Q (f c).0) where
      del_in-ok : (c : S) (x : Item K S) (xs : List (Item K S)) → P c → All (Child P) (x ∷ xs) → Within P (length xs) (suc (length xs)) (del_in cmp m kept g f k c (x ∷ xs)).0
      del_in-ok c (item e d) [] p a = go (cmp k e.0)
        where
          go : (o : Cmp) → Within P 0 1 (pick {A = Page K S × ℕ} o (splice (m (f c).0 e d).0 [], (f c).1 + (m (f c).0 e d).1) (fill m (kept c) (g c) d []) (splice (m c e (f d).0).0 [], (f d).1 + (m c e (f d).0).1)).0
          go below = splice-full P (m (f c).0 e d).0 [] (mends (f c).0 e d (right c p) a.0) tt
          go same = fill-ok (kept c) (g c) d [] (takes c p) a.0 tt
          go above = splice-full P (m c e (f d).0).0 [] (mends' c e (f d).0 p (right d a.0)) tt
      del_in-ok c (item e d) (y ∷ ys) p a = go (cmp k e.0) (del_in-ok d y ys a.0 a.1)
        where
          w : Page K S × ℕ
          w = del_in cmp m kept g f k d (y ∷ ys)

          go : (o : Cmp) → Within P (length ys) (suc (length ys)) w.0 →
              Within P (suc (length ys)) (suc (suc (length ys))) (pick {A = Page K S × ℕ} o (splice (m (f c).0 e d).0 (y ∷ ys), (f c).1 + (m (f c).0 e d).1) (fill m (kept c) (g c) d (y ∷ ys)) (before c e w.0, w.1)).0
          go below i = splice-full P (m (f c).0 e d).0 (y ∷ ys) (mends (f c).0 e d (right c p) a.0) a.1
          go same i = fill-ok (kept c) (g c) d (y ∷ ys) (takes c p) a.0 a.1
          go above i = before-full P c e w.0 (length ys) (suc (length ys)) p i

  got-wider : {S : Type 0} (P : S → Type 0) (u : Got K (Page K S)) (a b a' b' : ℕ) → a' ≤ a → b ≤ b' → GotOk (Within P a b) u → GotOk (Within P a' b') u
  got-wider P none a b a' b' i j h = tt
  got-wider P (got x p n) a b a' b' i j h = within_wider P p a b a' b' i j h

  pub take_max-ok : (n : ℕ) (t : Sub K n) → Full K n t → GotOk (Near n) (take_max K n t)
  take_max-ok zero t h = tt
  take_max-ok (suc n) (page c []) h = absurd (omega arith)
  take_max-ok (suc n) (page c (x ∷ xs)) h =
      got-wider (Full K n) (max_in (mend K n) (take_max K n) c (x ∷ xs)) (length xs) (suc (length xs)) 11 24 (omega arith) (omega arith)
      (max_in-ok (Full K n) (Near n) (mend K n) (mend-near n) (mend-near' n) (take_max K n) (λ d k. take_max-ok n d k) c x xs h.2 h.3)

  -- the root's page and every other's
  del-page : (n : ℕ) (k : K) → ((c : Sub K n) → Full K n c → Near n (del cmp n k c).0) → (low : ℕ) (c : Sub K n) (x : Item K (Sub K n)) (xs : List (Item K (Sub K n))) →
      FullPage (Full K n) (suc low) (page c (x ∷ xs)) → FullPage (Full K n) low (del cmp (suc n) k (page c (x ∷ xs))).0
  del-page n k right low c x xs h =
      within_wider (Full K n) (del_in cmp (mend K n) (back K n) (take_max K n) (del cmp n k) k c (x ∷ xs)).0 (length xs) (suc (length xs)) low 24 (omega arith) (omega arith)
      (del_in-ok (Full K n) (Near n) (mend K n) (mend-near n) (mend-near' n) (take_max K n) (take_max-ok n) (back K n) k (del cmp n k) right c x xs h.2 h.3)

  pub del_ok : (n : ℕ) (k : K) (t : Sub K n) → Full K n t → Near n (del cmp n k t).0
  del_ok zero k t h = tt
  del_ok (suc n) k (page c []) h = absurd (omega arith)
  del_ok (suc n) k (page c (x ∷ xs)) h = del-page n k (λ d i. del_ok n k d i) 11 c x xs h

  lowest-le : (n : ℕ) → lowest n ≤ 12
  lowest-le zero = omega arith
  lowest-le (suc n) = omega arith

  shrink-ok : (n : ℕ) (p : Sub K (suc n)) (f : ℕ) → FullPage (Full K n) 0 p → RootOk (shrink n p f).0
  shrink-ok zero p f h = h
  shrink-ok (suc n) (page c []) f h = within_wider (Full K n) c 12 24 (lowest n) 24 (lowest-le n) (omega arith) h.2
  shrink-ok (suc n) (page c (x ∷ xs)) f h = (omega arith, h.1, h.2, h.3)

  root_ok : (n : ℕ) (k : K) (p : Sub K (suc n)) → FullPage (Full K n) (lowest n) p → FullPage (Full K n) 0 (del cmp (suc n) k p).0
  root_ok zero k (page c []) h = h
  root_ok (suc n) k (page c []) h = absurd (omega arith)
  root_ok zero k (page c (x ∷ xs)) h = del-page zero k (λ d i. del_ok zero k d i) 0 c x xs (omega arith, h.1, h.2, h.3)
  root_ok (suc n) k (page c (x ∷ xs)) h = del-page (suc n) k (λ d i. del_ok (suc n) k d i) 0 c x xs (omega arith, h.1, h.2, h.3)

  shrink-over : (n : ℕ) (p : Sub K (suc n)) (f : ℕ) → (shrink n p f).0.over ≤ n
  shrink-over zero p f = omega arith
  shrink-over (suc n) (page c []) f = omega arith
  shrink-over (suc n) (page c (x ∷ xs)) f = omega arith

  pub delete-over : (t : Tree K) (k : K) → (delete cmp t k).0.over ≤ t.over
  delete-over t k = go (lookup cmp t k)
    where
      r : Sub K (suc t.over) × ℕ
      r = del cmp (suc t.over) k t.root

      go : (o : Found) → (if_found {A = Tree K × ℕ} o (t, 0) (shrink t.over r.0 r.1)).0.over ≤ t.over
      go absent = omega arith
      go (at v) = shrink-over t.over r.0 r.1

  pub delete-keeps : DeleteKeeps cmp
  delete-keeps t k g = record { rises = rw (delete-takes cmp ord t k g) (without-rises cmp ord k (to_list t) g.rises); few = (go (lookup cmp t k)).0; filled = (go (lookup cmp t k)).1 }
    where
      r : Sub K (suc t.over) × ℕ
      r = del cmp (suc t.over) k t.root

      go : (o : Found) → let u = (if_found {A = Tree K × ℕ} o (t, 0) (shrink t.over r.0 r.1)).0 in (levels u ≤ most_levels) × RootOk u
      go absent = (g.few, g.filled)
      go (at v) = (
        let s = shrink-over t.over r.0 r.1 in let l = g.few in omega arith,
        shrink-ok t.over r.0 r.1 (root_ok t.over k t.root g.filled),
      )
