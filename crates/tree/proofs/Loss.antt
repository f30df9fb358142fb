-- Pages lost when an entry goes.
use Rattle.std.proofs.Common.{◌≡◌, ℕ, zero, suc, ◌+◌, ◌-◌, List, [], ◌∷◌, refl, ap, ◌∙◌, ap₂, arith}
use Rattle.numbers.specs.Order.{Cmp, below, same, above}
use Rattle.tree.specs.Tree.{Entry, Item, item, Page, page, Sub, pick, Found, absent, at, lookup, Tree, All, Child, Full, FullPage, lowest, pages_rest, pages_page, pages_of, pages}
use Rattle.tree.specs.Insert.{Up, tops, splice, before}
use Rattle.tree.specs.Delete.{even, mend_page, mend, back, Got, none, got, max_last, past, alone, max_in, fill, take_max, del, shrink, if_found, del_in, mend_loss, take_max_loss, del_loss, collapse}
use Rattle.tree.specs.Laws.{DeleteLoses}
use Rattle.tree.proofs.Mend.{mended}
use Rattle.tree.proofs.Pages.{pages_up, splice-pages, before-pages, tops-pos}
use Rattle.tree.proofs.EvenCount.{even-pages}

-- THE SAME TREE, WHATEVER IS COUNTED
abbrev GotSame : {K S : Type 0} → Got K S → Got K S → Type 0
GotSame none none = Unit {0}
GotSame none (got y d j) = ⊥
GotSame (got x c i) none = ⊥
GotSame (got x c i) (got y d j) = (x ≡ y) × (c ≡ d)

module _ {K S : Type 0} (m m' : S → Entry K → S → Up K S × ℕ) (ms : (c : S) (e : Entry K) (d : S) → (m c e d).0 ≡ (m' c e d).0) where
  last-same : (c : S) (e : Entry K) (u v : Got K S) → GotSame u v → GotSame (max_last m c e u) (max_last m' c e v)
  last-same c e none none h = (refl, refl)
  last-same c e none (got y d j) h = absurd h
  last-same c e (got x d i) none h = absurd h
  last-same c e (got x b i) (got y d j) h = (h.0, ap (λ (z : Up K S). splice z []) (ap (λ (z : S). (m c e z).0) h.1 ∙ ms c e d))

  past_same : (c : S) (e : Entry K) (u v : Got K (Page K S)) → GotSame u v → GotSame (past m c e u) (past m' c e v)
  past_same c e none none h = tt
  past_same c e none (got y d j) h = absurd h
  past_same c e (got x d i) none h = absurd h
  past_same c e (got x p i) (got y q j) h = (h.0, ap (before c e) h.1)

  alone-same : (u v : Got K S) → GotSame u v → GotSame (alone m u) (alone m' v)
  alone-same none none h = tt
  alone-same none (got y d j) h = absurd h
  alone-same (got x d i) none h = absurd h
  alone-same (got x p i) (got y q j) h = (h.0, ap (λ (z : S). page z []) h.1)

  fill-same : (b b' : Up K S → ℕ) (u v : Got K S) (d : S) (xs : List (Item K S)) → GotSame u v → (fill m b u d xs).0 ≡ (fill m' b' v d xs).0
  fill-same b b' none none d xs h = refl
  fill-same b b' none (got y c j) d xs h = absurd h
  fill-same b b' (got x c i) none d xs h = absurd h
  fill-same b b' (got x c i) (got y a j) d xs h = ap (λ (z : Up K S). splice z xs) (ap₂ (λ (z : S) (w : Entry K). (m z w d).0) h.1 h.0 ∙ ms a y d)

  module _ (g g' : S → Got K S) (gs : (c : S) → GotSame (g c) (g' c)) where
    max_in-same : (c : S) (xs : List (Item K S)) → GotSame (max_in m g c xs) (max_in m' g' c xs)
    max_in-same c [] = alone-same (g c) (g' c) (gs c)
    max_in-same c (item e d ∷ []) = last-same c e (g d) (g' d) (gs d)
    max_in-same c (item e d ∷ y ∷ ys) = past_same c e (max_in m g d (y ∷ ys)) (max_in m' g' d (y ∷ ys)) (max_in-same d (y ∷ ys))

    module _ (cmp : K → K → Cmp) (b b' : S → Up K S → ℕ) (f f' : S → S × ℕ) (fs : (c : S) → (f c).0 ≡ (f' c).0) (k : K) where
      left-same : (c : S) (e : Entry K) (d : S) (xs : List (Item K S)) → splice (m (f c).0 e d).0 xs ≡ splice (m' (f' c).0 e d).0 xs
      left-same c e d xs = ap (λ (z : Up K S). splice z xs) (ap (λ (z : S). (m z e d).0) (fs c) ∙ ms (f' c).0 e d)

      del_in-same : (c : S) (xs : List (Item K S)) → (del_in cmp m b g f k c xs).0 ≡ (del_in cmp m' b' g' f' k c xs).0
      del_in-same c [] = ap (λ (z : S). page z []) (fs c)
      del_in-same c (item e d ∷ []) = go (cmp k e.0)
        where
          go : (o : Cmp) → (pick {A = Page K S × ℕ} o (splice (m (f c).0 e d).0 [], (f c).1 + (m (f c).0 e d).1) (fill m (b c) (g c) d []) (splice (m c e (f d).0).0 [], (f d).1 + (m c e (f d).0).1)).0
              ≡ (pick {A = Page K S × ℕ} o (splice (m' (f' c).0 e d).0 [], (f' c).1 + (m' (f' c).0 e d).1) (fill m' (b' c) (g' c) d []) (splice (m' c e (f' d).0).0 [], (f' d).1 + (m' c e (f' d).0).1)).0
          go below = left-same c e d []
          go same = fill-same (b c) (b' c) (g c) (g' c) d [] (gs c)
          go above = ap (λ (z : Up K S). splice z []) (ap (λ (z : S). (m c e z).0) (fs d) ∙ ms c e (f' d).0)
      del_in-same c (item e d ∷ y ∷ ys) = go (cmp k e.0) (del_in-same d (y ∷ ys))
        where
          t : Page K S × ℕ
          t = del_in cmp m b g f k d (y ∷ ys)

          t' : Page K S × ℕ
          t' = del_in cmp m' b' g' f' k d (y ∷ ys)

          go : (o : Cmp) → t.0 ≡ t'.0 → (pick {A = Page K S × ℕ} o (splice (m (f c).0 e d).0 (y ∷ ys), (f c).1 + (m (f c).0 e d).1) (fill m (b c) (g c) d (y ∷ ys)) (before c e t.0, t.1)).0
              ≡ (pick {A = Page K S × ℕ} o (splice (m' (f' c).0 e d).0 (y ∷ ys), (f' c).1 + (m' (f' c).0 e d).1) (fill m' (b' c) (g' c) d (y ∷ ys)) (before c e t'.0, t'.1)).0
          go below i = left-same c e d (y ∷ ys)
          go same i = fill-same (b c) (b' c) (g c) (g' c) d (y ∷ ys) (gs c)
          go above i = ap (before c e) i

mend-same : (K : Type 0) (n : ℕ) (c : Sub K n) (e : Entry K) (d : Sub K n) → (mend_loss K n c e d).0 ≡ (mend K n c e d).0
mend-same K zero c e d = refl
mend-same K (suc n) c e d = refl

take_max-page : (K : Type 0) (n : ℕ) → ((c : Sub K n) → GotSame (take_max_loss K n c) (take_max K n c)) → (p : Sub K (suc n)) → GotSame (take_max_loss K (suc n) p) (take_max K (suc n) p)
take_max-page K n gs (page c xs) = max_in-same (mend_loss K n) (mend K n) (mend-same K n) (take_max_loss K n) (take_max K n) gs c xs

take_max-same : (K : Type 0) (n : ℕ) (t : Sub K n) → GotSame (take_max_loss K n t) (take_max K n t)
take_max-same K zero t = tt
take_max-same K (suc n) t = take_max-page K n (λ c. take_max-same K n c) t

del-page-same : {K : Type 0} (cmp : K → K → Cmp) (n : ℕ) (k : K) → ((c : Sub K n) → (del_loss cmp n k c).0 ≡ (del cmp n k c).0) → (p : Sub K (suc n)) → (del_loss cmp (suc n) k p).0 ≡ (del cmp (suc n) k p).0
del-page-same {K} cmp n k fs (page c xs) =
    del_in-same (mend_loss K n) (mend K n) (mend-same K n) (take_max_loss K n) (take_max K n) (take_max-same K n) cmp (λ c u. 0) (back K n) (del_loss cmp n k) (del cmp n k) fs k c xs

del-same : {K : Type 0} (cmp : K → K → Cmp) (n : ℕ) (k : K) (t : Sub K n) → (del_loss cmp n k t).0 ≡ (del cmp n k t).0
del-same cmp zero k t = refl
del-same cmp (suc n) k t = del-page-same cmp n k (λ c. del-same cmp n k c) t

-- THE PAGES
mend_page-loses : {K S : Type 0} (π : S → ℕ) (p : Page K S) (e : Entry K) (q : Page K S) → let u = (mend_page p e q).0 in pages_up (pages_page π) u + (2 - tops u) ≡ pages_page π p + pages_page π q
mend_page-loses π p e q = mended (λ r. pages_up (pages_page π) r.0 + (2 - tops r.0) ≡ pages_page π p + pages_page π q) p e q (λ k. evened) (λ k l. evened) (λ k l. omega arith)
  where
    evened : pages_up (pages_page π) (even p e q) + (2 - tops (even p e q)) ≡ pages_page π p + pages_page π q
    evened = let h = even-pages π p e q in let i = tops-pos (even p e q) in omega (arith, h, i.0, i.1)

mend-loses : (K : Type 0) (n : ℕ) (c : Sub K n) (e : Entry K) (d : Sub K n) → let r = mend_loss K n c e d in pages_up (pages_of K n) r.0 + r.1 ≡ pages_of K n c + pages_of K n d
mend-loses K zero c e d = omega arith
mend-loses K (suc n) c e d = mend_page-loses (pages_of K n) c e d

abbrev GotLost : {K S : Type 0} → (S → ℕ) → Got K S → ℕ → Type 0
GotLost π none a = a ≡ 0
GotLost π (got x c i) a = π c + i ≡ a

module _ {K : Type 0} (cmp : K → K → Cmp) {S : Type 0} (P : S → Type 0) (π : S → ℕ) (m : S → Entry K → S → Up K S × ℕ) (mends : (c : S) (e : Entry K) (d : S) → pages_up π (m c e d).0 + (m c e d).1 ≡ π c + π d)
    (g : S → Got K S) (takes : (c : S) → P c → GotLost π (g c) (π c)) where
  last-loses : (c : S) (e : Entry K) (u : Got K S) (a : ℕ) → GotLost π u a → GotLost (pages_page π) (max_last m c e u) (1 + (π c + (a + 0)))
  last-loses c e none a h = omega arith
  last-loses c e (got x d n) a h = let i = mends c e d in let j = splice-pages π (m c e d).0 [] in omega arith

  past-loses : (c : S) (e : Entry K) (u : Got K (Page K S)) (a : ℕ) → GotLost (pages_page π) u (1 + a) → GotLost (pages_page π) (past m c e u) (1 + (π c + a))
  past-loses c e none a h = absurd (omega arith)
  past-loses c e (got x p n) a h = let i = before-pages π c e p in omega arith

  max_in-loses : (c : S) (x : Item K S) (xs : List (Item K S)) → P c → All (Child P) (x ∷ xs) → GotLost (pages_page π) (max_in m g c (x ∷ xs)) (1 + (π c + pages_rest π (x ∷ xs)))
  max_in-loses c (item e d) [] p a = last-loses c e (g d) (π d) (takes d a.0)
  max_in-loses c (item e d) (y ∷ ys) p a = past-loses c e (max_in m g d (y ∷ ys)) (π d + pages_rest π (y ∷ ys)) (max_in-loses d y ys a.0 a.1)

  fill-loses : (u : Got K S) (a : ℕ) (d : S) (xs : List (Item K S)) → GotLost π u a → let r = fill m (λ u. 0) u d xs in pages_page π r.0 + r.1 ≡ 1 + (a + (π d + pages_rest π xs))
  fill-loses none a d xs h = omega arith
  fill-loses (got x c n) a d xs h = let i = mends c x d in let j = splice-pages π (m c x d).0 xs in omega arith

  module _ (k : K) (f : S → S × ℕ) (right : (c : S) → P c → π (f c).0 + (f c).1 ≡ π c) where
    del_in-loses : (c : S) (xs : List (Item K S)) → P c → All (Child P) xs → let r = del_in cmp m (λ c u. 0) g f k c xs in pages_page π r.0 + r.1 ≡ 1 + (π c + pages_rest π xs)
    del_in-loses c [] p a = let h = right c p in omega arith
    del_in-loses c (item e d ∷ []) p a = go (cmp k e.0)
      where
        go : (o : Cmp) → let r = pick {A = Page K S × ℕ} o (splice (m (f c).0 e d).0 [], (f c).1 + (m (f c).0 e d).1) (fill m (λ u. 0) (g c) d []) (splice (m c e (f d).0).0 [], (f d).1 + (m c e (f d).0).1) in
            pages_page π r.0 + r.1 ≡ 1 + (π c + (π d + 0))
        go below = let h = right c p in let i = mends (f c).0 e d in let j = splice-pages π (m (f c).0 e d).0 [] in omega arith
        go same = fill-loses (g c) (π c) d [] (takes c p)
        go above = let h = right d a.0 in let i = mends c e (f d).0 in let j = splice-pages π (m c e (f d).0).0 [] in omega arith
    del_in-loses c (item e d ∷ y ∷ ys) p a = go (cmp k e.0) (del_in-loses d (y ∷ ys) a.0 a.1)
      where
        w : Page K S × ℕ
        w = del_in cmp m (λ c u. 0) g f k d (y ∷ ys)

        go : (o : Cmp) → pages_page π w.0 + w.1 ≡ 1 + (π d + pages_rest π (y ∷ ys)) →
            let r = pick {A = Page K S × ℕ} o (splice (m (f c).0 e d).0 (y ∷ ys), (f c).1 + (m (f c).0 e d).1) (fill m (λ u. 0) (g c) d (y ∷ ys)) (before c e w.0, w.1) in
            pages_page π r.0 + r.1 ≡ 1 + (π c + (π d + pages_rest π (y ∷ ys)))
        go below i = let h = right c p in let i = mends (f c).0 e d in let j = splice-pages π (m (f c).0 e d).0 (y ∷ ys) in omega arith
        go same i = fill-loses (g c) (π c) d (y ∷ ys) (takes c p)
        go above i = let j = before-pages π c e w.0 in omega arith

module _ {K : Type 0} (cmp : K → K → Cmp) where
  take_max-loses : (n : ℕ) (t : Sub K n) → Full K n t → GotLost (pages_of K n) (take_max_loss K n t) (pages_of K n t)
  take_max-loses zero t h = refl
  take_max-loses (suc n) (page c []) h = absurd (omega (arith, h.0))
  take_max-loses (suc n) (page c (x ∷ xs)) h = max_in-loses cmp (Full K n) (pages_of K n) (mend_loss K n) (mend-loses K n) (take_max_loss K n) (λ d k. take_max-loses n d k) c x xs h.2 h.3

  del_page-loses : (n : ℕ) (k : K) → ((c : Sub K n) → Full K n c → pages_of K n (del_loss cmp n k c).0 + (del_loss cmp n k c).1 ≡ pages_of K n c) → (low : ℕ) (p : Sub K (suc n)) → FullPage (Full K n) low p →
      let r = del_loss cmp (suc n) k p in pages_of K (suc n) r.0 + r.1 ≡ pages_of K (suc n) p
  del_page-loses n k right low (page c xs) h = del_in-loses cmp (Full K n) (pages_of K n) (mend_loss K n) (mend-loses K n) (take_max_loss K n) (take_max-loses n) k (del_loss cmp n k) right c xs h.2 h.3

  del-loses : (n : ℕ) (k : K) (t : Sub K n) → Full K n t → pages_of K n (del_loss cmp n k t).0 + (del_loss cmp n k t).1 ≡ pages_of K n t
  del-loses zero k t h = omega arith
  del-loses (suc n) k t h = del_page-loses n k (λ c i. del-loses n k c i) 12 t h

  shrink-loses : (n : ℕ) (p : Sub K (suc n)) (f : ℕ) → pages (shrink n p f).0 + collapse n p ≡ pages_of K (suc n) p
  shrink-loses zero p f = omega arith
  shrink-loses (suc n) (page c []) f = omega arith
  shrink-loses (suc n) (page c (x ∷ xs)) f = omega arith

  pub delete-loses : DeleteLoses cmp
  delete-loses t k g = go (lookup cmp t k)
    where
      r : Sub K (suc t.over) × ℕ
      r = del cmp (suc t.over) k t.root

      q : Sub K (suc t.over) × ℕ
      q = del_loss cmp (suc t.over) k t.root

      go : (o : Found) → pages (if_found {A = Tree K × ℕ} o (t, 0) (shrink t.over r.0 r.1)).0 + if_found o 0 (q.1 + collapse t.over q.0) ≡ pages t
      go absent = omega arith
      go (at v) =
          let h = shrink-loses t.over r.0 r.1 in
          let i = del_page-loses t.over k (del-loses t.over k) (lowest t.over) t.root g.filled in
          let j : pages_of K (suc t.over) q.0 ≡ pages_of K (suc t.over) r.0 = ap (pages_of K (suc t.over)) (del-same cmp (suc t.over) k t.root) in
          let l : collapse t.over q.0 ≡ collapse t.over r.0 = ap (collapse t.over) (del-same cmp (suc t.over) k t.root) in
          omega (arith, h, i, j, l)
