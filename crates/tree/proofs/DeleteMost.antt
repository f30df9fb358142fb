-- How many pages a delete changes at most: one of each level below the root, and one more.
use Rattle.std.proofs.Common.{◌≡◌, ℕ, zero, suc, ◌+◌, ◌-◌, ◌≤◌, ◌⊎◌, List, [], ◌∷◌, length, refl, inl, inr, arith, ◌<◌}
use Rattle.numbers.specs.Order.{Cmp, below, same, above}
use Rattle.tree.specs.Tree.{Entry, Item, item, Page, page, Sub, Tree, pick, Found, absent, at, lookup, levels, All, Child, FullPage, Full, lowest}
use Rattle.tree.specs.Insert.{Up, one, two, tops, splice, before}
use Rattle.tree.specs.Delete.{size, even, mend_page, mend, back, Got, none, got, max_last, past, max_in, fill, take_max, shrink, if_found, del_in, del}
use Rattle.tree.specs.Laws.{DeleteMost}
use Rattle.tree.proofs.Mend.{mended}

module _ {K S : Type 0} (A B : ℕ) where
  -- with i pages changed below: A at most where two became one, otherwise B
  abbrev UpFew : ℕ → Up K S × ℕ → Type 0
  UpFew i (one c, k) = i + k ≤ A
  UpFew i (two c e d, k) = i + k ≤ B

  -- A at most, or B in a page that has as many entries as before
  abbrev Few : ℕ → Page K S → ℕ → Type 0
  Few l p i = ((i ≤ B) × (l ≤ size p)) ⊎ (i ≤ A)

  splice-few : (i : ℕ) (r : Up K S × ℕ) (xs : List (Item K S)) → UpFew i r → Few (suc (length xs)) (splice r.0 xs) (i + r.1)
  splice-few i (one c, k) xs h = inr h
  splice-few i (two c e d, k) xs h = inl (h, omega arith)

  before-few : (l i : ℕ) (c : S) (e : Entry K) (w : Page K S) → Few l w i → Few (suc l) (before c e w) i
  before-few l i c e (page d xs) (inl h) = inl (h.0, omega (arith, h.1))
  before-few l i c e (page d xs) (inr h) = inr h

  fewer : (l i j : ℕ) (p : Page K S) → j ≤ i → Few l p i → Few l p j
  fewer l i j p k (inl h) = inl (omega (arith, h.0), h.1)
  fewer l i j p k (inr h) = inr (omega arith)

abbrev GotBy : {K T : Type 0} → (T → ℕ → Type 0) → Got K T → Type 0
GotBy J none = Unit {0}
GotBy J (got x c i) = J c i

module _ {K : Type 0} (cmp : K → K → Cmp) {S : Type 0} (O : S → Type 0) (I : S → ℕ → Type 0) (A B : ℕ) (m : S → Entry K → S → Up K S × ℕ)
    (right : (c : S) (e : Entry K) (d : S) (i : ℕ) → I c i → O d → UpFew A B i (m c e d)) (left : (c : S) (e : Entry K) (d : S) (i : ℕ) → O c → I d i → UpFew A B i (m c e d))
    (g : S → Got K S) (takes : (c : S) → O c → GotBy I (g c)) where
  last-few : (c : S) (e : Entry K) (u : Got K S) → O c → GotBy I u → GotBy (Few A B 1) (max_last m c e u)
  last-few c e none p h = inr (omega arith)
  last-few c e (got x d n) p h = splice-few A B n (m c e d) [] (left c e d n p h)

  past-few : (l : ℕ) (c : S) (e : Entry K) (u : Got K (Page K S)) → GotBy (Few A B l) u → GotBy (Few A B (suc l)) (past m c e u)
  past-few l c e none h = tt
  past-few l c e (got x w n) h = before-few A B l n c e w h

  max_in-few : (c : S) (x : Item K S) (xs : List (Item K S)) → O c → All (Child O) (x ∷ xs) → GotBy (Few A B (suc (length xs))) (max_in m g c (x ∷ xs))
  max_in-few c (item e d) [] p a = last-few c e (g d) p (takes d a.0)
  max_in-few c (item e d) (y ∷ ys) p a = past-few (suc (length ys)) c e (max_in m g d (y ∷ ys)) (max_in-few d y ys a.0 a.1)

  module _ (b : S → Up K S → ℕ) (k : K) (f : S → S × ℕ) (few : (c : S) → O c → I (f c).0 (f c).1) where
    fill-few : (q : Up K S → ℕ) (u : Got K S) (d : S) (xs : List (Item K S)) → GotBy I u → O d → let r = fill m q u d xs in Few A B (suc (length xs)) r.0 r.1
    fill-few q none d xs h p = inr (omega arith)
    fill-few q (got x c n) d xs h p = let u = m c x d in fewer A B (suc (length xs)) (n + u.1) (n + u.1 - q u.0) (splice u.0 xs) (omega arith) (splice-few A B n u xs (right c x d n h p))

    del_in-few : (c : S) (x : Item K S) (xs : List (Item K S)) → O c → All (Child O) (x ∷ xs) → let r = del_in cmp m b g f k c (x ∷ xs) in Few A B (suc (length xs)) r.0 r.1
    del_in-few c (item e d) [] p a = go (cmp k e.0)
      where
        go : (o : Cmp) →
            let r = pick {A = Page K S × ℕ} o (splice (m (f c).0 e d).0 [], (f c).1 + (m (f c).0 e d).1) (fill m (b c) (g c) d []) (splice (m c e (f d).0).0 [], (f d).1 + (m c e (f d).0).1) in Few A B 1 r.0 r.1
        go below = splice-few A B (f c).1 (m (f c).0 e d) [] (right (f c).0 e d (f c).1 (few c p) a.0)
        go same = fill-few (b c) (g c) d [] (takes c p) a.0
        go above = splice-few A B (f d).1 (m c e (f d).0) [] (left c e (f d).0 (f d).1 p (few d a.0))
    del_in-few c (item e d) (y ∷ ys) p a = go (cmp k e.0) (del_in-few d y ys a.0 a.1)
      where
        t : Page K S × ℕ
        t = del_in cmp m b g f k d (y ∷ ys)

        go : (o : Cmp) → Few A B (suc (length ys)) t.0 t.1 →
            let r = pick {A = Page K S × ℕ} o (splice (m (f c).0 e d).0 (y ∷ ys), (f c).1 + (m (f c).0 e d).1) (fill m (b c) (g c) d (y ∷ ys)) (before c e t.0, t.1) in Few A B (suc (suc (length ys))) r.0 r.1
        go below i = splice-few A B (f c).1 (m (f c).0 e d) (y ∷ ys) (right (f c).0 e d (f c).1 (few c p) a.0)
        go same i = fill-few (b c) (g c) d (y ∷ ys) (takes c p) a.0
        go above i = before-few A B (suc (length ys)) t.1 c e t.0 i

-- LEVELS. Over n levels, n pages below the top, or one more where it has 12 entries
module _ {K : Type 0} (cmp : K → K → Cmp) where
  abbrev Left : (n : ℕ) → Sub K (suc n) → ℕ → Type 0
  Left n p i = Few n (suc n) 12 p i

  even-few : {S : Type 0} (n i : ℕ) (u : Up K S) → i ≤ n → UpFew (suc n) (suc (suc n)) i (u, tops u)
  even-few n i (one c) h = omega arith
  even-few n i (two c e d) h = omega arith

  few-most : (A l : ℕ) {S : Type 0} (p : Page K S) (i : ℕ) → Few A (suc A) l p i → i ≤ suc A
  few-most A l p i (inl h) = h.0
  few-most A l p i (inr h) = omega arith

  left-short : (n : ℕ) (p : Sub K (suc n)) (i : ℕ) → Left n p i → size p < 12 → i ≤ n
  left-short n p i (inl h) l = absurd (omega (arith, h.1))
  left-short n p i (inr h) l = h

  mend-right : (n : ℕ) (p : Sub K (suc n)) (e : Entry K) (q : Sub K (suc n)) (i : ℕ) → Left n p i → Full K (suc n) q → UpFew (suc n) (suc (suc n)) i (mend_page p e q)
  mend-right n p e (page d ys) i h f =
      mended (UpFew (suc n) (suc (suc n)) i) p e (page d ys) (λ l. even-few n i (even p e (page d ys)) (left-short n p i h l)) (λ k l. absurd (omega (arith, f.0))) (λ k l. let m = few-most n 12 p i h in omega arith)

  mend-left : (n : ℕ) (p : Sub K (suc n)) (e : Entry K) (q : Sub K (suc n)) (i : ℕ) → Full K (suc n) p → Left n q i → UpFew (suc n) (suc (suc n)) i (mend_page p e q)
  mend-left n (page c xs) e q i f h =
      mended (UpFew (suc n) (suc (suc n)) i) (page c xs) e q (λ l. absurd (omega (arith, f.0))) (λ k l. even-few n i (even (page c xs) e q) (left-short n q i h l)) (λ k l. let m = few-most n 12 q i h in omega arith)

  -- at the leaves nothing is counted
  none_left : (A B l : ℕ) (p : Sub K 1) (i : ℕ) → Few 0 0 l p i → Few 0 1 12 p i
  none_left A B l p i (inl h) = inr h.0
  none_left A B l p i (inr h) = inr h

  leaf-right : (c : Sub K 0) (e : Entry K) (d : Sub K 0) (i : ℕ) → i ≡ 0 → Full K 0 d → UpFew {K = K} {S = Sub K 0} 0 0 i (mend K 0 c e d)
  leaf-right c e d i h f = omega arith

  more_left : (n l : ℕ) (p : Sub K (suc n)) (i : ℕ) → 12 ≤ l → Few n (suc n) l p i → Left n p i
  more_left n l p i h (inl f) = inl (f.0, omega (arith, f.1))
  more_left n l p i h (inr f) = inr f

  got-left : (n l : ℕ) (u : Got K (Sub K (suc n))) → 12 ≤ l → GotBy (Few n (suc n) l) u → GotBy (Left n) u
  got-left n l none h f = tt
  got-left n l (got x p i) h f = more_left n l p i h f

  got-none : (l : ℕ) (u : Got K (Sub K 1)) → GotBy (Few 0 0 l) u → GotBy (Left 0) u
  got-none l none f = tt
  got-none l (got x p i) f = none_left 0 0 l p i f

  take_max-few : (n : ℕ) (t : Sub K (suc n)) → Full K (suc n) t → GotBy (Left n) (take_max K (suc n) t)
  take_max-few n (page c []) f = absurd (omega (arith, f.0))
  take_max-few zero (page c (x ∷ xs)) f =
      got-none (suc (length xs)) (take_max K 1 (page c (x ∷ xs))) (max_in-few cmp (Full K 0) (λ c i. i ≡ 0) 0 0 (mend K 0) leaf-right (λ c e d i f h. leaf-right c e d i h f) (take_max K 0) (λ c f. tt) c x xs f.2 f.3)
  take_max-few (suc n) (page c (x ∷ xs)) f =
      got-left (suc n) (suc (length xs)) (take_max K (suc (suc n)) (page c (x ∷ xs))) f.0
      (max_in-few cmp (Full K (suc n)) (Left n) (suc n) (suc (suc n)) (mend K (suc n)) (mend-right n) (mend-left n) (take_max K (suc n)) (λ d k. take_max-few n d k) c x xs f.2 f.3)

  leaf-few : (low : ℕ) (k : K) (c : Sub K 0) (x : Item K (Sub K 0)) (xs : List (Item K (Sub K 0))) → FullPage (Full K 0) low (page c (x ∷ xs)) → let r = del cmp 1 k (page c (x ∷ xs)) in Few 0 0 (suc (length xs)) r.0 r.1
  leaf-few low k c x xs f =
      del_in-few cmp (Full K 0) (λ c i. i ≡ 0) 0 0 (mend K 0) leaf-right (λ c e d i f h. leaf-right c e d i h f) (take_max K 0) (λ c f. tt) (back K 0) k (del cmp 0 k) (λ c f. refl) c x xs f.2 f.3

  page-few : (n low : ℕ) (k : K) → ((t : Sub K (suc n)) → Full K (suc n) t → Left n (del cmp (suc n) k t).0 (del cmp (suc n) k t).1) → (c : Sub K (suc n)) (x : Item K (Sub K (suc n))) (xs : List (Item K (Sub K (suc n)))) →
      FullPage (Full K (suc n)) low (page c (x ∷ xs)) → let r = del cmp (suc (suc n)) k (page c (x ∷ xs)) in Few (suc n) (suc (suc n)) (suc (length xs)) r.0 r.1
  page-few n low k few c x xs f =
      del_in-few cmp (Full K (suc n)) (Left n) (suc n) (suc (suc n)) (mend K (suc n)) (mend-right n) (mend-left n) (take_max K (suc n)) (take_max-few n) (back K (suc n)) k (del cmp (suc n) k) few c x xs f.2 f.3

  del-few : (n : ℕ) (k : K) (t : Sub K (suc n)) → Full K (suc n) t → Left n (del cmp (suc n) k t).0 (del cmp (suc n) k t).1
  del-few n k (page c []) f = absurd (omega (arith, f.0))
  del-few zero k (page c (x ∷ xs)) f = none_left 0 0 (suc (length xs)) (del cmp 1 k (page c (x ∷ xs))).0 (del cmp 1 k (page c (x ∷ xs))).1 (leaf-few 12 k c x xs f)
  del-few (suc n) k (page c (x ∷ xs)) f =
      more_left (suc n) (suc (length xs)) (del cmp (suc (suc n)) k (page c (x ∷ xs))).0 (del cmp (suc (suc n)) k (page c (x ∷ xs))).1 f.0 (page-few n 12 k (λ t g. del-few n k t g) c x xs f)

  root-few : (n : ℕ) (k : K) (p : Sub K (suc n)) → FullPage (Full K n) (lowest n) p → (del cmp (suc n) k p).1 ≤ suc n
  root-few zero k (page c []) f = omega arith
  root-few (suc n) k (page c []) f = absurd (omega (arith, f.0))
  root-few zero k (page c (x ∷ xs)) f = few-most 0 12 (del cmp 1 k (page c (x ∷ xs))).0 (del cmp 1 k (page c (x ∷ xs))).1 (none_left 0 0 (suc (length xs)) (del cmp 1 k (page c (x ∷ xs))).0 (del cmp 1 k (page c (x ∷ xs))).1 (leaf-few 0 k c x xs f))
  root-few (suc n) k (page c (x ∷ xs)) f = few-most (suc n) (suc (length xs)) (del cmp (suc (suc n)) k (page c (x ∷ xs))).0 (del cmp (suc (suc n)) k (page c (x ∷ xs))).1 (page-few n 1 k (λ t g. del-few n k t g) c x xs f)

  shrink-few : (n : ℕ) (p : Sub K (suc n)) (f : ℕ) → (shrink n p f).1 ≤ f
  shrink-few zero p f = omega arith
  shrink-few (suc n) (page c []) f = omega arith
  shrink-few (suc n) (page c (x ∷ xs)) f = omega arith

  pub delete-most : DeleteMost cmp
  delete-most t k g = go (lookup cmp t k)
    where
      r : Sub K (suc t.over) × ℕ
      r = del cmp (suc t.over) k t.root

      go : (o : Found) → (if_found {A = Tree K × ℕ} o (t, 0) (shrink t.over r.0 r.1)).1 ≤ levels t
      go absent = omega arith
      go (at v) = let h = shrink-few t.over r.0 r.1 in let i = root-few t.over k t.root g.filled in omega arith
