-- What a delete counts are the pages of the new tree that are not marked.
use Rattle.std.proofs.Common.{◌≡◌, ℕ, zero, suc, pred, ◌+◌, ◌-◌, ◌<◌, ◌≤◌, Bool, ◌⊎◌, List, [], ◌∷◌, ◌++◌, length, take, drop, sym, refl, ap, ◌∙◌, subst, inl, inr, arith}
use Rattle.std.proofs.lemmas.List.{length-take, length-drop, length-append, take-append-drop}
use Rattle.std.proofs.lemmas.Bool.{eq-eqb, ne_eqb, cases_lt}
use Rattle.numbers.specs.Order.{Cmp, below, same, above, IsOrder}
use Rattle.tree.specs.Tree.{Entry, Item, item, Page, page, Sub, pick, Found, absent, at, All, Child, pages_rest, pages_page, FullPage, Full, lowest, look_in, look}
use Rattle.tree.specs.Insert.{Up, one, two, tops, splice, before, halves}
use Rattle.tree.specs.Delete.{lent, even, mend_page, regained, mend, back, Got, none, got, max_last, past, max_in, fill, take_max, shrink, del_in, del}
use Rattle.tree.specs.Fresh.{sum_children, unmarked}
use Rattle.tree.proofs.Mend.{mended}
use Rattle.tree.proofs.Lists.{all_left, all_right, not-found, child_both}
use Rattle.tree.proofs.Pages.{pages_up, splice-pages, before-pages}
use Rattle.tree.proofs.Drain.{GotOk, take_max-ok, del_ok}
use Rattle.tree.proofs.Marks.{some-mid, some-all, Home, AtHome, SomeChild, Marked, rest-old, New, Marks, new-child, new-resized, new-counts, Held, held_none}
use Rattle.tree.proofs.Homes.{Each}
use Rattle.tree.proofs.EvenCount.{even-joins, even-right, SomeUp, Away, Changed, mend-right, mend-left}

-- LEAVES
module _ {K : Type 0} (cmp : K → K → Cmp) where
  -- one entry is gone, and the others are as they were
  abbrev Shorter : (Item K (Sub K 0) → Type 0) → List (Item K (Sub K 0)) → Sub K 1 → Type 0
  Shorter P xs (page c ys) = (suc (length ys) ≡ length xs) × (All P xs → All P ys)

  before-shorter : (P : Item K (Sub K 0) → Type 0) (c : Sub K 0) (e : Entry K) (d : Sub K 0) (xs : List (Item K (Sub K 0))) (w : Sub K 1) → Shorter P xs w → Shorter P (item e d ∷ xs) (before c e w)
  before-shorter P c e d xs (page b ys) h = (ap suc h.0, λ a. (a.0, h.1 a.1))

  leaf-del : (P : Item K (Sub K 0) → Type 0) (k : K) (w : ℕ) (c : Sub K 0) (xs : List (Item K (Sub K 0))) → look_in cmp (look cmp 0 k) k c xs ≡ at w →
      let r = del_in cmp (mend K 0) (back K 0) (take_max K 0) (del cmp 0 k) k c xs in (r.1 ≡ 0) × Shorter P xs r.0
  leaf-del P k w c [] q = absurd (not-found w q)
  leaf-del P k w c (item e d ∷ []) q = go (cmp k e.0) q
    where
      go : (o : Cmp) → pick o absent (at e.1) absent ≡ at w →
          let r = pick {A = Sub K 1 × ℕ} o (page c (item e d ∷ []), 0) (page d [], 0) (page c (item e d ∷ []), 0) in (r.1 ≡ 0) × Shorter P (item e d ∷ []) r.0
      go below q = absurd (not-found w q)
      go same q = (refl, (refl, λ a. tt))
      go above q = absurd (not-found w q)
  leaf-del P k w c (item e d ∷ y ∷ ys) q = go (cmp k e.0) (leaf-del P k w d (y ∷ ys)) q
    where
      v : Sub K 1 × ℕ
      v = del_in cmp (mend K 0) (back K 0) (take_max K 0) (del cmp 0 k) k d (y ∷ ys)

      go : (o : Cmp) → (look_in cmp (look cmp 0 k) k d (y ∷ ys) ≡ at w → (v.1 ≡ 0) × Shorter P (y ∷ ys) v.0) → pick o absent (at e.1) (look_in cmp (look cmp 0 k) k d (y ∷ ys)) ≡ at w →
          let r = pick {A = Sub K 1 × ℕ} o (page c (item e d ∷ y ∷ ys), 0) (page d (y ∷ ys), 0) (before c e v.0, v.1) in (r.1 ≡ 0) × Shorter P (item e d ∷ y ∷ ys) r.0
      go below i q = absurd (not-found w q)
      go same i q = (refl, (refl, λ a. a.1))
      go above i q = let h = i q in (h.0, before-shorter P c e d (y ∷ ys) v.0 h.1)

-- the largest entry x stood last
abbrev GotLast : (K : Type 0) → List (Item K (Sub K 0)) → Got K (Sub K 1) → Type 0
GotLast K zs none = ⊥
GotLast K zs (got x (page c xs) i) = (i ≡ 0) × (zs ≡ xs ++ (item x tt ∷ []))

past-last : {K : Type 0} (c : Sub K 0) (e : Entry K) (d : Sub K 0) (zs : List (Item K (Sub K 0))) (u : Got K (Sub K 1)) → GotLast K zs u → GotLast K (item e d ∷ zs) (past (mend K 0) c e u)
past-last c e d zs none h = h
past-last {K} c e d zs (got x (page b xs) i) h = (h.0, ap (λ (z : List (Item K (Sub K 0))). item e d ∷ z) h.1)

leaf-max : {K : Type 0} (c : Sub K 0) (z : Item K (Sub K 0)) (zs : List (Item K (Sub K 0))) → GotLast K (z ∷ zs) (take_max K 1 (page c (z ∷ zs)))
leaf-max c (item e d) [] = (refl, refl)
leaf-max {K} c (item e d) (y ∷ ys) = past-last c e d (y ∷ ys) (max_in (mend K 0) (take_max K 0) d (y ∷ ys)) (leaf-max d y ys)

-- PAGES OVER OTHERS
module _ {K S : Type 0} (N : S → Type 0) where
  splice-some : (u : Up K S) (xs : List (Item K S)) → SomeUp N u → SomeChild N (splice u xs)
  splice-some (one c) xs h = inl h
  splice-some (two c e d) xs (inl h) = inl h
  splice-some (two c e d) xs (inr h) = inr (inl h)

  before-some : (c : S) (e : Entry K) (w : Page K S) → SomeChild N w → SomeChild N (before c e w)
  before-some c e (page d xs) (inl h) = inr (inl h)
  before-some c e (page d xs) (inr h) = inr (inr h)

-- i pages below the top are new, of them a child
abbrev Renewed : {K S : Type 0} → (S → ℕ) → (S → Type 0) → Page K S → ℕ → Type 0
Renewed ψ N p i = (pages_page ψ p ≡ 1 + i) × SomeChild N p

-- the largest entry is as X says, and the rest with its count as J says
abbrev GotBy : {K T : Type 0} → (Entry K → Type 0) → (T → ℕ → Type 0) → Got K T → Type 0
GotBy X J none = ⊥
GotBy X J (got x c i) = J c i × X x

-- the largest entry of c filled in between c and d
abbrev Filled : {K S : Type 0} → (S → ℕ) → (S → Type 0) → (S → Entry K → S → Up K S × ℕ) → (S → Up K S → ℕ) → S → S → Got K S → Type 0
Filled ψ N m b c d none = ⊥
Filled ψ N m b c d (got x c' i) = let u = m c' x d in (pages_up ψ u.0 ≡ i + u.1 - b c u.0) × SomeUp N u.0

module _ {K : Type 0} (cmp : K → K → Cmp) {S : Type 0} (O N : S → Type 0) (ψ : S → ℕ) (old : (c : S) → O c → ψ c ≡ 0) (I : S → ℕ → Type 0) (E X : Entry K → Type 0) (m : S → Entry K → S → Up K S × ℕ) where
  abbrev Mended : ℕ → Up K S × ℕ → Type 0
  Mended i r = (pages_up ψ r.0 ≡ i + r.1) × SomeUp N r.0

  renewed : (i : ℕ) (u : Up K S × ℕ) (xs : List (Item K S)) → Mended i u → All (Child O) xs → Renewed ψ N (splice u.0 xs) (i + u.1)
  renewed i u xs h a = let j = splice-pages ψ u.0 xs in let k = rest-old O ψ old xs a in (omega (arith, h.0), splice-some N u.0 xs h.1)

  preceded : (i : ℕ) (c : S) (e : Entry K) (w : Page K S) → O c → Renewed ψ N w i → Renewed ψ N (before c e w) i
  preceded i c e w p h = let j = before-pages ψ c e w in let k = old c p in (omega (arith, h.0), before-some N c e w h.1)

  module _ (right : (c : S) (e : Entry K) (d : S) (i : ℕ) → I c i → E e → O d → Mended i (m c e d)) (left : (c : S) (e : Entry K) (d : S) (i : ℕ) → O c → E e → I d i → Mended i (m c e d))
      (g : S → Got K S) (takes : (c : S) → O c → GotBy X I (g c)) where
    last-new : (c : S) (e : Entry K) (u : Got K S) → O c → E e → GotBy X I u → GotBy X (Renewed ψ N) (max_last m c e u)
    last-new c e none p w h = absurd h
    last-new c e (got x d n) p w h = (renewed n (m c e d) [] (left c e d n p w h.0) tt, h.1)

    past-new : (c : S) (e : Entry K) (u : Got K (Page K S)) → O c → GotBy X (Renewed ψ N) u → GotBy X (Renewed ψ N) (past m c e u)
    past-new c e none p h = absurd h
    past-new c e (got x w n) p h = (preceded n c e w p h.0, h.1)

    pub max_in-new : (c : S) (x : Item K S) (xs : List (Item K S)) → O c → All (Child O) (x ∷ xs) → All (Each E) (x ∷ xs) → GotBy X (Renewed ψ N) (max_in m g c (x ∷ xs))
    max_in-new c (item e d) [] p a w = last-new c e (g d) p w.0 (takes d a.0)
    max_in-new c (item e d) (y ∷ ys) p a w = past-new c e (max_in m g d (y ∷ ys)) p (max_in-new d y ys a.0 a.1 w.1)

    module _ (b : S → Up K S → ℕ) (fills : (c d : S) → O c → O d → Filled ψ N m b c d (g c)) (k : K) (w : ℕ) (f : S → S × ℕ) (l : S → Found) (below_new : (c : S) → O c → l c ≡ at w → I (f c).0 (f c).1) where
      fill-new : (c d : S) (u : Got K S) (xs : List (Item K S)) → Filled ψ N m b c d u → All (Child O) xs → let r = fill m (b c) u d xs in Renewed ψ N r.0 r.1
      fill-new c d none xs h a = absurd h
      fill-new c d (got x c' n) xs h a =
          let u = m c' x d in let j = splice-pages ψ u.0 xs in let i = rest-old O ψ old xs a in (omega (arith, h.0), splice-some N u.0 xs h.1)

      pub del_in-new : (c : S) (x : Item K S) (xs : List (Item K S)) → O c → All (Child O) (x ∷ xs) → All (Each E) (x ∷ xs) → look_in cmp l k c (x ∷ xs) ≡ at w → let r = del_in cmp m b g f k c (x ∷ xs) in Renewed ψ N r.0 r.1
      del_in-new c (item e d) [] p a v q = go (cmp k e.0) q
        where
          go : (o : Cmp) → pick o (l c) (at e.1) (l d) ≡ at w →
              let r = pick {A = Page K S × ℕ} o (splice (m (f c).0 e d).0 [], (f c).1 + (m (f c).0 e d).1) (fill m (b c) (g c) d []) (splice (m c e (f d).0).0 [], (f d).1 + (m c e (f d).0).1) in Renewed ψ N r.0 r.1
          go below q = renewed (f c).1 (m (f c).0 e d) [] (right (f c).0 e d (f c).1 (below_new c p q) v.0 a.0) tt
          go same q = fill-new c d (g c) [] (fills c d p a.0) tt
          go above q = renewed (f d).1 (m c e (f d).0) [] (left c e (f d).0 (f d).1 p v.0 (below_new d a.0 q)) tt
      del_in-new c (item e d) (y ∷ ys) p a v q = go (cmp k e.0) (del_in-new d y ys a.0 a.1 v.1) q
        where
          t : Page K S × ℕ
          t = del_in cmp m b g f k d (y ∷ ys)

          go : (o : Cmp) → (look_in cmp l k d (y ∷ ys) ≡ at w → Renewed ψ N t.0 t.1) → pick o (l c) (at e.1) (look_in cmp l k d (y ∷ ys)) ≡ at w →
              let r = pick {A = Page K S × ℕ} o (splice (m (f c).0 e d).0 (y ∷ ys), (f c).1 + (m (f c).0 e d).1) (fill m (b c) (g c) d (y ∷ ys)) (before c e t.0, t.1) in Renewed ψ N r.0 r.1
          go below i q = renewed (f c).1 (m (f c).0 e d) (y ∷ ys) (right (f c).0 e d (f c).1 (below_new c p q) v.0 a.0) a.1
          go same i q = fill-new c d (g c) (y ∷ ys) (fills c d p a.0) a.1
          go above i q = preceded t.1 c e t.0 p (i q)

-- LEVELS
module _ {K : Type 0} (cmp : K → K → Cmp) (ord : IsOrder K cmp) (o : (n : ℕ) → Sub K n → Bool) (home : K → Home) (marks : Marks cmp o home) where
  abbrev Fresh : (n : ℕ) → Sub K n → Type 0
  Fresh n t = New cmp o home n t

  abbrev ψ : (n : ℕ) → Sub K n → ℕ
  ψ n t = unmarked K o n t

  -- changed, and short by one at most
  abbrev Left : (n : ℕ) → Sub K (suc n) → ℕ → Type 0
  Left n p i = Changed cmp o home marks n p i × FullPage (Full K n) 11 p

  -- an entry of a leaf is away from every level above
  abbrev Low : Entry K → Type 0
  Low e = (a : ℕ) → Away cmp o home marks (suc (suc a)) e

  -- the entries of a page are away from the level below
  own-away : (n l : ℕ) (xs : List (Item K (Sub K (suc n)))) → All (AtHome home (suc (suc n)) l) xs → All (Each (Away cmp o home marks (suc n))) xs
  own-away n l [] a = tt
  own-away n l (item e d ∷ xs) a = ((λ k v h. let i : suc (suc n) ≡ suc n = ap (λ (z : Home). z.0) (sym a.0 ∙ h) in absurd (omega arith)), own-away n l xs a.1)

  leaf-rest : (xs : List (Item K (Sub K 0))) → pages_rest (ψ 0) xs ≡ 0
  leaf-rest [] = refl
  leaf-rest (item e d ∷ xs) = let h = leaf-rest xs in omega arith

  leaf-page : (p : Sub K 1) → pages_page (ψ 0) p ≡ 1
  leaf-page (page c xs) = let h = leaf-rest xs in omega arith

  leaf-one : (p : Sub K 1) → Fresh 1 p → ψ 1 p ≡ 1
  leaf-one p h = new-counts cmp o home 0 p h ∙ leaf-page p

  leaf-shorter : (c : Sub K 0) (xs : List (Item K (Sub K 0))) (p : Sub K 1) → Held K o 1 (page c xs) → Shorter cmp (AtHome home 1 (length xs)) xs p → Fresh 1 p
  leaf-shorter c xs (page d ys) k h =
      new-resized cmp o home marks 0 (length xs) d ys (λ e. absurd (omega (arith, h.0))) (some-all _ ys (omega (arith, h.0, k.0.0)) (h.1 (marks.own 0 c xs k.1.0)))

  -- what take_max leaves of a leaf
  leaf_last : (c : Sub K 0) (zs : List (Item K (Sub K 0))) (u : Got K (Sub K 1)) → Held K o 1 (page c zs) → GotLast K zs u → GotOk cmp ord (λ p. FullPage (Full K 0) 11 p) u → GotBy Low (Left 0) u
  leaf_last c zs none k h f = h
  leaf_last c zs (got x (page d xs) i) k h f = (((let q = leaf-page (page d xs) in omega (arith, h.0), fresh), f), low)
    where
      whole : All (AtHome home 1 (length zs)) (xs ++ (item x tt ∷ []))
      whole = subst (λ (z : List (Item K (Sub K 0))). All (AtHome home 1 (length zs)) z) h.1 (marks.own 0 c zs k.1.0)

      long : length zs ≡ length xs + 1
      long = ap (λ (z : List (Item K (Sub K 0))). length z) h.1 ∙ length-append xs (item x tt ∷ [])

      fresh : Fresh 1 (page d xs)
      fresh = new-resized cmp o home marks 0 (length zs) d xs (λ e. absurd (omega (arith, long))) (some-all _ xs (omega (arith, f.0)) (all_left _ xs (item x tt ∷ []) whole))

      low : Low x
      low a l v q = let i : 1 ≡ suc (suc a) = ap (λ (z : Home). z.0) (sym (all_right _ xs (item x tt ∷ []) whole).0 ∙ q) in absurd (omega arith)

  both-got : (n : ℕ) (u : Got K (Sub K (suc (suc n)))) → GotBy Low (Renewed (ψ (suc n)) (Fresh (suc n))) u →
      GotOk cmp ord (λ p. FullPage (Full K (suc n)) 11 p) u → GotBy Low (Left (suc n)) u
  both-got n none h f = h
  both-got n (got x p i) h f = (((h.0.0, new-child cmp o home marks (suc n) p h.0.1), f), h.1)

  fulls : (n low : ℕ) (c : Sub K n) (xs : List (Item K (Sub K n))) → FullPage (Full K n) low (page c xs) → Marked K o (suc n) (page c xs) → Held K o n c × All (Child (Held K o n)) xs
  fulls n low c xs f m = ((f.2, m.1), child_both (Full K n) (Marked K o n) xs f.3 m.2)

  take_max-new : (n : ℕ) (t : Sub K (suc n)) → Held K o (suc n) t → GotBy Low (Left n) (take_max K (suc n) t)
  take_max-new n (page c []) k = absurd (omega (arith, k.0.0))
  take_max-new zero (page c (x ∷ xs)) k = leaf_last c (x ∷ xs) (take_max K 1 (page c (x ∷ xs))) k (leaf-max c x xs) (take_max-ok cmp ord 1 (page c (x ∷ xs)) k.0)
  take_max-new (suc n) (page c (x ∷ xs)) k =
      let h = fulls (suc n) 12 c (x ∷ xs) k.0 k.1 in
      both-got n (take_max K (suc (suc n)) (page c (x ∷ xs)))
      (max_in-new cmp (Held K o (suc n)) (Fresh (suc n)) (ψ (suc n)) (held_none cmp o home (suc n)) (Left n) (Away cmp o home marks (suc n)) Low (mend K (suc n))
      (λ p e q i a b d. mend-right cmp o home marks n i p e q a.0 a.1 d b) (λ p e q i d b a. mend-left cmp o home marks n i p e q d a.0 a.1 b)
      (take_max K (suc n)) (λ d i. take_max-new n d i) c x xs h.0 h.1 (own-away n (length (x ∷ xs)) (x ∷ xs) (marks.own (suc n) c (x ∷ xs) k.1.0)))
      (take_max-ok cmp ord (suc (suc n)) (page c (x ∷ xs)) k.0)

  -- the largest entry x of a leaf c, whose others are xs, filled in between c and d
  module _ (c : Sub K 0) (zs : List (Item K (Sub K 0))) (k : Held K o 1 (page c zs)) (x : Entry K) (b : Sub K 0) (xs : List (Item K (Sub K 0))) (is : zs ≡ xs ++ (item x tt ∷ [])) (f : 11 ≤ length xs) (fresh : Fresh 1 (page b xs))
      (d : Sub K 0) (ys : List (Item K (Sub K 0))) (q : Held K o 1 (page d ys)) where
    long : length zs ≡ length xs + 1
    long = ap (λ (z : List (Item K (Sub K 0))). length z) is ∙ length-append xs (item x tt ∷ [])

    at_home : home x.0 ≡ (1, length zs, x.1)
    at_home = (all_right _ xs (item x tt ∷ []) (subst (λ (z : List (Item K (Sub K 0))). All (AtHome home 1 (length zs)) z) is (marks.own 0 c zs k.1.0))).0

    abbrev FilledLeaf : Up K (Sub K 1) × ℕ → Type 0
    FilledLeaf r = (pages_up (ψ 1) r.0 ≡ r.1 - regained (page c zs) r.0) × SomeUp (Fresh 1) r.0

    -- the leaf got some entries from the right one, its own among them
    lent-leaf : (j : ℕ) (right : List (Item K (Sub K 0))) → j ≤ length ys → length xs ≡ 11 → 2 ≤ length right → length right ≤ length ys → All (AtHome home 1 (length ys)) right →
        let u = halves b (xs ++ (item x d ∷ take j ys)) right in FilledLeaf (u, tops u)
    lent-leaf j [] l e h i a = absurd (omega arith)
    lent-leaf zero (item g r ∷ right) l e h i a =
        let n = new-resized cmp o home marks 0 (length ys) r right (λ z. absurd (omega arith)) (some-all _ right (omega arith) a.1) in
        let s : length (xs ++ (item x d ∷ [])) ≡ length zs = length-append xs (item x d ∷ []) ∙ sym long in
        let w : ψ 1 (page b (xs ++ (item x d ∷ []))) ≡ 0 = subst (λ (z : List (Item K (Sub K 0))). ψ 1 (page b z) ≡ 0) is (held_none cmp o home 1 (page c zs) k) in
        let t = leaf-one (page r right) n in
        (rw (eq-eqb (length zs) (length (xs ++ (item x d ∷ []))) (sym s)) (omega arith), inr n)
    lent-leaf (suc j) (item g r ∷ right) l e h i a =
        let n = new-resized cmp o home marks 0 (length ys) r right (λ z. absurd (omega arith)) (some-all _ right (omega arith) a.1) in
        let s : length (xs ++ (item x d ∷ take (suc j) ys)) ≡ length xs + suc (length (take (suc j) ys)) = length-append xs (item x d ∷ take (suc j) ys) in
        let s' : 1 ≤ length (take (suc j) ys) = rw length-take (omega arith) in
        let m = new-resized cmp o home marks 0 (length zs) b (xs ++ (item x d ∷ take (suc j) ys)) (λ z. absurd (omega (arith, s, s', long))) (some-mid _ xs (item x d) (take (suc j) ys) at_home) in
        let t = leaf-one (page r right) n in let t' = leaf-one (page b (xs ++ (item x d ∷ take (suc j) ys))) m in
        (rw (ne_eqb (length zs) (length (xs ++ (item x d ∷ take (suc j) ys))) (λ z. absurd (omega (arith, s, s', long)))) (omega arith), inr n)

    leaf-fill : FilledLeaf (mend_page (page b xs) x (page d ys))
    leaf-fill =
        mended FilledLeaf (page b xs) x (page d ys) (λ l. short (omega arith) (cases_lt (length ys) 13)) (λ g l. absurd (omega (arith, q.0.0)))
        (λ g l.
        let t = leaf-one (page b xs) fresh in let t' = held_none cmp o home 1 (page d ys) q in
        (rw (ne_eqb (length zs) (length xs) (λ z. absurd (omega (arith, long)))) (omega arith), inl fresh))
      where
        u : Up K (Sub K 1)
        u = even (page b xs) x (page d ys)

        short : length xs ≡ 11 → (length ys < 13) ⊎ (13 ≤ length ys) → FilledLeaf (u, tops u)
        short e (inl l) =
            let s : length (xs ++ (item x d ∷ ys)) ≡ length xs + suc (length ys) = length-append xs (item x d ∷ ys) in
            let m = new-resized cmp o home marks 0 (length zs) b (xs ++ (item x d ∷ ys)) (λ z. absurd (omega (arith, s, long, q.0.0))) (some-mid _ xs (item x d) ys at_home) in
            rw (even-joins b xs x d ys (omega arith)) (leaf-one (page b (xs ++ (item x d ∷ ys))) m, m)
        short e (inr l) =
            let j = pred (lent (length ys)) in
            rw (even-right b xs x d ys e l) (lent-leaf j (drop j ys) (omega arith) e (rw length-drop (omega (arith, q.0.1))) (rw length-drop (omega arith))
            (all_right _ (take j ys) (drop j ys) (rw take-append-drop (marks.own 0 d ys q.1.0))))

  leaf-filled : (c : Sub K 0) (zs : List (Item K (Sub K 0))) (d : Sub K 0) (ys : List (Item K (Sub K 0))) (u : Got K (Sub K 1)) → Held K o 1 (page c zs) → Held K o 1 (page d ys) → GotLast K zs u → GotBy Low (Left 0) u →
      Filled (ψ 1) (Fresh 1) (mend K 1) (back K 1) (page c zs) (page d ys) u
  leaf-filled c zs d ys none k q h l = h
  leaf-filled c zs d ys (got x (page b xs) i) k q h l = let r = leaf-fill c zs k x b xs h.1 l.0.1.0 l.0.0.1 d ys q in (omega (arith, r.0, h.0), r.1)

  inner-filled : (n : ℕ) (c d : Sub K (suc (suc n))) (u : Got K (Sub K (suc (suc n)))) → Held K o (suc (suc n)) d → GotBy Low (Left (suc n)) u → Filled (ψ (suc (suc n))) (Fresh (suc (suc n))) (mend K (suc (suc n))) (back K (suc (suc n))) c d u
  inner-filled n c d none q h = h
  inner-filled n c d (got x p i) q h = let r = mend-right cmp o home marks (suc n) i p x d h.0.0 h.0.1 q (h.1 n) in (omega (arith, r.0), r.1)

  fills-new : (n : ℕ) (c d : Sub K (suc n)) → Held K o (suc n) c → Held K o (suc n) d → Filled (ψ (suc n)) (Fresh (suc n)) (mend K (suc n)) (back K (suc n)) c d (take_max K (suc n) c)
  fills-new zero (page c []) d k q = absurd (omega (arith, k.0.0))
  fills-new zero (page c (z ∷ zs)) (page d ys) k q = leaf-filled c (z ∷ zs) d ys (take_max K 1 (page c (z ∷ zs))) k q (leaf-max c z zs) (take_max-new 0 (page c (z ∷ zs)) k)
  fills-new (suc n) c d k q = inner-filled n c d (take_max K (suc (suc n)) c) q (take_max-new (suc n) c k)

  page-del : (n low : ℕ) (k : K) (w : ℕ) → ((t : Sub K (suc n)) → Held K o (suc n) t → look cmp (suc n) k t ≡ at w → Left n (del cmp (suc n) k t).0 (del cmp (suc n) k t).1) →
      (c : Sub K (suc n)) (x : Item K (Sub K (suc n))) (xs : List (Item K (Sub K (suc n)))) → FullPage (Full K (suc n)) low (page c (x ∷ xs)) → Marked K o (suc (suc n)) (page c (x ∷ xs)) → look cmp (suc (suc n)) k (page c (x ∷ xs)) ≡ at w →
      let r = del cmp (suc (suc n)) k (page c (x ∷ xs)) in Renewed (ψ (suc n)) (Fresh (suc n)) r.0 r.1
  page-del n low k w right c x xs f m q =
      let h = fulls (suc n) low c (x ∷ xs) f m in
      del_in-new cmp (Held K o (suc n)) (Fresh (suc n)) (ψ (suc n)) (held_none cmp o home (suc n)) (Left n) (Away cmp o home marks (suc n)) Low (mend K (suc n))
      (λ p e t i a b d. mend-right cmp o home marks n i p e t a.0 a.1 d b) (λ p e t i d b a. mend-left cmp o home marks n i p e t d a.0 a.1 b)
      (take_max K (suc n)) (take_max-new n) (back K (suc n)) (fills-new n) k w (del cmp (suc n) k) (look cmp (suc n) k) right
      c x xs h.0 h.1 (own-away n (length (x ∷ xs)) (x ∷ xs) (marks.own (suc n) c (x ∷ xs) m.0)) q

  del-new : (n : ℕ) (k : K) (w : ℕ) (t : Sub K (suc n)) → Held K o (suc n) t → look cmp (suc n) k t ≡ at w → Left n (del cmp (suc n) k t).0 (del cmp (suc n) k t).1
  del-new zero k w (page c xs) h q =
      let r = leaf-del cmp (AtHome home 1 (length xs)) k w c xs q in
      let s = leaf-page (del cmp 1 k (page c xs)).0 in
      ((omega (arith, r.0), leaf-shorter c xs (del cmp 1 k (page c xs)).0 h r.1), del_ok cmp ord 1 k (page c xs) h.0)
  del-new (suc n) k w (page c []) h q = absurd (omega (arith, h.0.0))
  del-new (suc n) k w (page c (x ∷ xs)) h q =
      let r = page-del n 12 k w (λ t i j. del-new n k w t i j) c x xs h.0 h.1 q in
      ((r.0, new-child cmp o home marks (suc n) (del cmp (suc (suc n)) k (page c (x ∷ xs))).0 r.1), del_ok cmp ord (suc (suc n)) k (page c (x ∷ xs)) h.0)

  -- a root over other pages has a new child
  abbrev RootNew : (n : ℕ) → Sub K (suc n) → Type 0
  RootNew zero p = Unit {0}
  RootNew (suc n) p = SomeChild (Fresh (suc n)) p

  root-del : (n : ℕ) (k : K) (w : ℕ) (p : Sub K (suc n)) → FullPage (Full K n) (lowest n) p → Marked K o (suc n) p → look cmp (suc n) k p ≡ at w →
      let r = del cmp (suc n) k p in (pages_page (ψ n) r.0 ≡ 1 + r.1) × RootNew n r.0
  root-del zero k w (page c xs) f m q = let r = leaf-del cmp (λ i. Unit {0}) k w c xs q in let s = leaf-page (del cmp 1 k (page c xs)).0 in (omega (arith, r.0), tt)
  root-del (suc n) k w (page c []) f m q = absurd (omega (arith, f.0))
  root-del (suc n) k w (page c (x ∷ xs)) f m q = page-del n 1 k w (λ t i j. del-new n k w t i j) c x xs f m q

  shrink-new : (n : ℕ) (p : Sub K (suc n)) (f : ℕ) → pages_page (ψ n) p ≡ 1 + f → RootNew n p → let r = shrink n p f in sum_children (ψ r.0.over) r.0.root ≡ r.1
  shrink-new zero (page c xs) f h s = omega arith
  shrink-new (suc n) (page (page b ys) []) f h (inl s) = let i = new-counts cmp o home n (page b ys) s in omega arith
  shrink-new (suc n) (page c []) f h (inr s) = absurd s
  shrink-new (suc n) (page c (x ∷ xs)) f h s = omega arith

  pub root-gone : (n : ℕ) (k : K) (w : ℕ) (p : Sub K (suc n)) → FullPage (Full K n) (lowest n) p → Marked K o (suc n) p → look cmp (suc n) k p ≡ at w →
      let d = del cmp (suc n) k p in let r = shrink n d.0 d.1 in sum_children (ψ r.0.over) r.0.root ≡ r.1
  root-gone n k w p f m q = let h = root-del n k w p f m q in shrink-new n (del cmp (suc n) k p).0 (del cmp (suc n) k p).1 h.0 h.1
