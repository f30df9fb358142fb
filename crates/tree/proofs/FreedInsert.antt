-- What is known of the sectors of a stored insert.
use Rattle.std.proofs.Common.{◌≡◌, ℕ, zero, suc, ◌+◌, ◌<◌, ◌≤◌, Bool, false, List, [], ◌∷◌, sym, refl, ◌∙◌, subst, inl, inr, arith}
use Rattle.std.proofs.lemmas.Bool.{or_parts}
use Rattle.numbers.specs.Order.{Cmp, below, same, above}
use Rattle.tree.specs.Tree.{Entry, Item, item, Page, page, Sub, Tree, All, Child, pick, Found, at, look_in, look, Full, FullPage, fewest}
use Rattle.tree.specs.Insert.{Up, one, two, tops, splice, fit, grow, ins_in, ins_page, ins}
use Rattle.tree.specs.Fresh.{has, same_sub}
use Rattle.tree.specs.Stored.{Shown, map_rest, map_page, map_up, load, write, Each, Sectors, Off, store, store_root, Way, here, into, beyond, way_in, way, around, ins_stored, has_below, SomeRest, SomeKid, Stands, UnderRoot}
use Rattle.tree.proofs.Lists.{child_both}
use Rattle.tree.proofs.Fill.{EachUp}
use Rattle.tree.proofs.Marks.{Marked, MarkedPage, Held, Marks, Home}
use Rattle.tree.proofs.InsertCount.{AllNew, SplitNew, ins-fresh}
use Rattle.tree.proofs.Stored.{load-stays, write_same, write-other, Around, Same, way_in-same, fit-each, store_out, page-out, ins-out, page-map}
use Rattle.tree.proofs.Places.{kid-elim, rest-each, full-each}
use Rattle.tree.proofs.Freed.{Known, From, from-stays, from-page}

-- the child on the way is the one that search looks in
module _ {K T : Type 0} (cmp : K → K → Cmp) (g : ℕ → T) (h : T → Found) (x : Entry K) where
  abbrev Looks : Way K → Found → Type 0
  Looks (here p) f = Unit {0}
  Looks (into a r) f = f ≡ h (g a)

  beyond-looks : (c : ℕ) (e : Entry K) (w : Way K) (f : Found) → Looks w f → Looks (beyond c e w) f
  beyond-looks c e (here p) f l = tt
  beyond-looks c e (into a r) f l = l

  way_in-looks : (c : ℕ) (xs : List (Item K ℕ)) → Looks (way_in cmp x c xs) (look_in cmp h x.0 (g c) (map_rest g xs))
  way_in-looks c [] = refl
  way_in-looks c (item e d ∷ xs) = go (cmp x.0 e.0) (way_in-looks d xs)
    where
      f : Found
      f = look_in cmp h x.0 (g d) (map_rest g xs)

      go : (o : Cmp) → Looks (way_in cmp x d xs) (look_in cmp h x.0 (g d) (map_rest g xs)) →
          Looks (pick o (into c (λ u. splice u (item e d ∷ xs))) (here (page c (item x d ∷ xs))) (beyond c e (way_in cmp x d xs))) (pick o (h (g c)) (at e.1) (look_in cmp h x.0 (g d) (map_rest g xs)))
      go below l = refl
      go same l = tt
      go above l = beyond-looks c e (way_in cmp x d xs) (look_in cmp h x.0 (g d) (map_rest g xs)) l

module _ {K T : Type 0} (g : ℕ → T) (P : Page K T → Bool) (M : T → Type 0) where
  marked-each : (p : Page K ℕ) → MarkedPage P M (map_page g p) → Each (λ c. M (g c)) p
  marked-each (page c xs) h = (h.1, rest-each M g xs h.2)

module _ {K : Type 0} (P Q : ℕ → Type 0) where
  both : (p : Page K ℕ) → Each P p → Each Q p → Each (λ c. P c × Q c) p
  both (page c xs) a b = ((a.0, b.0), child_both P Q xs a.1 b.1)

module _ {K : Type 0} (d : Shown K) (n : ℕ) (R : ℕ → ℕ → Type 0) where
  kids-rest : (xs : List (Item K ℕ)) → ((j x : ℕ) → SomeRest (λ b. Stands d n b j x) xs → R j x) → All (Child (λ b. (j x : ℕ) → Stands d n b j x → R j x)) xs
  kids-rest [] f = tt
  kids-rest (item e c ∷ xs) f = (λ j x t. f j x (inl t), kids-rest xs (λ j x s. f j x (inr s)))

  pub kids-each : (p : Page K ℕ) → ((j x : ℕ) → SomeKid (λ b. Stands d n b j x) p → R j x) → Each (λ b. (j x : ℕ) → Stands d n b j x → R j x) p
  kids-each (page c xs) f = (λ j x t. f j x (inl t), kids-rest xs (λ j x s. f j x (inr s)))

module _ (K : Type 0) (free : ℕ → ℕ) (r m : ℕ) (distinct : (i j : ℕ) → i < m → j < m → free i ≡ free j → i ≡ j) (apart : (i : ℕ) → i < m → r ≡ free i → ⊥)
    (cmp : K → K → Cmp) (o : (n : ℕ) → Sub K n → Bool) (home : K → Home) (marks : Marks cmp o home) (Old : ℕ → ℕ → Type 0) where
  abbrev F : Shown K → ℕ → ℕ → Type 0
  F d n a = From free m o Old d n a

  abbrev O : ℕ → ℕ → Type 0
  O i b = Off free r m i b

  -- a new page in a free sector
  new-from : (d : Shown K) (n q : ℕ) (p : Page K ℕ) → q < m → d (free q) ≡ p → Each (F d n) p → o (suc n) (load d (suc n) (free q)) ≡ false → F d (suc n) (free q)
  new-from d n q p l at-q f e j x (inl (a, b)) = inr (q, l, b, subst (λ (z : ℕ). o z (load d z x) ≡ false) a (subst (λ (z : ℕ). o (suc n) (load d (suc n) z) ≡ false) b e))
  new-from d n q p l at-q f e j x (inr t) = kid-elim (F d n) (λ c. Stands d n c j x) (Known free m o Old d j x) (λ c i u. i j x u) p f (subst (λ (z : Page K ℕ). SomeKid (λ c. Stands d n c j x) z) at-q t)

  abbrev NewIn : (n : ℕ) → Shown K → Up K ℕ → Type 0
  NewIn n d u = EachUp (λ a. o (suc n) (load d (suc n) a) ≡ false) u

  new_in : (n : ℕ) (d : Shown K) (u : Up K ℕ) → AllNew cmp o home marks (suc n) (map_up (load d (suc n)) u) → NewIn n d u
  new_in n d (one a) h = h
  new_in n d (two a e b) h = h

  store-from : (n : ℕ) (d : Shown K) (i : ℕ) (u : Up K (Page K ℕ)) → i + tops u ≤ m → EachUp (Each (Sectors (O i) d n)) u → EachUp (Each (F d n)) u →
      let s = store free d i u in NewIn n s.1 s.0 → EachUp (F s.1 (suc n)) s.0
  store-from n d i (one p) l h f e =
      let keep : (b : ℕ) → O i b → write d (free i) p b ≡ d b = λ b k. write-other d (free i) b p (λ z. k.0 i (omega arith) (omega arith) z) in
      new-from (write d (free i) p) n i p (omega arith) (write_same d (free i) p) (from-page free m o Old d (write d (free i) p) (O i) keep n p h f) e
  store-from n d i (two p g q) l h f e =
      let d₁ : Shown K = write d (free i) p in
      let d₂ : Shown K = write d₁ (free (i + 1)) q in
      let keep : (b : ℕ) → O i b → d₂ b ≡ d b = λ b k. write-other d₁ (free (i + 1)) b q (λ z. k.0 (i + 1) (omega arith) (omega arith) z) ∙ write-other d (free i) b p (λ z. k.0 i (omega arith) (omega arith) z) in
      let at_i : d₂ (free i) ≡ p = write-other d₁ (free (i + 1)) (free i) q (λ z. let y = distinct (i + 1) i (omega arith) (omega arith) z in absurd (omega arith)) ∙ write_same d (free i) p in (
        new-from d₂ n i p (omega arith) at_i (from-page free m o Old d d₂ (O i) keep n p h.0 f.0) e.0,
        new-from d₂ n (i + 1) q (omega arith) (write_same d₁ (free (i + 1)) q) (from-page free m o Old d d₂ (O i) keep n q h.1 f.1) e.1,
      )

  -- what is known of a child before the insert
  abbrev pub Before : (n : ℕ) → Shown K → ℕ → ℕ → Type 0
  Before n d i b = Sectors (O i) d n b × F d n b × Held K o n (load d n b)

  pub before-each : (n low : ℕ) (d : Shown K) (i : ℕ) (p : Page K ℕ) → Each (Sectors (O i) d n) p → Each (F d n) p → FullPage (Full K n) low (map_page (load d n) p) → Marked K o (suc n) (map_page (load d n) p) → Each (Before n d i) p
  before-each n low d i p h f u k =
      let a = both (λ c. Full K n (load d n c)) (λ c. Marked K o n (load d n c)) p (full-each (Full K n) (load d n) low p u) (marked-each (load d n) (o (suc n)) (Marked K o n) p k) in
      let b = both (Sectors (O i) d n) (F d n) p h f in
      page-map (λ c. (Sectors (O i) d n c × F d n c) × Held K o n (load d n c)) (Before n d i) (λ c z. (z.0.0, z.0.1, z.1)) p (both (λ c. Sectors (O i) d n c × F d n c) (λ c. Held K o n (load d n c)) p b a)

  module _ (n : ℕ) (x : Entry K) (d : Shown K) (i : ℕ)
      (deeper : (c : ℕ) → i + (ins cmp n x (load d n c)).1 ≤ m → Before n d i c → (look cmp n x.0 (load d n c) ≡ at x.1 → ⊥) → let s = ins_stored cmp free n x d i c in EachUp (F s.1 n) s.0) where
    around-from : (w : Way K) (q : Page K (Sub K n) × ℕ) (f : Found) → i + q.1 ≤ m → Same cmp (load d n) (Before n d i) (ins cmp n x) x w q → Looks cmp (load d n) (look cmp n x.0) x w f → (f ≡ at x.1 → ⊥) →
        let v = around (ins_stored cmp free n x d i) d i w in Each (F v.1 n) v.0
    unfolding Around
    around-from (here p) q f l s k e = page-map (Before n d i) (F d n) (λ c z. z.1) p s.2
    around-from (into c y) q f l s k e =
        let v = ins_stored cmp free n x d i c in
        let z = s.0 in
        let b = s.1 in
        let t = ins-out K free r m distinct apart cmp n x d i c (omega arith) b.0 in
        let tf = deeper c (omega arith) b (λ h. e (k ∙ h)) in
        (s.2 (load v.1 n) (F v.1 n) (λ a h. load-stays d v.1 (O i) (O i) (λ b k. k) t.2 n a h.0) (λ a h. from-stays free m o Old d v.1 (O i) t.2 n a h.0 h.1) v.0 t.0 tf).1

    pub page-from : (p : Page K ℕ) → let q = map_page (load d n) p in i + (ins_page cmp (ins cmp n x) x q).1 ≤ m + tops (ins_page cmp (ins cmp n x) x q).0 → Each (Before n d i) p → (look cmp (suc n) x.0 q ≡ at x.1 → ⊥) →
        let w = around (ins_stored cmp free n x d i) d i (way cmp x p) in Each (F w.1 n) w.0
    page-from (page c xs) l h e =
        let q = ins_in cmp (ins cmp n x) x (load d n c) (map_rest (load d n) xs) in
        around-from (way_in cmp x c xs) q (look_in cmp (look cmp n x.0) x.0 (load d n c) (map_rest (load d n) xs)) (omega arith) (way_in-same cmp (load d n) (Before n d i) (ins cmp n x) x c xs h.0 h.1) (way_in-looks cmp (load d n) (look cmp n x.0) x c xs) e

  pub ins-from : (n : ℕ) (x : Entry K) (d : Shown K) (i c : ℕ) → i + (ins cmp n x (load d n c)).1 ≤ m → Before n d i c → (look cmp n x.0 (load d n c) ≡ at x.1 → ⊥) → let s = ins_stored cmp free n x d i c in EachUp (F s.1 n) s.0
  ins-from zero x d i c l h e = (λ j y t. absurd t, λ j y t. absurd t)
  ins-from (suc n) x d i c l h e =
      let w = around (ins_stored cmp free n x d i) d i (way cmp x (d c)) in
      let p = page-out K free r m distinct apart cmp n x d i (λ a k s. ins-out K free r m distinct apart cmp n x d i a k s) (d c) (omega arith) h.0.1 in
      let y = p.1 in
      let pf = page-from n x d i (λ a k s q. ins-from n x d i a k s q) (d c) (omega arith) (before-each n fewest d i (d c) h.0.1 (kids-each d n (Known free m o Old d) (d c) (λ j y t. h.1 j y (inr t))) h.2.0 h.2.1) e in
      let out = ins-out K free r m distinct apart cmp (suc n) x d i c l h.0 in
      let s = ins_stored cmp free (suc n) x d i c in
      store-from n w.1 w.2 (fit w.0) (omega arith) (fit-each (Sectors (O w.2) w.1 n) w.0 p.3) (fit-each (F w.1 n) w.0 pf)
      (new_in n s.1 s.0 (subst (λ (z : Up K (Sub K (suc n))). AllNew cmp o home marks (suc n) z) (sym out.0) (ins-fresh cmp o home marks n x (load d (suc n) c) h.2 e)))

  -- the root goes to its own sector
  pub root-from : (n : ℕ) (d : Shown K) (i : ℕ) (u : Up K (Page K ℕ)) (k : ℕ) → k ≡ i + tops u → (grow n (map_up (map_page (load d n)) u, k)).1 ≤ m → EachUp (Each (Sectors (O i) d n)) u → EachUp (Each (F d n)) u →
      SplitNew cmp o home marks (suc n) (map_up (map_page (load d n)) u) → let s = store_root free d i r n u in (j x : ℕ) → UnderRoot s.1 s.0 r j x → Known free m o Old s.1 j x
  root-from n d i (one p) k e l h f new j x t =
      let d' : Shown K = write d r p in
      let keep : (b : ℕ) → O i b → d' b ≡ d b = λ b q. write-other d r b p q.1 in
      kid-elim (F d' n) (λ c. Stands d' n c j x) (Known free m o Old d' j x) (λ c q v. q j x v) p (from-page free m o Old d d' (O i) keep n p h f) (subst (λ (z : Page K ℕ). SomeKid (λ c. Stands d' n c j x) z) (write_same d r p) t)
  root-from n d i (two p e q) k z l h f new j x t =
      let d₂ : Shown K = write (write d (free i) p) (free (i + 1)) q in
      let top : Page K ℕ = page (free i) (item e (free (i + 1)) ∷ []) in
      let d₃ : Shown K = write d₂ r top in
      let out = store_out K free r m distinct apart n d i (two p e q) (omega arith) h in
      let keep : (b : ℕ) → O (i + 2) b → d₃ b ≡ d₂ b = λ b q. write-other d₂ r b top q.1 in
      let fresh : NewIn n d₂ (two (free i) e (free (i + 1))) = new_in n d₂ (two (free i) e (free (i + 1))) (subst (λ (z : Up K (Sub K (suc n))). SplitNew cmp o home marks (suc n) z) (sym out.tree) new) in
      let v = store-from n d i (two p e q) (omega arith) h f fresh in
      let a : F d₃ (suc n) (free i) = from-stays free m o Old d₂ d₃ (O (i + 2)) keep (suc n) (free i) out.under.0 v.0 in
      let b : F d₃ (suc n) (free (i + 1)) = from-stays free m o Old d₂ d₃ (O (i + 2)) keep (suc n) (free (i + 1)) out.under.1 v.1 in
      kid-elim (F d₃ (suc n)) (λ c. Stands d₃ (suc n) c j x) (Known free m o Old d₃ j x) (λ c q v. q j x v) top (a, (b, tt)) (subst (λ (z : Page K ℕ). SomeKid (λ c. Stands d₃ (suc n) c j x) z) (write_same d₂ r top) t)

-- what is no page of the tree is none below its root
pub known-below : {K : Type 0} (eq : K → K → Bool) (t : Tree K) (free : ℕ → ℕ) (m : ℕ) (Old : ℕ → ℕ → Type 0) (d : Shown K) (j x : ℕ) → Known free m (λ n s. has eq (suc t.over) t.root n s) Old d j x → Known free m (has_below eq t) Old d j x
known-below eq t free m Old d j x (inl k) = inl k
known-below eq t free m Old d j x (inr (i, l, e, f)) =
    inr (i, l, e, (or_parts (same_sub eq (suc t.over) j t.root (load d j x)) (has_below eq t j (load d j x)) f).1)
