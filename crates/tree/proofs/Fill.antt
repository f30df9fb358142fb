-- How full the pages stay.
use Rattle.std.proofs.Common.{◌≡◌, ℕ, zero, suc, ◌+◌, ◌≤◌, Bool, true, false, cond, leb, List, [], ◌∷◌, ◌++◌, length, take, drop, refl, arith}
use Rattle.std.proofs.lemmas.List.{take-append-drop, length-take, length-drop}
use Rattle.std.proofs.lemmas.Bool.{leb-true, leb-false}
use Rattle.numbers.specs.Order.{Cmp, below, same, above, IsOrder}
use Rattle.tree.specs.Tree.{Entry, Item, item, Page, page, Sub, pick, Tree, to_list, All, Child, Full, FullPage, lowest}
use Rattle.tree.specs.Insert.{Up, one, two, splice, before, halves, cut, fit, ins_in, ins_page, ins, grow}
use Rattle.tree.specs.Laws.{InsertKeeps}
use Rattle.tree.proofs.Lists.{all_left, all_right, put-rises}
use Rattle.tree.proofs.Insert.{insert-puts}

module _ {K : Type 0} where
  module _ {S : Type 0} (P : S → Type 0) where
    abbrev pub Within : ℕ → ℕ → Page K S → Type 0
    Within a b (page c xs) = (a ≤ length xs) × (length xs ≤ b) × P c × All (Child P) xs

    -- of what stands in the place of a child, each is as P says
    abbrev pub EachUp : Up K S → Type 0
    EachUp (one c) = P c
    EachUp (two c e d) = P c × P d

    pub splice-full : (u : Up K S) (xs : List (Item K S)) → EachUp u → All (Child P) xs → Within (length xs) (suc (length xs)) (splice u xs)
    splice-full (one c) xs h a = (omega arith, omega arith, h, a)
    splice-full (two c e d) xs h a = (omega arith, omega arith, h.0, (h.1, a))

    pub before-full : (c : S) (e : Entry K) (p : Page K S) (a b : ℕ) → P c → Within a b p → Within (suc a) (suc b) (before c e p)
    before-full c e (page d xs) a b h w = (omega arith, omega arith, h, (w.2, w.3))

    pub within_wider : (p : Page K S) (a b a' b' : ℕ) → a' ≤ a → b ≤ b' → Within a b p → Within a' b' p
    within_wider (page c xs) a b a' b' l h w = (omega arith, omega arith, w.2, w.3)

  -- a page in one or two: alone it has at least low
  abbrev pub Fits : {S : Type 0} → (S → Type 0) → ℕ → Up K (Page K S) → Type 0
  Fits P low (one p) = FullPage P low p
  Fits P low (two p e q) = FullPage P 12 p × FullPage P 12 q

  module _ {S : Type 0} (P : S → Type 0) where
    pub halves-full : (low : ℕ) (c : S) (l r : List (Item K S)) → 12 ≤ length l → length l ≤ 24 → 13 ≤ length r → length r ≤ 25 →
        P c → All (Child P) l → All (Child P) r → Fits P low (halves c l r)
    halves-full low c l [] h₁ h₂ h₃ h₄ p a b = absurd (omega arith)
    halves-full low c l (item e d ∷ r) h₁ h₂ h₃ h₄ p a b = ((h₁, h₂, p, a), (omega arith, omega arith, b.0, b.1))

    pub cut-full : (low m : ℕ) (c : S) (xs : List (Item K S)) → 12 ≤ m → m ≤ 24 → m + 13 ≤ length xs → length xs ≤ m + 25 →
        P c → All (Child P) xs → Fits P low (cut m c xs)
    cut-full low m c xs h₁ h₂ h₃ h₄ p a =
        let s : All (Child P) (take m xs ++ drop m xs) = rw take-append-drop a in
        halves-full low c (take m xs) (drop m xs) (rw length-take (omega arith)) (rw length-take (omega arith)) (rw length-drop (omega arith)) (rw length-drop (omega arith))
        p (all_left (Child P) (take m xs) (drop m xs) s) (all_right (Child P) (take m xs) (drop m xs) s)

    pub fit-full : (low : ℕ) (p : Page K S) → Within P low 25 p → Fits P low (fit p)
    fit-full low (page c xs) w = go (leb (length xs) 24) refl
      where
        go : (b : Bool) → leb (length xs) 24 ≡ b → Fits P low (cond b (one (page c xs)) (cut 12 c xs))
        go true e = (w.0, leb-true (length xs) 24 e, w.2, w.3)
        go false e = let h = leb-false (length xs) 24 e in cut-full low 12 c xs (omega arith) (omega arith) (omega arith) (omega arith) w.2 w.3

  pub fits-up : {S : Type 0} (P : S → Type 0) (u : Up K (Page K S)) → Fits P 12 u → EachUp (FullPage P 12) u
  fits-up P (one p) h = h
  fits-up P (two p e q) h = h

  abbrev pub RootOk : Tree K → Type 0
  RootOk t = FullPage (Full K t.over) (lowest t.over) t.root

module _ {K : Type 0} (cmp : K → K → Cmp) (ord : IsOrder K cmp) where
  module _ {S : Type 0} (P : S → Type 0) where
    module _ (f : S → Up K S × ℕ) (x : Entry K) (right : (c : S) → P c → EachUp P (f c).0) where
      pub ins_in-full : (c : S) (xs : List (Item K S)) → P c → All (Child P) xs → Within P (length xs) (suc (length xs)) (ins_in cmp f x c xs).0
      ins_in-full c [] p a = splice-full P (f c).0 [] (right c p) tt
      ins_in-full c (item e d ∷ xs) p a = go (cmp x.0 e.0) (ins_in-full d xs a.0 a.1)
        where
          go : (o : Cmp) → Within P (length xs) (suc (length xs)) (ins_in cmp f x d xs).0 →
              Within P (suc (length xs)) (suc (suc (length xs))) (pick {A = Page K S × ℕ} o (splice (f c).0 (item e d ∷ xs), (f c).1) (page c (item x d ∷ xs), 0) (before c e (ins_in cmp f x d xs).0, (ins_in cmp f x d xs).1)).0
          go below i = splice-full P (f c).0 (item e d ∷ xs) (right c p) a
          go same i = (omega arith, omega arith, p, a)
          go above i = before-full P c e (ins_in cmp f x d xs).0 (length xs) (suc (length xs)) p i

      pub ins_page-full : (low : ℕ) (p : Page K S) → FullPage P low p → Fits P low (ins_page cmp f x p).0
      ins_page-full low (page c xs) h = fit-full P low (ins_in cmp f x c xs).0 (within_wider P (ins_in cmp f x c xs).0 (length xs) (suc (length xs)) low 25 h.0 (omega arith) (ins_in-full c xs h.2 h.3))

  pub ins-full : (n : ℕ) (x : Entry K) (t : Sub K n) → Full K n t → EachUp (Full K n) (ins cmp n x t).0
  ins-full zero x t h = (tt, tt)
  ins-full (suc n) x t h = fits-up (Full K n) (ins_page cmp (ins cmp n x) x t).0 (ins_page-full (Full K n) (ins cmp n x) x (λ c g. ins-full n x c g) 12 t h)

  grow-full : (n : ℕ) (u : Up K (Sub K (suc n))) (k : ℕ) → Fits (Full K n) (lowest n) u → RootOk (grow n (u, k)).0
  grow-full n (one p) k h = h
  grow-full n (two p e q) k h = (omega arith, omega arith, h.0, (h.1, tt))

  pub insert-keeps : InsertKeeps cmp
  insert-keeps t k v g l =
      let x : Entry K = (k, v) in
      let u = ins cmp (suc t.over) x t.root in
      record {
        rises = rw (insert-puts cmp ord t k v g) (put-rises cmp ord x (to_list t) g.rises);
        few = l;
        filled = grow-full t.over u.0 u.1 (ins_page-full (Full K t.over) (ins cmp t.over x) x (λ c h. ins-full t.over x c h) (lowest t.over) t.root g.filled);
      }
