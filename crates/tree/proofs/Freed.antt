-- The sectors set free are those of the old pages that the new tree has no more.
use Rattle.std.proofs.Common.{◌≡◌, ℕ, zero, suc, ◌+◌, ◌<◌, ◌≤◌, Bool, true, false, cond, ◌⊎◌, List, [], ◌∷◌, sym, refl, ap, ◌∙◌, subst, inl, inr, arith}
use Rattle.std.proofs.lemmas.Bool.{true≢false}
use Rattle.numbers.specs.Order.{Cmp, IsOrder}
use Rattle.tree.specs.Tree.{Item, item, Page, page, Sub, Tree, All, Child, pages_rest, Good}
use Rattle.tree.specs.Fresh.{IsSame, has, sum_children, unmarked}
use Rattle.tree.specs.Stored.{Shown, load, loaded, write, Each, Sectors, Off, first_page, where_is, has_below, lay_rest, lay_page, lay, SomeKid, Stands, UnderRoot, Frees}
use Rattle.tree.proofs.Stored.{load-stays, stored_at, write_same, write-other, off-more, off-new}
use Rattle.tree.proofs.Laid.{rest-laid, page-laid, laid}
use Rattle.tree.proofs.Places.{kid-map, kid-elim, one-level, one-sector}
use Rattle.tree.proofs.Stay.{some-any, sectors-sub, sectors-at, stands-back, stands-has, first-stands, where-stands}

-- what is known of the sectors of a tree: old, or one of the free ones with a page that o does not mark
module _ {K : Type 0} (free : ℕ → ℕ) (m : ℕ) (o : (n : ℕ) → Sub K n → Bool) (Old : ℕ → ℕ → Type 0) where
  abbrev pub Known : Shown K → ℕ → ℕ → Type 0
  Known d j x = Old j x ⊎ ((i : ℕ) × (i < m) × (free i ≡ x) × (o j (load d j x) ≡ false))

  abbrev pub From : Shown K → ℕ → ℕ → Type 0
  From d n a = (j x : ℕ) → Stands d n a j x → Known d j x

  module _ (d d' : Shown K) (B : ℕ → Type 0) (keep : (b : ℕ) → B b → d' b ≡ d b) where
    known-stays : (j x : ℕ) → Sectors B d j x → Known d j x → Known d' j x
    known-stays j x h (inl k) = inl k
    known-stays j x h (inr (i, l, e, f)) = inr (i, l, e, ap (o j) (load-stays d d' B B (λ b k. k) keep j x h) ∙ f)

    pub from-stays : (n a : ℕ) → Sectors B d n a → From d n a → From d' n a
    from-stays n a h f j x s = let t = stands-back d d' B keep j x n a h s in known-stays j x (sectors-sub B d j x n a h t) (f j x t)

    from-rest : (n : ℕ) (xs : List (Item K ℕ)) → All (Child (Sectors B d n)) xs → All (Child (From d n)) xs → All (Child (From d' n)) xs
    from-rest n [] h f = tt
    from-rest n (item e a ∷ xs) h f = (from-stays n a h.0 f.0, from-rest n xs h.1 f.1)

    pub from-page : (n : ℕ) (p : Page K ℕ) → Each (Sectors B d n) p → Each (From d n) p → Each (From d' n) p
    from-page n (page c xs) h f = (from-stays n c h.0 f.0, from-rest n xs h.1 f.1)

module _ (K : Type 0) (free : ℕ → ℕ) (r m : ℕ) (distinct : (i j : ℕ) → i < m → j < m → free i ≡ free j → i ≡ j) (apart : (i : ℕ) → i < m → r ≡ free i → ⊥)
    (o : (n : ℕ) → Sub K n → Bool) (place : (n : ℕ) → Sub K n → ℕ) (d₀ : Shown K)
    (marked : (n : ℕ) (s : Sub K (suc n)) → o (suc n) s ≡ true → (load d₀ (suc n) (place (suc n) s) ≡ s) × Sectors (Off free r m 0) d₀ (suc n) (place (suc n) s) × (unmarked K o (suc n) s ≡ 0))
    (Old : ℕ → ℕ → Type 0) (placed : (n : ℕ) (s : Sub K (suc n)) → o (suc n) s ≡ true → (j x : ℕ) → Stands d₀ (suc n) (place (suc n) s) j x → Old j x) where
  abbrev F : Shown K → ℕ → ℕ → Type 0
  F d n a = From free m o Old d n a

  abbrev O : ℕ → ℕ → Type 0
  O i b = Off free r m i b

  up : (i j : ℕ) → i ≤ j → (b : ℕ) → O i b → O j b
  up i j l b h = off-more K free r m distinct apart i j l b h

  module _ (n : ℕ) (from : (s : Sub K n) (d : Shown K) (i : ℕ) → ((b : ℕ) → O 0 b → d b ≡ d₀ b) → i + unmarked K o n s ≤ m → let w = lay free o place n s d i in F w.1 n w.0) where
    -- a child before those that are laid behind it
    first-from : (s : Sub K n) (xs : List (Item K (Sub K n))) →
        ((d : Shown K) (i : ℕ) → ((b : ℕ) → O 0 b → d b ≡ d₀ b) → i + pages_rest (unmarked K o n) xs ≤ m → let w = lay_rest (lay free o place n) xs d i in All (Child (F w.1 n)) w.0) →
        (d : Shown K) (i : ℕ) → ((b : ℕ) → O 0 b → d b ≡ d₀ b) → i + sum_children (unmarked K o n) (page s xs) ≤ m → let w = lay_page (lay free o place n) (page s xs) d i in Each (F w.1 n) w.0
    first-from s xs rests d i k l =
        let u = lay free o place n s d i in
        let p = laid K free r m distinct apart o place d₀ marked n s d i k (omega arith) in
        let pu = p.1 in
        let keep : (b : ℕ) → O 0 b → u.1 b ≡ d₀ b = λ b h. p.2 b (up 0 i (omega arith) b h) ∙ k b h in
        let w = lay_rest (lay free o place n) xs u.1 u.2 in
        let q = rest-laid K free r m distinct apart o place d₀ marked n (laid K free r m distinct apart o place d₀ marked n) xs u.1 u.2 keep (omega arith) in
        (from-stays free m o Old u.1 w.1 (O u.2) q.2 n u.0 p.3 (from s d i k (omega arith)), rests u.1 u.2 keep (omega arith))

    rest_from : (xs : List (Item K (Sub K n))) (d : Shown K) (i : ℕ) → ((b : ℕ) → O 0 b → d b ≡ d₀ b) → i + pages_rest (unmarked K o n) xs ≤ m →
        let w = lay_rest (lay free o place n) xs d i in All (Child (F w.1 n)) w.0
    rest_from [] d i k l = tt
    rest_from (item e s ∷ xs) d i k l = first-from s xs (λ d i k l. rest_from xs d i k l) d i k l

    pub page-from : (s : Sub K (suc n)) (d : Shown K) (i : ℕ) → ((b : ℕ) → O 0 b → d b ≡ d₀ b) → i + sum_children (unmarked K o n) s ≤ m →
        let w = lay_page (lay free o place n) s d i in Each (F w.1 n) w.0
    page-from (page s xs) d i k l = first-from s xs (rest_from xs) d i k l

  pub lay-from : (n : ℕ) (s : Sub K n) (d : Shown K) (i : ℕ) → ((b : ℕ) → O 0 b → d b ≡ d₀ b) → i + unmarked K o n s ≤ m → let w = lay free o place n s d i in F w.1 n w.0
  lay-from zero s d i k l = λ j x t. absurd t
  lay-from (suc n) s d i k l = go (o (suc n) s) refl l (page-from n (λ t e j a b. lay-from n t e j a b) s d i k)
    where
      w : Page K ℕ × Shown K × ℕ
      w = lay_page (lay free o place n) s d i

      go : (b : Bool) → o (suc n) s ≡ b → i + unmarked K o (suc n) s ≤ m → (i + sum_children (unmarked K o n) s ≤ m → Each (F w.1 n) w.0) →
          let v = cond {A = ℕ × Shown K × ℕ} b (place (suc n) s, d, i) (free w.2, write w.1 (free w.2) w.0, w.2 + 1) in F v.1 (suc n) v.0
      go true e l rec j x t = let h = marked n s e in inl (placed n s e j x (stands-back d₀ d (O 0) k j x (suc n) (place (suc n) s) h.1 t))
      go false e l rec j x t =
          let c : unmarked K o (suc n) s ≡ 1 + sum_children (unmarked K o n) s = rw e refl in
          let p = page-laid K free r m distinct apart o place d₀ marked n (laid K free r m distinct apart o place d₀ marked n) s d i k (omega arith) in
          let pu = p.1 in
          let q = w.2 in
          let d' : Shown K = write w.1 (free q) w.0 in
          let at-q : d' (free q) ≡ w.0 = write_same w.1 (free q) w.0 in
          let keep : (b : ℕ) → O q b → d' b ≡ w.1 b = λ b h. write-other w.1 (free q) b w.0 (λ z. h.0 q (omega arith) (omega arith) z) in
          let f : Each (F d' n) w.0 = from-page free m o Old w.1 d' (O q) keep n w.0 p.3 (rec (omega arith)) in
          let whole : load d' (suc n) (free q) ≡ s =
          (stored_at w.1 d' (O q) (O (q + 1)) (up q (q + 1) (omega arith)) keep n (free q) w.0 at-q (off-new K free r m distinct apart q (q + 1) (omega arith) (omega arith)) p.3).0 ∙ p.0 in
          fin d' q (omega arith) at-q f whole e j x t
        where
          fin : (d' : Shown K) (q : ℕ) → q < m → d' (free q) ≡ w.0 → Each (F d' n) w.0 → load d' (suc n) (free q) ≡ s → o (suc n) s ≡ false → F d' (suc n) (free q)
          fin d' q l at-q f whole e j x (inl (a, b)) =
              inr (q, l, b, subst (λ (z : ℕ). o z (load d' z x) ≡ false) a (subst (λ (z : ℕ). o (suc n) (load d' (suc n) z) ≡ false) b (ap (o (suc n)) whole ∙ e)))
          fin d' q l at-q f whole e j x (inr t) = kid-elim (F d' n) (λ c. Stands d' n c j x) (Known free m o Old d' j x) (λ c i u. i j x u) w.0 f (subst (λ (z : Page K ℕ). SomeKid (λ c. Stands d' n c j x) z) at-q t)

-- pages below a stored root
module _ {K : Type 0} (eq : K → K → Bool) (is : IsSame K eq) (d : Shown K) (n r : ℕ) where
  pub root-has : (j a : ℕ) → UnderRoot d n r j a → has_below eq (loaded d n r) j (load d j a) ≡ true
  root-has j a s = some-any (λ c. has eq n c j (load d j a)) (load d n) (d r) (kid-map (λ c. Stands d n c j a) (λ c. has eq n (load d n c) j (load d j a) ≡ true) (λ c t. stands-has eq is d j a n c t) (d r) s)

  -- where a page below it is looked for it stands
  pub root-place : (j : ℕ) (s : Sub K j) → has_below eq (loaded d n r) j s ≡ true → let a = first_page eq d (λ b. has eq n (load d n b) j s) (λ b. where_is eq d n b j s) (d r) in UnderRoot d n r j a × (load d j a ≡ s)
  root-place j s e = first-stands eq is d j s n (λ b h. where-stands eq is d j s n b h) (d r) e

  pub has-root : (j : ℕ) (s : Sub K j) → has_below eq (loaded d n r) j s ≡ true → (a : ℕ) × UnderRoot d n r j a × (load d j a ≡ s)
  has-root j s e = let t = root-place j s e in (first_page eq d (λ b. has eq n (load d n b) j s) (λ b. where_is eq d n b j s) (d r), t.0, t.1)

-- the sectors of an old tree, all of them as B says
module _ {K : Type 0} (B : ℕ → Type 0) (d : Shown K) (n r : ℕ) (off : Each (Sectors B d n) (d r)) where
  pub old-off : (j a : ℕ) → UnderRoot d n r j a → Sectors B d j a
  old-off j a s = kid-elim (Sectors B d n) (λ c. Stands d n c j a) (Sectors B d j a) (λ c i t. sectors-sub B d j a n c i t) (d r) off s

  pub off_at : (j a : ℕ) → UnderRoot d n r j a → B a
  off_at j a s = kid-elim (Sectors B d n) (λ c. Stands d n c j a) (B a) (λ c i t. sectors-at B d j a n c i t) (d r) off s

  pub old-load : (d' : Shown K) → ((b : ℕ) → B b → d' b ≡ d b) → (j a : ℕ) → UnderRoot d n r j a → load d' j a ≡ load d j a
  old-load d' kept j a s = load-stays d d' B B (λ b k. k) kept j a (old-off j a s)

-- what is known of every sector of the new tree tells which are set free
module _ {K : Type 0} (cmp : K → K → Cmp) (ord : IsOrder K cmp) (eq : K → K → Bool) (is : IsSame K eq) (free : ℕ → ℕ) (d : Shown K) (n r : ℕ) (d' : Shown K) (u : Tree K) (m : ℕ)
    (good : Good cmp (loaded d n r)) (off : Each (Sectors (Off free r m 0) d n) (d r)) (tree : loaded d' u.over r ≡ u) (kept : (b : ℕ) → Off free r m 0 b → d' b ≡ d b)
    (from : (j x : ℕ) → UnderRoot d' u.over r j x → Known free m (has_below eq (loaded d n r)) (λ j x. UnderRoot d n r j x) d' j x) where
  pub frees : Frees eq free d n r d' u m
  frees = record { stays = stays; only = only; others = others }
    where
      others : (j a : ℕ) → UnderRoot d' u.over r j a → UnderRoot d n r j a ⊎ ((i : ℕ) × (i < m) × (free i ≡ a))
      others j a t = go (from j a t)
        where
          go : Known free m (has_below eq (loaded d n r)) (λ j x. UnderRoot d n r j x) d' j a → UnderRoot d n r j a ⊎ ((i : ℕ) × (i < m) × (free i ≡ a))
          go (inl k) = inl k
          go (inr (i, l, e, f)) = inr (i, l, e)

      only : (j a : ℕ) → UnderRoot d n r j a → (i : ℕ) → UnderRoot d' u.over r i a → has_below eq u j (load d j a) ≡ true
      only j a s i t = go (from i a t)
        where
          go : Known free m (has_below eq (loaded d n r)) (λ j x. UnderRoot d n r j x) d' i a → has_below eq u j (load d j a) ≡ true
          go (inl k) =
              let h : has_below eq u i (load d' i a) ≡ true = subst (λ (z : Tree K). has_below eq z i (load d' i a) ≡ true) tree (root-has eq is d' u.over r i a t) in
              subst (λ (z : ℕ). has_below eq u z (load d z a) ≡ true) (one-level cmp ord d n r good i j a k s) (subst (λ (z : Sub K i). has_below eq u i z ≡ true) (old-load (Off free r m 0) d n r off d' kept i a k) h)
          go (inr (q, l, e, f)) = absurd ((off_at (Off free r m 0) d n r off j a s).0 q (omega arith) l e)

      stays : (j a : ℕ) → UnderRoot d n r j a → has_below eq u j (load d j a) ≡ true → UnderRoot d' u.over r j a
      stays j a s h = go v.0 v.1 v.2 (from j v.0 v.1)
        where
          v : (b : ℕ) × UnderRoot d' u.over r j b × (load d' j b ≡ load d j a)
          v = has-root eq is d' u.over r j (load d j a) (subst (λ (z : Tree K). has_below eq z j (load d j a) ≡ true) (sym tree) h)

          go : (b : ℕ) → UnderRoot d' u.over r j b → load d' j b ≡ load d j a → Known free m (has_below eq (loaded d n r)) (λ j x. UnderRoot d n r j x) d' j b → UnderRoot d' u.over r j a
          go b t e (inl k) = subst (λ (z : ℕ). UnderRoot d' u.over r j z) (sym (one-sector cmp ord d n r good j a b s k (sym e ∙ old-load (Off free r m 0) d n r off d' kept j b k))) t
          go b t e (inr (q, l, i, f)) =
              let y : has_below eq (loaded d n r) j (load d j a) ≡ true = root-has eq is d n r j a s in
              let x : has_below eq (loaded d n r) j (load d j a) ≡ false = subst (λ (z : Sub K j). has_below eq (loaded d n r) j z ≡ false) e f in
              absurd (true≢false (sym y ∙ x))
