-- A new tree laid over an old one: shared pages stay where they are.
use Rattle.std.proofs.Common.{◌≡◌, ℕ, zero, suc, ◌+◌, ◌<◌, ◌≤◌, Bool, true, false, cond, List, [], ◌∷◌, refl, ◌∙◌, ap₂, arith, ap}
use Rattle.tree.specs.Tree.{Item, item, Page, page, Sub, All, Child, pages_rest, Entry}
use Rattle.tree.specs.Fresh.{sum_children, unmarked}
use Rattle.tree.specs.Stored.{Shown, map_rest, map_page, load, write, Each, Sectors, Off, lay_rest, lay_page, lay}
use Rattle.tree.proofs.Stored.{load-stays, sectors-stay, stored_at, write_same, write-other, off-more, off-new}

-- the children of a page behind one more entry
abbrev behind : {K S : Type 0} → Entry K → Page K S → List (Item K S)
behind e (page c xs) = item e c ∷ xs

module _ (K : Type 0) (free : ℕ → ℕ) (r m : ℕ) (distinct : (i j : ℕ) → i < m → j < m → free i ≡ free j → i ≡ j) (apart : (i : ℕ) → i < m → r ≡ free i → ⊥)
    (o : (n : ℕ) → Sub K n → Bool) (place : (n : ℕ) → Sub K n → ℕ) (d₀ : Shown K)
    (marked : (n : ℕ) (s : Sub K (suc n)) → o (suc n) s ≡ true → (load d₀ (suc n) (place (suc n) s) ≡ s) × Sectors (Off free r m 0) d₀ (suc n) (place (suc n) s) × (unmarked K o (suc n) s ≡ 0)) where
  abbrev pub B : ℕ → ℕ → Type 0
  B i b = Off free r m i b

  pub more : (i j : ℕ) → i ≤ j → (b : ℕ) → B i b → B j b
  more i j l b h = off-more K free r m distinct apart i j l b h

  -- the old sectors are still as they were
  abbrev pub Keeps : Shown K → Type 0
  Keeps d = (b : ℕ) → B 0 b → d b ≡ d₀ b

  abbrev pub Laid : (n : ℕ) → Sub K n → Shown K → ℕ → ℕ × Shown K × ℕ → Type 0
  Laid n s d i w = (load w.1 n w.0 ≡ s) × (w.2 ≡ i + unmarked K o n s) × ((b : ℕ) → B i b → w.1 b ≡ d b) × Sectors (B w.2) w.1 n w.0

  -- so the children of a page
  abbrev pub PageLaid : (n : ℕ) → Sub K (suc n) → Shown K → ℕ → Page K ℕ × Shown K × ℕ → Type 0
  PageLaid n s d i w = (map_page (load w.1 n) w.0 ≡ s) × (w.2 ≡ i + sum_children (unmarked K o n) s) × ((b : ℕ) → B i b → w.1 b ≡ d b) × Each (Sectors (B w.2) w.1 n) w.0

  module _ (n : ℕ) (lays : (s : Sub K n) (d : Shown K) (i : ℕ) → Keeps d → i + unmarked K o n s ≤ m → Laid n s d i (lay free o place n s d i)) where
    abbrev RestLaid : List (Item K (Sub K n)) → Shown K → ℕ → List (Item K ℕ) × Shown K × ℕ → Type 0
    RestLaid xs d i w = (map_rest (load w.1 n) w.0 ≡ xs) × (w.2 ≡ i + pages_rest (unmarked K o n) xs) × ((b : ℕ) → B i b → w.1 b ≡ d b) × All (Child (Sectors (B w.2) w.1 n)) w.0

    -- a child before those that are laid behind it
    first-laid : (s : Sub K n) (xs : List (Item K (Sub K n))) → ((d : Shown K) (i : ℕ) → Keeps d → i + pages_rest (unmarked K o n) xs ≤ m → RestLaid xs d i (lay_rest (lay free o place n) xs d i)) →
        (d : Shown K) (i : ℕ) → Keeps d → i + sum_children (unmarked K o n) (page s xs) ≤ m → PageLaid n (page s xs) d i (lay_page (lay free o place n) (page s xs) d i)
    first-laid s xs rests d i k l =
        let u = lay free o place n s d i in
        let p = lays s d i k (omega arith) in
        let pu = p.1 in
        let keep : Keeps u.1 = λ b h. p.2 b (more 0 i (omega arith) b h) ∙ k b h in
        let w = lay_rest (lay free o place n) xs u.1 u.2 in
        let q = rests u.1 u.2 keep (omega arith) in
        let qu = q.1 in
        let up : (b : ℕ) → B u.2 b → B w.2 b = more u.2 w.2 (omega arith) in
        let s' : load w.1 n u.0 ≡ s = load-stays u.1 w.1 (B u.2) (B w.2) up q.2 n u.0 p.3 ∙ p.0 in
        (ap₂ page s' q.0, omega arith, λ b h. q.2 b (more i u.2 (omega arith) b h) ∙ p.2 b h, (sectors-stay u.1 w.1 (B u.2) (B w.2) up q.2 n u.0 p.3, q.3))

    pub rest-laid : (xs : List (Item K (Sub K n))) (d : Shown K) (i : ℕ) → Keeps d → i + pages_rest (unmarked K o n) xs ≤ m → RestLaid xs d i (lay_rest (lay free o place n) xs d i)
    rest-laid [] d i k l = (refl, omega arith, λ b h. refl, tt)
    rest-laid (item e s ∷ xs) d i k l = let h = first-laid s xs (λ d i k l. rest-laid xs d i k l) d i k l in (ap (behind e) h.0, h.1, h.2, h.3)

    pub page-laid : (s : Sub K (suc n)) (d : Shown K) (i : ℕ) → Keeps d → i + sum_children (unmarked K o n) s ≤ m → PageLaid n s d i (lay_page (lay free o place n) s d i)
    page-laid (page s xs) d i k l = first-laid s xs (rest-laid xs) d i k l

  pub laid : (n : ℕ) (s : Sub K n) (d : Shown K) (i : ℕ) → Keeps d → i + unmarked K o n s ≤ m → Laid n s d i (lay free o place n s d i)
  laid zero s d i k l = (refl, omega arith, λ b h. refl, tt)
  laid (suc n) s d i k l = go (o (suc n) s) refl l (page-laid n (λ t e j a b. laid n t e j a b) s d i k)
    where
      w : Page K ℕ × Shown K × ℕ
      w = lay_page (lay free o place n) s d i

      go : (b : Bool) → o (suc n) s ≡ b → i + unmarked K o (suc n) s ≤ m →
          (i + sum_children (unmarked K o n) s ≤ m → PageLaid n s d i w) →
          Laid (suc n) s d i (cond {A = ℕ × Shown K × ℕ} b (place (suc n) s, d, i) (free w.2, write w.1 (free w.2) w.0, w.2 + 1))
      go true e l rec =
          let h = marked n s e in let z = h.2 in (
            load-stays d₀ d (B 0) (B i) (more 0 i (omega arith)) k (suc n) (place (suc n) s) h.1 ∙ h.0,
            omega arith,
            λ b h. refl,
            sectors-stay d₀ d (B 0) (B i) (more 0 i (omega arith)) k (suc n) (place (suc n) s) h.1,
          )
      go false e l rec =
          let c : unmarked K o (suc n) s ≡ 1 + sum_children (unmarked K o n) s = rw e refl in
          let p = rec (omega arith) in let pu = p.1 in
          let j = w.2 in
          let keep : (b : ℕ) → B j b → write w.1 (free j) w.0 b ≡ w.1 b = λ b h. write-other w.1 (free j) b w.0 (λ z. h.0 j (omega arith) (omega arith) z) in
          let q = stored_at w.1 (write w.1 (free j) w.0) (B j) (B (j + 1)) (more j (j + 1) (omega arith)) keep n (free j) w.0 (write_same w.1 (free j) w.0) (off-new K free r m distinct apart j (j + 1) (omega arith) (omega arith)) p.3 in
          (q.0 ∙ p.0, omega arith, λ b h. keep b (more i j (omega arith) b h) ∙ p.2 b h, q.1)
