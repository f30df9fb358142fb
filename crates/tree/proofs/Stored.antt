-- A stored tree: what stays when other sectors are written, search, and insert.
use Rattle.std.proofs.Common.{◌≡◌, ℕ, zero, suc, ◌+◌, ◌<◌, ◌≤◌, Bool, true, false, cond, leb, List, [], ◌∷◌, ◌++◌, length, take, drop, sym, refl, ap, ◌∙◌, ap₂, arith}
use Rattle.std.proofs.lemmas.List.{take-append-drop}
use Rattle.std.proofs.lemmas.Bool.{eq-eqb, ne_eqb}
use Rattle.numbers.specs.Order.{Cmp, below, same, above}
use Rattle.tree.specs.Tree.{Entry, Item, item, Page, page, Sub, pick, Found, at, look_in, look_page, look, All, Child}
use Rattle.tree.specs.Insert.{Up, one, two, tops, splice, before, halves, cut, fit, grow, ins_in, ins_page, ins}
use Rattle.tree.specs.Stored.{Shown, map_rest, map_page, map_up, load, loaded, write, Each, Sectors, found, down, onward, step_in, step, seek, Off, store, store_root, Way, here, into, beyond, way_in, way, around, ins_stored, SeekLooks}
use Rattle.tree.proofs.Fill.{EachUp}
use Rattle.tree.proofs.Lists.{all_left, all_right, child_map}

-- SEARCH
module _ {K T : Type 0} (cmp : K → K → Cmp) (g : ℕ → T) (f : ℕ → Found) (h : T → Found) (k : K) (agree : (a : ℕ) → f a ≡ h (g a)) where
  step_in-looks : (c : ℕ) (xs : List (Item K ℕ)) → onward f (step_in cmp k c xs) ≡ look_in cmp h k (g c) (map_rest g xs)
  step_in-looks c [] = agree c
  step_in-looks c (item e d ∷ xs) = go (cmp k e.0) (step_in-looks d xs)
    where
      go : (o : Cmp) → onward f (step_in cmp k d xs) ≡ look_in cmp h k (g d) (map_rest g xs) → onward f (pick o (down c) (found e.1) (step_in cmp k d xs)) ≡ pick o (h (g c)) (at e.1) (look_in cmp h k (g d) (map_rest g xs))
      go below i = agree c
      go same i = refl
      go above i = i

  step-looks : (p : Page K ℕ) → onward f (step cmp k p) ≡ look_page cmp h k (map_page g p)
  step-looks (page c xs) = step_in-looks c xs

seek-look : {K : Type 0} (cmp : K → K → Cmp) (d : Shown K) (n : ℕ) (k : K) (a : ℕ) → seek cmp d n k a ≡ look cmp n k (load d n a)
seek-look cmp d zero k a = refl
seek-look cmp d (suc n) k a = step-looks cmp (load d n) (seek cmp d n k) (look cmp n k) k (λ b. seek-look cmp d n k b) (d a)

pub seek-looks : {K : Type 0} (cmp : K → K → Cmp) → SeekLooks cmp
seek-looks cmp d n r k = seek-look cmp d (suc n) k r

-- WHAT STAYS
module _ {K T : Type 0} (g g' : ℕ → T) (B : ℕ → Type 0) (agree : (a : ℕ) → B a → g' a ≡ g a) where
  rest-frames : (xs : List (Item K ℕ)) → All (Child B) xs → map_rest g' xs ≡ map_rest g xs
  rest-frames [] h = refl
  rest-frames (item e d ∷ xs) h = rw (agree d h.0) (ap (λ (z : List (Item K T)). item e (g d) ∷ z) (rest-frames xs h.1))

  pub page-frames : (p : Page K ℕ) → Each B p → map_page g' p ≡ map_page g p
  page-frames (page c xs) h = ap₂ page (agree c h.0) (rest-frames xs h.1)

pub page-map : {K : Type 0} (B C : ℕ → Type 0) → ((a : ℕ) → B a → C a) → (p : Page K ℕ) → Each B p → Each C p
page-map B C f (page c xs) h = (f c h.0, child_map B C f xs h.1)

module _ {K : Type 0} (d d' : Shown K) (B C : ℕ → Type 0) (more : (b : ℕ) → B b → C b) (keep : (b : ℕ) → B b → d' b ≡ d b) where
  pub load-stays : (n a : ℕ) → Sectors B d n a → load d' n a ≡ load d n a
  load-stays zero a h = refl
  load-stays (suc n) a h = rw (keep a h.0) (page-frames (load d n) (load d' n) (Sectors B d n) (λ b i. load-stays n b i) (d a) h.1)

  pub sectors-stay : (n a : ℕ) → Sectors B d n a → Sectors C d' n a
  sectors-stay zero a h = tt
  sectors-stay (suc n) a h = (more a h.0, rw (keep a h.0) (page-map (Sectors B d n) (Sectors C d' n) (λ b i. sectors-stay n b i) (d a) h.1))

  -- a page that stands at a, over old children
  pub stored_at : (n a : ℕ) (p : Page K ℕ) → d' a ≡ p → C a → Each (Sectors B d n) p → (load d' (suc n) a ≡ map_page (load d n) p) × Sectors C d' (suc n) a
  stored_at n a p e l h =
      (rw e (page-frames (load d n) (load d' n) (Sectors B d n) (load-stays n) p h), (l, rw e (page-map (Sectors B d n) (Sectors C d' n) (sectors-stay n) p h)))

-- WHAT MAPS DO NOT CHANGE
module _ {K S T : Type 0} (g : S → T) where
  length-map : (xs : List (Item K S)) → length (map_rest g xs) ≡ length xs
  length-map [] = refl
  length-map (item e d ∷ xs) = ap suc (length-map xs)

  take-map : (m : ℕ) (xs : List (Item K S)) → take m (map_rest g xs) ≡ map_rest g (take m xs)
  take-map zero xs = refl
  take-map (suc m) [] = refl
  take-map (suc m) (item e d ∷ xs) = ap (λ (z : List (Item K T)). item e (g d) ∷ z) (take-map m xs)

  drop-map : (m : ℕ) (xs : List (Item K S)) → drop m (map_rest g xs) ≡ map_rest g (drop m xs)
  drop-map zero xs = refl
  drop-map (suc m) [] = refl
  drop-map (suc m) (item e d ∷ xs) = drop-map m xs

  halves_map : (c : S) (l r : List (Item K S)) → halves (g c) (map_rest g l) (map_rest g r) ≡ map_up (map_page g) (halves c l r)
  halves_map c l [] = refl
  halves_map c l (item e d ∷ r) = refl

  pub fit-map : (p : Page K S) → fit (map_page g p) ≡ map_up (map_page g) (fit p)
  fit-map (page c xs) = rw (length-map xs) (go (leb (length xs) 24))
    where
      go : (b : Bool) → cond b (one (page (g c) (map_rest g xs))) (cut 12 (g c) (map_rest g xs)) ≡ map_up (map_page g) (cond b (one (page c xs)) (cut 12 c xs))
      go true = refl
      go false = ap₂ (halves (g c)) (take-map 12 xs) (drop-map 12 xs) ∙ halves_map c (take 12 xs) (drop 12 xs)

  splice-map : (u : Up K S) (xs : List (Item K S)) → map_page g (splice u xs) ≡ splice (map_up g u) (map_rest g xs)
  splice-map (one c) xs = refl
  splice-map (two c e d) xs = refl

  before-map : (c : S) (e : Entry K) (p : Page K S) → map_page g (before c e p) ≡ before (g c) e (map_page g p)
  before-map c e (page d xs) = refl

  tops-map : (u : Up K S) → tops (map_up g u) ≡ tops u
  tops-map (one p) = refl
  tops-map (two p e q) = refl

module _ {K : Type 0} (B : ℕ → Type 0) where
  splice-each : (u : Up K ℕ) (xs : List (Item K ℕ)) → EachUp B u → All (Child B) xs → Each B (splice u xs)
  splice-each (one c) xs h a = (h, a)
  splice-each (two c e d) xs h a = (h.0, (h.1, a))

  before-each : (c : ℕ) (e : Entry K) (p : Page K ℕ) → B c → Each B p → Each B (before c e p)
  before-each c e (page d xs) h a = (h, (a.0, a.1))

  halves-each : (c : ℕ) (l r : List (Item K ℕ)) → B c → All (Child B) l → All (Child B) r → EachUp (Each B) (halves c l r)
  halves-each c l [] h a b = (h, a)
  halves-each c l (item e d ∷ r) h a b = ((h, a), (b.0, b.1))

  pub fit-each : (p : Page K ℕ) → Each B p → EachUp (Each B) (fit p)
  fit-each (page c xs) h = go (leb (length xs) 24)
    where
      s : All (Child B) (take 12 xs ++ drop 12 xs)
      s = rw take-append-drop h.1

      go : (b : Bool) → EachUp (Each B) (cond b (one (page c xs)) (cut 12 c xs))
      go true = h
      go false = halves-each c (take 12 xs) (drop 12 xs) h.0 (all_left (Child B) (take 12 xs) (drop 12 xs) s) (all_right (Child B) (take 12 xs) (drop 12 xs) s)

pub write_same : {K : Type 0} (d : Shown K) (a : ℕ) (p : Page K ℕ) → write d a p a ≡ p
write_same d a p = rw (eq-eqb a a refl)

pub write-other : {K : Type 0} (d : Shown K) (a b : ℕ) (p : Page K ℕ) → (a ≡ b → ⊥) → write d a p b ≡ d b
write-other d a b p h = rw (ne_eqb a b h)

-- THE WAY DOWN
module _ {K T : Type 0} (cmp : K → K → Cmp) (g : ℕ → T) (B : ℕ → Type 0) (f : T → Up K T × ℕ) (x : Entry K) where
  -- the page r around what comes back from the child a, whatever the sectors show later
  unfoldable pub Around : ℕ → (Up K ℕ → Page K ℕ) → Page K T → Type 1
  Around a r q = (g' : ℕ → T) (C : ℕ → Type 0) → ((b : ℕ) → B b → g' b ≡ g b) → ((b : ℕ) → B b → C b) → (u : Up K ℕ) → map_up g' u ≡ (f (g a)).0 → EachUp C u → (map_page g' (r u) ≡ q) × Each C (r u)

  abbrev pub Same : Way K → Page K T × ℕ → Type 1
  Same (here p) q = (map_page g p ≡ q.0) × (q.1 ≡ 0) × Each B p × Unit {1}
  Same (into a r) q = (q.1 ≡ (f (g a)).1) × B a × Around a r q.0

  beyond-same : (c : ℕ) (e : Entry K) (w : Way K) (q : Page K T × ℕ) → B c → Same w q → Same (beyond c e w) (before (g c) e q.0, q.1)
  unfolding Around
  beyond-same c e (here p) q h s = (before-map g c e p ∙ ap (before (g c) e) s.0, s.1, before-each B c e p h s.2, tt)
  beyond-same c e (into a r) q h s = (
    s.0,
    s.1,
    λ g' C same' up u i j.
        let t = s.2 g' C same' up u i j in
        (before-map g' c e (r u) ∙ ap₂ (λ (y : T) (z : Page K T). before y e z) (same' c h) t.0, before-each C c e (r u) (up c h) t.1),
  )

  spliced : (c : ℕ) (xs : List (Item K ℕ)) → All (Child B) xs → Around c (λ u. splice u xs) (splice (f (g c)).0 (map_rest g xs))
  unfolding Around
  spliced c xs a g' C same' up u i j = (splice-map g' u xs ∙ ap₂ splice i (rest-frames g g' B same' xs a), splice-each C u xs j (child_map B C up xs a))

  pub way_in-same : (c : ℕ) (xs : List (Item K ℕ)) → B c → All (Child B) xs → Same (way_in cmp x c xs) (ins_in cmp f x (g c) (map_rest g xs))
  way_in-same c [] h a = (refl, h, spliced c [] tt)
  way_in-same c (item e d ∷ xs) h a = go (cmp x.0 e.0) (way_in-same d xs a.0 a.1)
    where
      w : Page K T × ℕ
      w = ins_in cmp f x (g d) (map_rest g xs)

      go : (o : Cmp) → Same (way_in cmp x d xs) w → Same (pick o (into c (λ u. splice u (item e d ∷ xs))) (here (page c (item x d ∷ xs))) (beyond c e (way_in cmp x d xs)))
          (pick {A = Page K T × ℕ} o (splice (f (g c)).0 (item e (g d) ∷ map_rest g xs), (f (g c)).1) (page (g c) (item x (g d) ∷ map_rest g xs), 0) (before (g c) e w.0, w.1))
      go below i = (refl, h, spliced c (item e d ∷ xs) a)
      go same i = (refl, refl, (h, a), tt)
      go above i = beyond-same c e (way_in cmp x d xs) w h i

-- INSERT
module _ (K : Type 0) (free : ℕ → ℕ) (r m : ℕ) (distinct : (i j : ℕ) → i < m → j < m → free i ≡ free j → i ≡ j) (apart : (i : ℕ) → i < m → r ≡ free i → ⊥) where
  abbrev B : ℕ → ℕ → Type 0
  B i b = Off free r m i b

  pub off-more : (i j : ℕ) → i ≤ j → (b : ℕ) → B i b → B j b
  off-more i j l b h = (λ k a c e. h.0 k (omega arith) c e, h.1)

  pub off-new : (i j : ℕ) → i < j → i < m → B j (free i)
  off-new i j l s = (λ k a c e. let z = distinct k i c s e in absurd (omega arith), apart i s)

  pub record Out (n : ℕ) (d : Shown K) (i : ℕ) (u : Up K (Page K (Sub K n))) (f : ℕ) (s : Up K ℕ × Shown K × ℕ) : Type 0 where
    pub tree : map_up (load s.1 (suc n)) s.0 ≡ u
    pub used : s.2 ≡ i + f
    pub kept : (b : ℕ) → B i b → s.1 b ≡ d b
    pub under : EachUp (Sectors (B s.2) s.1 (suc n)) s.0

  pub store_out : (n : ℕ) (d : Shown K) (i : ℕ) (u : Up K (Page K ℕ)) → i + tops u ≤ m → EachUp (Each (Sectors (B i) d n)) u → Out n d i (map_up (map_page (load d n)) u) (tops u) (store free d i u)
  store_out n d i (one p) l h =
      let keep : (b : ℕ) → B i b → write d (free i) p b ≡ d b = λ b o. write-other d (free i) b p (λ e. o.0 i (omega arith) (omega arith) e) in
      let s = stored_at d (write d (free i) p) (B i) (B (i + 1)) (off-more i (i + 1) (omega arith)) keep n (free i) p (write_same d (free i) p) (off-new i (i + 1) (omega arith) (omega arith)) h in
      record { tree = ap one s.0; used = refl; kept = keep; under = s.1 }
  store_out n d i (two p e q) l h =
      let d₁ : Shown K = write d (free i) p in
      let d₂ : Shown K = write d₁ (free (i + 1)) q in
      let keep : (b : ℕ) → B i b → d₂ b ≡ d b = λ b o. write-other d₁ (free (i + 1)) b q (λ z. o.0 (i + 1) (omega arith) (omega arith) z) ∙ write-other d (free i) b p (λ z. o.0 i (omega arith) (omega arith) z) in
      let at_i : d₂ (free i) ≡ p = write-other d₁ (free (i + 1)) (free i) q (λ z. let y = distinct (i + 1) i (omega arith) (omega arith) z in absurd (omega arith)) ∙ write_same d (free i) p in
      let s = stored_at d d₂ (B i) (B (i + 2)) (off-more i (i + 2) (omega arith)) keep n (free i) p at_i (off-new i (i + 2) (omega arith) (omega arith)) h.0 in
      let t = stored_at d d₂ (B i) (B (i + 2)) (off-more i (i + 2) (omega arith)) keep n (free (i + 1)) q (write_same d₁ (free (i + 1)) q) (off-new (i + 1) (i + 2) (omega arith) (omega arith)) h.1 in
      record { tree = ap₂ (λ y z. two y e z) s.0 t.0; used = refl; kept = keep; under = (s.1, t.1) }

  -- a page in memory over stored children
  record Held (n : ℕ) (d : Shown K) (i : ℕ) (q : Page K (Sub K n)) (f : ℕ) (s : Page K ℕ × Shown K × ℕ) : Type 0 where
    it : map_page (load s.1 n) s.0 ≡ q
    used : s.2 ≡ i + f
    kept : (b : ℕ) → B i b → s.1 b ≡ d b
    under : Each (Sectors (B s.2) s.1 n) s.0

  module _ (cmp : K → K → Cmp) where
    module _ (n : ℕ) (x : Entry K) (d : Shown K) (i : ℕ)
        (deeper : (c : ℕ) → i + (ins cmp n x (load d n c)).1 ≤ m → Sectors (B i) d n c → let s = ins_stored cmp free n x d i c in (map_up (load s.1 n) s.0 ≡ (ins cmp n x (load d n c)).0) × (s.2 ≡ i + (ins cmp n x (load d n c)).1) × ((b : ℕ) → B i b → s.1 b ≡ d b) × EachUp (Sectors (B s.2) s.1 n) s.0) where
      around-out : (w : Way K) (q : Page K (Sub K n) × ℕ) → i + q.1 ≤ m → Same cmp (load d n) (Sectors (B i) d n) (ins cmp n x) x w q → Held n d i q.0 q.1 (around (ins_stored cmp free n x d i) d i w)
      unfolding Around
      around-out (here p) q l s = let z = s.1 in record { it = s.0; used = omega arith; kept = λ b o. refl; under = s.2 }
      around-out (into c y) q l s =
          let v = ins_stored cmp free n x d i c in
          let z = s.0 in
          let t = deeper c (omega arith) s.1 in
          let j = t.1 in
          let up : (b : ℕ) → B i b → B v.2 b = off-more i v.2 (omega arith) in
          let a = s.2 (load v.1 n) (Sectors (B v.2) v.1 n) (load-stays d v.1 (B i) (B v.2) up t.2 n) (sectors-stay d v.1 (B i) (B v.2) up t.2 n) v.0 t.0 t.3 in
          record { it = a.0; used = omega arith; kept = t.2; under = a.1 }

      pub page-out : (p : Page K ℕ) → let q = map_page (load d n) p in i + (ins_page cmp (ins cmp n x) x q).1 ≤ m + tops (ins_page cmp (ins cmp n x) x q).0 → Each (Sectors (B i) d n) p →
          let w = around (ins_stored cmp free n x d i) d i (way cmp x p) in
          (fit (map_page (load w.1 n) w.0) ≡ (ins_page cmp (ins cmp n x) x q).0) × (w.2 + tops (fit w.0) ≡ i + (ins_page cmp (ins cmp n x) x q).1) × ((b : ℕ) → B i b → w.1 b ≡ d b) × Each (Sectors (B w.2) w.1 n) w.0 × (i ≤ w.2)
      page-out (page c xs) l h =
          let q = ins_in cmp (ins cmp n x) x (load d n c) (map_rest (load d n) xs) in
          let w = around (ins_stored cmp free n x d i) d i (way_in cmp x c xs) in
          let o = around-out (way_in cmp x c xs) q (omega arith) (way_in-same cmp (load d n) (Sectors (B i) d n) (ins cmp n x) x c xs h.0 h.1) in
          let e : fit q.0 ≡ map_up (map_page (load w.1 n)) (fit w.0) = ap fit (sym o.it) ∙ fit-map (load w.1 n) w.0 in
          let t : tops (fit q.0) ≡ tops (fit w.0) = ap tops e ∙ tops-map (map_page (load w.1 n)) (fit w.0) in
          let y = o.used in
          (ap fit o.it, omega arith, o.kept, o.under, omega arith)

    pub ins-out : (n : ℕ) (x : Entry K) (d : Shown K) (i c : ℕ) → i + (ins cmp n x (load d n c)).1 ≤ m → Sectors (B i) d n c →
        let s = ins_stored cmp free n x d i c in (map_up (load s.1 n) s.0 ≡ (ins cmp n x (load d n c)).0) × (s.2 ≡ i + (ins cmp n x (load d n c)).1) × ((b : ℕ) → B i b → s.1 b ≡ d b) × EachUp (Sectors (B s.2) s.1 n) s.0
    ins-out zero x d i c l h = (refl, omega arith, λ b o. refl, (tt, tt))
    ins-out (suc n) x d i c l h =
        let w = around (ins_stored cmp free n x d i) d i (way cmp x (d c)) in
        let p = page-out n x d i (λ a k s. ins-out n x d i a k s) (d c) (omega arith) h.1 in
        let y = p.1 in
        let le : i ≤ w.2 = p.4 in
        let o = store_out n w.1 w.2 (fit w.0) (omega arith) (fit-each (Sectors (B w.2) w.1 n) w.0 p.3) in
        let u = o.used in
        (o.tree ∙ sym (fit-map (load w.1 n) w.0) ∙ p.0, omega arith, λ b k. o.kept b (off-more i w.2 le b k) ∙ p.2 b k, o.under)

    -- the root goes to its own sector
    abbrev pub Rooted : (n : ℕ) (d : Shown K) (i : ℕ) (u : Up K (Page K (Sub K n))) (s : ℕ × Shown K × ℕ) → ℕ → Type 0
    Rooted n d i u s k = (loaded s.1 s.0 r ≡ (grow n (u, k)).0) × (s.2 ≡ (grow n (u, k)).1) × ((b : ℕ) → B i b → s.1 b ≡ d b)

    pub root-out : (n : ℕ) (d : Shown K) (i : ℕ) (u : Up K (Page K ℕ)) (k : ℕ) → k ≡ i + tops u → (grow n (map_up (map_page (load d n)) u, k)).1 ≤ m → EachUp (Each (Sectors (B i) d n)) u →
        Rooted n d i (map_up (map_page (load d n)) u) (store_root free d i r n u) k
    root-out n d i (one p) k e l h =
        let keep : (b : ℕ) → B i b → write d r p b ≡ d b = λ b o. write-other d r b p o.1 in
        let t : load (write d r p) (suc n) r ≡ map_page (load d n) p = rw (write_same d r p) (page-frames (load d n) (load (write d r p) n) (Sectors (B i) d n) (load-stays d (write d r p) (B i) (B i) (λ b o. o) keep n) p h) in
        (ap (λ (z : Sub K (suc n)). record { over = n; root = z }) t, omega arith, keep)
    root-out n d i (two p e q) k z l h =
        let d₂ : Shown K = write (write d (free i) p) (free (i + 1)) q in
        let top : Page K ℕ = page (free i) (item e (free (i + 1)) ∷ []) in
        let d₃ : Shown K = write d₂ r top in
        let o = store_out n d i (two p e q) (omega arith) h in
        let keep : (b : ℕ) → B (i + 2) b → d₃ b ≡ d₂ b = λ b o. write-other d₂ r b top o.1 in
        let s : load d₃ (suc n) (free i) ≡ load d₂ (suc n) (free i) = load-stays d₂ d₃ (B (i + 2)) (B (i + 2)) (λ b o. o) keep (suc n) (free i) o.under.0 in
        let t : load d₃ (suc n) (free (i + 1)) ≡ load d₂ (suc n) (free (i + 1)) = load-stays d₂ d₃ (B (i + 2)) (B (i + 2)) (λ b o. o) keep (suc n) (free (i + 1)) o.under.1 in
        let v : load d₃ (suc (suc n)) r ≡ page (load d₃ (suc n) (free i)) (item e (load d₃ (suc n) (free (i + 1))) ∷ []) = rw (write_same d₂ r top) refl in
        let y : page (load d₂ (suc n) (free i)) (item e (load d₂ (suc n) (free (i + 1))) ∷ []) ≡ splice (map_up (map_page (load d n)) (two p e q)) [] = ap (λ (w : Up K (Sub K (suc n))). splice w []) o.tree in (
          ap (λ (w : Sub K (suc (suc n))). record { over = suc n; root = w }) (v ∙ ap₂ (λ (a b : Sub K (suc n)). page a (item e b ∷ [])) s t ∙ y),
          omega arith,
          λ b w. keep b (off-more i (i + 2) (omega arith) b w) ∙ o.kept b w,
        )

pub grow-bound : {K : Type 0} (n : ℕ) (u : Up K (Sub K (suc n))) (k : ℕ) → k ≤ (grow n (u, k)).1 + tops u
grow-bound n (one p) k = omega arith
grow-bound n (two p e q) k = omega arith
