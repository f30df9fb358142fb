-- How often a number stands in a list, and sums over a run of numbers.
use Rattle.std.proofs.Common.{◌≡◌, ℕ, zero, suc, ◌+◌, ◌-◌, ◌*◌, ◌<◌, ◌≤◌, Bool, true, false, cond, ◌||◌, eqb, ltb, ◌⊎◌, ◌↔◌, List, [], ◌∷◌, ◌++◌, map, length, get_or, sym, refl, ap, ◌∙◌, subst, inl, inr, suc-mul, zero-mul, mul-suc, arith}
use Rattle.std.proofs.lemmas.Bool.{eqb-true, eqb-false, eq-eqb, ne_eqb, lt-ltb, le-ltb, or_parts, cases_lt}
use Rattle.disk.specs.Meaning.{In}
use Rattle.catalog.specs.Catalogs.{Distinct, range, member}

abbrev pub tick : ℕ → ℕ → ℕ
tick n x = cond (eqb n x) 1 0

abbrev pub occ : ℕ → List ℕ → ℕ
occ n [] = 0
occ n (x ∷ xs) = tick n x + occ n xs

pub occ-append : (n : ℕ) (l r : List ℕ) → occ n (l ++ r) ≡ occ n l + occ n r
occ-append n [] r = omega arith
occ-append n (x ∷ l) r = let e = occ-append n l r in omega arith

pub tick_same : (n : ℕ) → tick n n ≡ 1
tick_same n = rw (eq-eqb n n refl)

pub tick_most : (n x : ℕ) → tick n x ≤ 1
tick_most n x = go (eqb n x)
  where
    go : (b : Bool) → cond b 1 0 ≤ 1
    go true = omega arith
    go false = omega arith

pub member-false : (n : ℕ) (l : List ℕ) → member n l ≡ false → occ n l ≡ 0
member-false n [] h = refl
member-false n (x ∷ l) h = let p = or_parts (eqb n x) (member n l) h in let e = member-false n l p.1 in rw p.0 (omega arith)

pub member-true : (n : ℕ) (l : List ℕ) → member n l ≡ true → 1 ≤ occ n l
member-true n [] h = cc
member-true n (x ∷ l) h = go (eqb n x) h (λ k. member-true n l k)
  where
    go : (b : Bool) → (b || member n l) ≡ true → (member n l ≡ true → 1 ≤ occ n l) → 1 ≤ cond b 1 0 + occ n l
    go true h r = omega arith
    go false h r = let e = r h in omega arith

pub in-occ : (n : ℕ) (l : List ℕ) → In n l → 1 ≤ occ n l
in-occ n [] h = absurd h
in-occ n (x ∷ l) (inl e) = rw (eq-eqb n x e) (omega arith)
in-occ n (x ∷ l) (inr h) = let r = in-occ n l h in omega arith

pub occ-in : (n : ℕ) (l : List ℕ) → 1 ≤ occ n l → In n l
occ-in n [] h = absurd (omega arith)
occ-in n (x ∷ l) h = go (eqb n x) refl h (λ k. occ-in n l k)
  where
    go : (b : Bool) → eqb n x ≡ b → 1 ≤ cond b 1 0 + occ n l → (1 ≤ occ n l → In n l) → (n ≡ x) ⊎ In n l
    go true e h r = inl (eqb-true n x e)
    go false e h r = inr (r (omega arith))

pub distinct-occ : (l : List ℕ) → Distinct l → (n : ℕ) → occ n l ≤ 1
distinct-occ [] d n = omega arith
distinct-occ (x ∷ l) d n = go (eqb n x) refl (distinct-occ l d.1 n) (cases_lt 0 (occ n l))
  where
    go : (b : Bool) → eqb n x ≡ b → occ n l ≤ 1 → (0 < occ n l) ⊎ (occ n l ≤ 0) → cond b 1 0 + occ n l ≤ 1
    go false e r c = omega arith
    go true e r (inl c) = absurd (d.0 (subst (λ (z : ℕ). In z l) (eqb-true n x e) (occ-in n l c)))
    go true e r (inr c) = omega arith

pub occ-distinct : (l : List ℕ) → ((n : ℕ) → occ n l ≤ 1) → Distinct l
occ-distinct [] h = tt
occ-distinct (x ∷ l) h = (λ i. let a = in-occ x l i in let b = h x in let t = tick_same x in omega arith, occ-distinct l (λ n. let b = h n in omega arith))

-- LISTS MADE FROM NUMBERS
abbrev pub gather : {A : Type 0} → (ℕ → List A) → List ℕ → List A
gather f [] = []
gather f (i ∷ is) = f i ++ gather f is

unfoldable pub spread : {A : Type 0} → (ℕ → List A) → ℕ → ℕ → List A
spread us low n = gather us (range low n)

pub range-none : (low : ℕ) → range low 0 ≡ []
unfolding range
range-none low = refl

pub range_more : (low n : ℕ) → range low (suc n) ≡ low ∷ range (suc low) n
unfolding range
range_more low n = refl

pub length-range : (low n : ℕ) → length (range low n) ≡ n
unfolding range
length-range low zero = refl
length-range low (suc n) = ap suc (length-range (suc low) n)

pub range_at : {A : Type 0} (g : ℕ → A) (low n i : ℕ) (d : A) → i < n → get_or (map g (range low n)) i d ≡ g (low + i)
unfolding range
range_at g low zero i d h = absurd (omega arith)
range_at g low (suc n) zero d h = ap g (omega arith)
range_at g low (suc n) (suc i) d h = range_at g (suc low) n i d (omega arith) ∙ ap g (omega arith)

-- SUMS
unfoldable pub sum_c : (ℕ → ℕ) → ℕ → ℕ → ℕ
sum_c h low zero = 0
sum_c h low (suc n) = h low + sum_c h (suc low) n

pub sum-none : (h : ℕ → ℕ) (low : ℕ) → sum_c h low 0 ≡ 0
unfolding sum_c
sum-none h low = refl

pub sum_more : (h : ℕ → ℕ) (low n : ℕ) → sum_c h low (suc n) ≡ h low + sum_c h (suc low) n
unfolding sum_c
sum_more h low n = refl

pub occ-map : (n : ℕ) (g : ℕ → ℕ) (low m : ℕ) → occ n (map g (range low m)) ≡ sum_c (λ i. tick n (g i)) low m
unfolding range
occ-map n g low zero = sym (sum-none (λ i. tick n (g i)) low)
occ-map n g low (suc m) = let e = occ-map n g (suc low) m in let f = sum_more (λ i. tick n (g i)) low m in omega arith

occ-gather : (n : ℕ) (us : ℕ → List ℕ) (low m : ℕ) → occ n (gather us (range low m)) ≡ sum_c (λ i. occ n (us i)) low m
unfolding range
occ-gather n us low zero = sym (sum-none (λ i. occ n (us i)) low)
occ-gather n us low (suc m) =
    let e = occ-gather n us (suc low) m in
    let f = sum_more (λ i. occ n (us i)) low m in
    let g = occ-append n (us low) (gather us (range (suc low) m)) in
    omega arith

pub occ-spread : (n : ℕ) (us : ℕ → List ℕ) (low m : ℕ) → occ n (spread us low m) ≡ sum_c (λ i. occ n (us i)) low m
unfolding spread
occ-spread n us low m = occ-gather n us low m

pub sum-split : (h : ℕ → ℕ) (low m k : ℕ) → sum_c h low (m + k) ≡ sum_c h low m + sum_c h (low + m) k
sum-split h low zero k =
    let e = sum-none h low in
    let p : 0 + k ≡ k = omega arith in
    let q : low + 0 ≡ low = omega arith in
    rw (p, q) (omega arith)
sum-split h low (suc m) k =
    let e = sum-split h (suc low) m k in
    let f = sum_more h low m in
    let p : suc m + k ≡ suc (m + k) = omega arith in
    let q : low + suc m ≡ suc low + m = omega arith in
    let g = sum_more h low (m + k) in
    rw (p, q) (omega arith)

pub sum_same : (h g : ℕ → ℕ) (low m : ℕ) → ((i : ℕ) → low ≤ i → i < low + m → h i ≡ g i) → sum_c h low m ≡ sum_c g low m
sum_same h g low zero e = sum-none h low ∙ sym (sum-none g low)
sum_same h g low (suc m) e =
    let a = sum_more h low m in
    let b = sum_more g low m in
    let c = e low (omega arith) (omega arith) in
    let r = sum_same h g (suc low) m (λ i l u. e i (omega arith) (omega arith)) in
    omega arith

sum-shift : (h : ℕ → ℕ) (d low m : ℕ) → sum_c h (d + low) m ≡ sum_c (λ i. h (d + i)) low m
sum-shift h d low zero = sum-none h (d + low) ∙ sym (sum-none (λ i. h (d + i)) low)
sum-shift h d low (suc m) =
    let a = sum_more h (d + low) m in
    let b = sum_more (λ i. h (d + i)) low m in
    let p : suc (d + low) ≡ d + suc low = omega arith in
    let c = ap (λ (z : ℕ). sum_c h z m) p in
    let r = sum-shift h d (suc low) m in
    omega arith

pub sum-zero : (h : ℕ → ℕ) (low m : ℕ) → ((i : ℕ) → low ≤ i → i < low + m → h i ≡ 0) → sum_c h low m ≡ 0
sum-zero h low zero e = sum-none h low
sum-zero h low (suc m) e =
    let a = sum_more h low m in
    let c = e low (omega arith) (omega arith) in
    let r = sum-zero h (suc low) m (λ i l u. e i (omega arith) (omega arith)) in
    omega arith

pub sum-one : (h : ℕ → ℕ) (low m : ℕ) → ((i : ℕ) → low ≤ i → i < low + m → h i ≡ 1) → sum_c h low m ≡ m
sum-one h low zero e = sum-none h low
sum-one h low (suc m) e =
    let a = sum_more h low m in
    let c = e low (omega arith) (omega arith) in
    let r = sum-one h (suc low) m (λ i l u. e i (omega arith) (omega arith)) in
    omega arith

pub sum-plus : (h g : ℕ → ℕ) (low m : ℕ) → sum_c (λ i. h i + g i) low m ≡ sum_c h low m + sum_c g low m
sum-plus h g low zero = let a = sum-none h low in let b = sum-none g low in let c = sum-none (λ i. h i + g i) low in omega arith
sum-plus h g low (suc m) =
    let a = sum_more h low m in
    let b = sum_more g low m in
    let c = sum_more (λ i. h i + g i) low m in
    let r = sum-plus h g (suc low) m in
    omega arith

-- m blocks of w each
pub sum-blocks : (h : ℕ → ℕ) (d w k m : ℕ) → sum_c h (d + w * k) (m * w) ≡ sum_c (λ i. sum_c (λ j. h (d + w * i + j)) 0 w) k m
sum-blocks h d w k zero =
    let p : 0 * w ≡ 0 = zero-mul w in
    rw p (sum-none h (d + w * k) ∙ sym (sum-none (λ i. sum_c (λ j. h (d + w * i + j)) 0 w) k))
sum-blocks h d w k (suc m) =
    let p : suc m * w ≡ w + m * w = suc-mul m w ∙ omega arith in
    let q : d + w * k + w ≡ d + w * suc k = omega (arith, mul-suc w k) in
    let s = sum-split h (d + w * k) w (m * w) in
    let t = sum-shift h (d + w * k) 0 w in
    let z : d + w * k + 0 ≡ d + w * k = omega arith in
    let t₁ = ap (λ (y : ℕ). sum_c h y w) z in
    let q₁ = ap (λ (y : ℕ). sum_c h y (m * w)) q in
    let p₁ = ap (λ (y : ℕ). sum_c h (d + w * k) y) p in
    let r = sum-blocks h d w (suc k) m in
    let f = sum_more (λ i. sum_c (λ j. h (d + w * i + j)) 0 w) k m in
    omega arith

-- a sum up to t, as one up to m with a test
pub sum-until : (h : ℕ → ℕ) (t m : ℕ) → t ≤ m → sum_c h 0 t ≡ sum_c (λ i. cond (ltb i t) (h i) 0) 0 m
sum-until h t m l =
    let p : t + (m - t) ≡ m = omega arith in
    let s = sum-split (λ i. cond (ltb i t) (h i) 0) 0 t (m - t) in
    let s₁ = ap (λ (z : ℕ). sum_c (λ i. cond (ltb i t) (h i) 0) 0 z) p in
    let a = sum_same h (λ i. cond (ltb i t) (h i) 0) 0 t (λ i k u. rw (lt-ltb i t (omega arith))) in
    let b = sum-zero (λ i. cond (ltb i t) (h i) 0) (0 + t) (m - t) (λ i k u. rw (le-ltb i t (omega arith))) in
    omega arith

-- LENGTHS. A list within a run of numbers is as long as its counts add up to
sum-tick : (x low m : ℕ) → low ≤ x → x < low + m → sum_c (λ n. tick n x) low m ≡ 1
sum-tick x low zero l u = absurd (omega arith)
sum-tick x low (suc m) l u = go (eqb low x) refl (λ v. sum-tick x (suc low) m v (omega arith))
  where
    go : (b : Bool) → eqb low x ≡ b → (suc low ≤ x → sum_c (λ n. tick n x) (suc low) m ≡ 1) → sum_c (λ n. tick n x) low (suc m) ≡ 1
    go true e r =
        let q = eqb-true low x e in
        let a = sum_more (λ n. tick n x) low m in
        let t : tick low x ≡ 1 = ap (λ (b : Bool). cond b 1 0) e in
        let z = sum-zero (λ n. tick n x) (suc low) m (λ i l u. ap (λ (b : Bool). cond b 1 0) (ne_eqb i x (omega arith))) in
        omega arith
    go false e r =
        let q = eqb-false low x e in
        let a = sum_more (λ n. tick n x) low m in
        let t : tick low x ≡ 0 = ap (λ (b : Bool). cond b 1 0) e in
        let v = r (omega arith) in
        omega arith

pub occ-length : (l : List ℕ) (low m : ℕ) → ((n : ℕ) → In n l → (low ≤ n) × (n < low + m)) → sum_c (λ n. occ n l) low m ≡ length l
occ-length [] low m h = sum-zero (λ n. 0) low m (λ i l u. refl)
occ-length (x ∷ l) low m h =
    let a = sum-plus (λ n. tick n x) (λ n. occ n l) low m in
    let b = h x (inl refl) in
    let t = sum-tick x low m b.0 b.1 in
    let r = occ-length l low m (λ n i. h n (inr i)) in
    omega arith

-- a list with the counts of another one that has no number twice
pub record SameCounts (l m : List ℕ) : Type 0 where
  pub same : (n : ℕ) → In n l ↔ In n m
  pub once : Distinct l
  pub count : length l ≡ length m

pub same-counts : (l m : List ℕ) (most : ℕ) → ((n : ℕ) → occ n l ≡ occ n m) → ((n : ℕ) → occ n m ≤ 1) → ((n : ℕ) → In n m → n < most) → SameCounts l m
same-counts l m most e d w =
    let to : (n : ℕ) → In n l → In n m = λ n i. occ-in n m (subst (λ (z : ℕ). 1 ≤ z) (e n) (in-occ n l i)) in
    record {
      same = λ n. (to n, λ i. occ-in n l (subst (λ (z : ℕ). 1 ≤ z) (sym (e n)) (in-occ n m i)));
      once = occ-distinct l (λ n. subst (λ (z : ℕ). z ≤ 1) (sym (e n)) (d n));
      count =
          sym (occ-length l 0 most (λ n i. let v = w n (to n i) in (omega arith, omega arith)))
          ∙ (sum_same (λ n. occ n l) (λ n. occ n m) 0 most (λ n a b. e n) ∙ occ-length m 0 most (λ n i. let v = w n i in (omega arith, omega arith)));
    }
