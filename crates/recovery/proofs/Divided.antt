-- After an accepted Start the sectors of the catalog and the free ones are all from 1 up.
use Rattle.std.proofs.Common.{◌≡◌, ℕ, zero, suc, ◌+◌, ◌-◌, ◌<◌, ◌≤◌, Bool, true, cond, eqb, List, [], ◌∷◌, ◌++◌, map, length, replicate, Some, None, Option, sym, refl, ap, ◌∙◌, subst, inl, inr, arith, length-append}
use Rattle.std.proofs.lemmas.Bool.{eq-eqb, ne_eqb}
use Rattle.disk.specs.Meaning.{Contents, In}
use Rattle.catalog.specs.Catalogs.{Extent, Catalog, Distinct, Divided, range, page_sectors, file_sectors, extents_sectors}
use Rattle.catalog.specs.Lays.{Lays}
use Rattle.catalog.specs.Questions.{good_size}
use Rattle.catalog.specs.Laws.{Sized}
use Rattle.catalog.proofs.Counts.{occ, occ-append, distinct-occ, occ-distinct, length-range}
use Rattle.catalog.proofs.Frame.{in_left, in_right}
use Rattle.catalog.proofs.Found.{unique}
use Rattle.promise.specs.Table.{Table, slot_count, no_slots, started}
use Rattle.promise.specs.Promise.{Open, View}
use Rattle.promise.specs.Calls.{slot_in, seen, OpenAs, unopened, Holds}
use Rattle.recovery.proofs.Lists.{in_split}
use Rattle.recovery.proofs.Steps.{one-or}

-- A LIST WITHIN ANOTHER. One with its first x taken out
take_out : ℕ → List ℕ → List ℕ
take_out x [] = []
take_out x (y ∷ r) = cond (eqb y x) r (y ∷ take_out x r)

out-here : (x y : ℕ) (r : List ℕ) → y ≡ x → take_out x (y ∷ r) ≡ r
unfolding take_out
out-here x y r e = ap (λ (v : Bool). cond v r (y ∷ take_out x r)) (eq-eqb y x e)

out-later : (x y : ℕ) (r : List ℕ) → (y ≡ x → ⊥) → take_out x (y ∷ r) ≡ y ∷ take_out x r
unfolding take_out
out-later x y r e = ap (λ (v : Bool). cond v r (y ∷ take_out x r)) (ne_eqb y x e)

out-long : (x : ℕ) (r : List ℕ) → In x r → length r ≡ suc (length (take_out x r))
out-long x [] i = absurd i
out-long x (y ∷ r) i = elim (one-or y x) [
  | inl e ↦ ap (λ (z : List ℕ). suc (length z)) (sym (out-here x y r e))
  | inr e ↦ elim i [
    | inl f ↦ absurd (e (sym f))
    | inr j ↦ ap suc (out-long x r j) ∙ ap (λ (z : List ℕ). suc (length z)) (sym (out-later x y r e))
  ]
]

out_in : (x s : ℕ) (r : List ℕ) → In s r → (s ≡ x → ⊥) → In s (take_out x r)
out_in x s [] i n = absurd i
out_in x s (y ∷ r) i n = elim (one-or y x) [
  | inl e ↦ subst (λ (z : List ℕ). In s z) (sym (out-here x y r e)) (elim i [ inl f ↦ absurd (n (f ∙ e)) | inr j ↦ j ])
  | inr e ↦ subst (λ (z : List ℕ). In s z) (sym (out-later x y r e)) (elim i [ inl f ↦ inl f | inr j ↦ inr (out_in x s r j n) ])
]

inner : (x : ℕ) (l r : List ℕ) → Distinct (x ∷ l) → ((s : ℕ) → In s (x ∷ l) → In s r) → (s : ℕ) → In s l → In s (take_out x r)
inner x l r d h s i = out_in x s r (h s (inr i)) (λ e. d.0 (subst (λ (z : ℕ). In z l) e i))

-- distinct numbers among those of r are no more than these, and all of them if there are as many
pub no_more : (l r : List ℕ) → Distinct l → ((s : ℕ) → In s l → In s r) → length l ≤ length r
no_more [] r d h = omega arith
no_more (x ∷ l) r d h = let e = no_more l (take_out x r) d.1 (inner x l r d h) in let f = out-long x r (h x (inl refl)) in omega (arith, e, f)

pub all-of : (l r : List ℕ) → Distinct l → ((s : ℕ) → In s l → In s r) → length r ≤ length l → (s : ℕ) → In s r → In s l
all-of [] [] d h e s i = i
all-of [] (y ∷ r) d h e s i = absurd (omega arith)
all-of (x ∷ l) r d h e s i = elim (one-or s x) [
  | inl f ↦ inl f
  | inr f ↦ let g = out-long x r (h x (inl refl)) in inr (all-of l (take_out x r) d.1 (inner x l r d h) (omega (arith, e, g)) s (out_in x s r i f))
]

range_in : (low n s : ℕ) → low ≤ s → s < low + n → In s (range low n)
unfolding range
range_in low zero s a b = absurd (omega arith)
range_in low (suc n) s a b = elim (one-or s low) [ inl e ↦ inl e | inr e ↦ inr (range_in (suc low) n s (omega arith) (omega arith)) ]

-- AN ACCEPTED START. No slot is used, so that no file is open
none-open : (s : ℕ → Contents) (t : Table) (os : List (Option Open)) (n : ℕ) (xs : List Extent) → map slot_in os ≡ replicate n None → OpenAs s t os xs → xs ≡ []
none-open s t [] n [] e h = refl
none-open s t [] n (x ∷ xs) e h = absurd h
none-open s t (None ∷ os) zero xs e h = let z : ◌≡◌ {A = ℕ} 0 1 = cc in absurd (omega arith)
none-open s t (None ∷ os) (suc n) xs e h = none-open s t os n xs (cc) h
none-open s t (Some o ∷ os) zero xs e h = let z : ◌≡◌ {A = ℕ} 0 1 = cc in absurd (omega arith)
none-open s t (Some o ∷ os) (suc n) xs e h = let z : ◌≡◌ {A = ℕ} 0 1 = cc in absurd (omega arith)

all-unopened : (xs : List Extent) → unopened no_slots xs ≡ xs
all-unopened [] = refl
all-unopened (x ∷ xs) = ap (λ (z : List Extent). x ∷ z) (all-unopened xs)

module _ (size : ℕ) (free pages files : List ℕ) where
  -- the free sectors, those of pages and those of files stand once
  together-occ : Distinct (free ++ (pages ++ (files ++ []))) → (n : ℕ) → occ n free + (occ n pages + occ n files) ≤ 1
  together-occ d n =
      let e = distinct-occ (free ++ (pages ++ (files ++ []))) d n in
      let f = occ-append n free (pages ++ (files ++ [])) in
      let g = occ-append n pages (files ++ []) in
      let h = occ-append n files [] in
      omega (arith, e, f, g, h)

  pub distinct-turned : Distinct (free ++ (pages ++ (files ++ []))) → Distinct (pages ++ (files ++ free))
  distinct-turned d = occ-distinct (pages ++ (files ++ free)) (λ n.
      let e = together-occ d n in
      let f = occ-append n pages (files ++ free) in
      let g = occ-append n files free in
      omega (arith, e, f, g))

  -- within the disk, and as many as are left
  pub divided : Distinct (free ++ (pages ++ (files ++ []))) → ((s : ℕ) → In s (pages ++ files) → (1 ≤ s) × (s < size)) → ((s : ℕ) → In s free → (1 ≤ s) × (s < size)) →
      Distinct (pages ++ files) → length free ≡ size - 1 - length pages - length files →
      ((s : ℕ) → 1 ≤ s → s < size → In s (pages ++ (files ++ free))) × (length pages + length files + length free ≡ size - 1)
  divided d u v w e = (
    λ s i j. all-of (pages ++ (files ++ free)) (range 1 (size - 1)) (distinct-turned d) (λ t k. at t (into t k)) (omega (arith, length-range 1 (size - 1), all-long, sum)) s (range_in 1 (size - 1) s i (omega arith)),
    sum,
  )
    where
      at : (t : ℕ) → (1 ≤ t) × (t < size) → In t (range 1 (size - 1))
      at t k = range_in 1 (size - 1) t k.0 (omega (arith, k.0, k.1))

      into : (t : ℕ) → In t (pages ++ (files ++ free)) → (1 ≤ t) × (t < size)
      into t k = elim (in_split t pages (files ++ free) k) [
        | inl i ↦ u t (in_left t pages files i)
        | inr i ↦ elim (in_split t files free i) [ inl j ↦ u t (in_right t pages files j) | inr j ↦ v t j ]
      ]

      most : length (pages ++ files) ≤ length (range 1 (size - 1))
      most = no_more (pages ++ files) (range 1 (size - 1)) w (λ t k. at t (u t k))

      sum : length pages + length files + length free ≡ size - 1
      sum = let f = length-append pages files in let g = length-range 1 (size - 1) in omega (arith, e, f, g, most)

      all-long : length (pages ++ (files ++ free)) ≡ length pages + length files + length free
      all-long = let f = length-append pages (files ++ free) in let g = length-append files free in omega (arith, f, g)

pub started-divided : (v : View) (c : Catalog) → Sized v.disk.size v.disk.shown → good_size v.disk.size ≡ true → Lays v.disk.size v.disk.shown c →
    Holds v (started v.disk.size v.disk.shown c) → Divided v.disk.size c v.free
started-divided v c z g y h = record { one = r.0; only = distinct-turned v.disk.size v.free (page_sectors c) (file_sectors c) d; inside = inside; sum = r.1 }
  where
    none : h.extents ≡ []
    none = none-open (seen v) (started v.disk.size v.disk.shown c) v.slots slot_count h.extents h.slots h.open'

    same : h.catalog ≡ c
    same = unique v.disk.size v.disk.shown h.catalog c z g h.lays y

    d : Distinct (v.free ++ (page_sectors c ++ (file_sectors c ++ [])))
    d = subst (λ (k : Catalog). Distinct (v.free ++ (page_sectors k ++ (file_sectors k ++ [])))) same
        (subst (λ (xs : List Extent). Distinct (v.free ++ (page_sectors h.catalog ++ (extents_sectors xs ++ [])))) (all-unopened h.catalog.files)
        (subst (λ (xs : List Extent). Distinct (v.free ++ (page_sectors h.catalog ++ (extents_sectors (unopened no_slots h.catalog.files) ++ extents_sectors xs)))) none h.apart))

    free-inside : (s : ℕ) → In s v.free → (1 ≤ s) × (s < v.disk.size)
    free-inside s i = let k = h.inside s (in_left s v.free (extents_sectors h.extents) i) in (omega (arith, k.0), k.1)

    r : ((s : ℕ) → 1 ≤ s → s < v.disk.size → In s (page_sectors c ++ (file_sectors c ++ v.free))) × (length (page_sectors c) + length (file_sectors c) + length v.free ≡ v.disk.size - 1)
    r = divided v.disk.size v.free (page_sectors c) (file_sectors c) d y.within free-inside y.once h.free

    inside : (s : ℕ) → In s (page_sectors c ++ (file_sectors c ++ v.free)) → (1 ≤ s) × (s < v.disk.size)
    inside s i = elim (in_split s (page_sectors c) (file_sectors c ++ v.free) i) [
      | inl j ↦ y.within s (in_left s (page_sectors c) (file_sectors c) j)
      | inr j ↦ elim (in_split s (file_sectors c) v.free j) [ inl k ↦ y.within s (in_right s (page_sectors c) (file_sectors c) k) | inr k ↦ free-inside s k ]
    ]
