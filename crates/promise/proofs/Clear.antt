-- What a store has free and open is clear of what else is laid down.
use Rattle.std.proofs.Common.{◌≡◌, ℕ, zero, suc, ◌≤◌, ◌⊎◌, Bool, true, false, cond, List, [], ◌∷◌, ◌++◌, map, length, get_or, take, Some, None, Option, sym, refl, ap, ◌∙◌, subst, inl, inr, arith}
use Rattle.std.specs.Prelude.{nat_lt}
use Rattle.std.proofs.lemmas.Bool.{cases_lt, le-ltb}
use Rattle.std.proofs.lemmas.Option.{none-some}
use Rattle.disk.specs.Meaning.{Contents, In}
use Rattle.catalog.specs.Catalogs.{Extent, page_sectors, extents_sectors, file_sectors, Distinct}
use Rattle.catalog.proofs.Frame.{in_left, in_right}
use Rattle.promise.specs.Table.{Slot, Table, slot_count, holder}
use Rattle.promise.specs.Promise.{Open, View}
use Rattle.promise.specs.Calls.{slot_in, seen, OpenAs, unopened, Grown, Holds}
use Rattle.promise.specs.Laws.{HoldsClear}
use Rattle.promise.proofs.Slots.{holder-holds}
use Rattle.promise.proofs.Firsts.{distinct-right, first_sector}

-- LISTS
in-either : {A : Type 0} (x : A) (l r : List A) → In x (l ++ r) → In x l ⊎ In x r
in-either x [] r i = inr i
in-either x (y ∷ l) r (inl e) = inl (inl e)
in-either x (y ∷ l) r (inr i) = elim (in-either x l r i) [ inl j ↦ inl (inr j) | inr j ↦ inr j ]

in-take : {A : Type 0} (n : ℕ) (l : List A) (x : A) → In x (take n l) → In x l
in-take zero l x i = absurd i
in-take (suc n) [] x i = absurd i
in-take (suc n) (y ∷ l) x (inl e) = inl e
in-take (suc n) (y ∷ l) x (inr i) = inr (in-take n l x i)

apart : (l r : List ℕ) (s : ℕ) → Distinct (l ++ r) → In s l → In s r → ⊥
apart [] r s d i j = i
apart (x ∷ l) r s d (inl e) j = d.0 (in_right x l r (subst (λ (n : ℕ). In n r) e j))
apart (x ∷ l) r s d (inr i) j = apart l r s d.1 i j

-- SECTORS of extents
abbrev Has : Extent → ℕ → Type 0
Has x s = In s (x.parts ++ x.tabs)

in-extents : (xs : List Extent) (x : Extent) (s : ℕ) → In x xs → Has x s → In s (extents_sectors xs)
in-extents [] x s i j = absurd i
in-extents (y ∷ xs) x s (inl e) j =
    elim (in-either s y.parts y.tabs (subst (λ (z : Extent). Has z s) e j)) [
      | inl k ↦ in_left s y.parts (y.tabs ++ extents_sectors xs) k
      | inr k ↦ in_right s y.parts (y.tabs ++ extents_sectors xs) (in_left s y.tabs (extents_sectors xs) k)
    ]
in-extents (y ∷ xs) x s (inr i) j = in_right s y.parts (y.tabs ++ extents_sectors xs) (in_right s y.tabs (extents_sectors xs) (in-extents xs x s i j))

of-extents : (xs : List Extent) (s : ℕ) → In s (extents_sectors xs) → (x : Extent) × In x xs × Has x s
of-extents [] s i = absurd i
of-extents (x ∷ xs) s i = elim (in-either s x.parts (x.tabs ++ extents_sectors xs) i) [
  | inl j ↦ (x, inl refl, in_left s x.parts x.tabs j)
  | inr j ↦ elim (in-either s x.tabs (extents_sectors xs) j) [
    | inl k ↦ (x, inl refl, in_right s x.parts x.tabs k)
    | inr k ↦ (let r = of-extents xs s k in (r.0, inr r.1, r.2))
  ]
]

-- one that has a sector is the first of the list or not
first-or : (x : Extent) (xs : List Extent) (s : ℕ) → Distinct (extents_sectors (x ∷ xs)) → Has x s → In s (extents_sectors xs) → ⊥
first-or x xs s d i j = elim (in-either s x.parts x.tabs i) [
  | inl k ↦ apart x.parts (x.tabs ++ extents_sectors xs) s d k (in_right s x.tabs (extents_sectors xs) j)
  | inr k ↦ apart x.tabs (extents_sectors xs) s (distinct-right x.parts (x.tabs ++ extents_sectors xs) d) k j
]

one-has : (xs : List Extent) (x y : Extent) (s : ℕ) → Distinct (extents_sectors xs) → In x xs → In y xs → Has x s → Has y s → x ≡ y
one-has [] x y s d i j a b = absurd i
one-has (z ∷ xs) x y s d (inl e) (inl f) a b = e ∙ sym f
one-has (z ∷ xs) x y s d (inl e) (inr j) a b = absurd (first-or z xs s d (subst (λ (w : Extent). Has w s) e a) (in-extents xs y s j b))
one-has (z ∷ xs) x y s d (inr i) (inl f) a b = absurd (first-or z xs s d (subst (λ (w : Extent). Has w s) f b) (in-extents xs x s i a))
one-has (z ∷ xs) x y s d (inr i) (inr j) a b =
    one-has xs x y s (distinct-right z.tabs (extents_sectors xs) (distinct-right z.parts (z.tabs ++ extents_sectors xs) d)) i j a b

-- OPEN FILES: each slot's is among the extents
open-has : (shown : ℕ → Contents) (t : Table) (os : List (Option Open)) (xs : List Extent) → OpenAs shown t os xs → (n : ℕ) (x : Slot) → get_or (map slot_in os) n None ≡ Some x → (y : Extent) × In y xs × (first_sector y ≡ x.file)
open-has shown t [] xs h n x e = absurd (none-some x e)
open-has shown t (None ∷ os) xs h zero x e = absurd (none-some x e)
open-has shown t (None ∷ os) xs h (suc n) x e = open-has shown t os xs h n x e
open-has shown t (Some o ∷ os) [] h n x e = absurd h
open-has shown t (Some o ∷ os) (y ∷ xs) h zero x e = (y, inl refl, (let q : o.slot ≡ x = cc in h.0.first ∙ ap (λ (z : Slot). z.file) q))
open-has shown t (Some o ∷ os) (y ∷ xs) h (suc n) x e = let r = open-has shown t os xs h.3 n x e in (r.0, inr r.1, r.2)

unopened-has : (ss : List (Option Slot)) (xs : List Extent) (x : Extent) → In x xs → slot_count ≤ holder (first_sector x) ss → In x (unopened ss xs)
unopened-has ss [] x i h = absurd i
unopened-has ss (y ∷ xs) x (inl e) h =
    subst (λ (b : Bool). In x (cond b (unopened ss xs) (y ∷ unopened ss xs))) (sym (le-ltb (holder (first_sector y) ss) slot_count (subst (λ (z : Extent). slot_count ≤ holder (first_sector z) ss) e h))) (inl e)
unopened-has ss (y ∷ xs) x (inr i) h = go (nat_lt (holder (first_sector y) ss) slot_count) (unopened-has ss xs x i h)
  where
    go : (b : Bool) → In x (unopened ss xs) → In x (cond b (unopened ss xs) (y ∷ unopened ss xs))
    go true j = j
    go false j = inr j

grown-has : (x y : Extent) (s : ℕ) → Grown x y → Has x s → Has y s
grown-has x y s g i = elim (in-either s x.parts x.tabs i) [
  | inl j ↦ in_left s y.parts y.tabs (in-take (length x.parts) y.parts s (subst (In s) (sym g.0) j))
  | inr j ↦ in_right s y.parts y.tabs (in-take (length x.tabs) y.tabs s (subst (In s) (sym g.1) j))
]

module _ (v : View) (t : Table) (h : Holds v t) where
  -- a file that is laid down is open, or no slot holds it
  open-or : (x : Extent) → In x h.catalog.files → ((y : Extent) × In y h.extents × (first_sector x ≡ first_sector y)) ⊎ In x (unopened t.slots h.catalog.files)
  open-or x i = elim (cases_lt (holder (first_sector x) t.slots) slot_count) [
    | inl l ↦ (let n = holder (first_sector x) t.slots in
        let eight = h.proper.eight in
        let r = holder-holds (first_sector x) t.slots (omega arith) in
        let o = open-has (seen v) t v.slots h.extents h.open' n r.0 (ap (λ (os : List (Option Slot)). get_or os n None) h.slots ∙ r.1) in
        inl (o.0, o.1, sym r.2 ∙ sym o.2))
    | inr l ↦ inr (unopened-has t.slots h.catalog.files x i l)
  ]

  -- so its sectors are in use
  laid-used : (x : Extent) (s : ℕ) → In x h.catalog.files → Has x s → In s (extents_sectors (unopened t.slots h.catalog.files) ++ extents_sectors h.extents)
  laid-used x s i j = elim (open-or x i) [
    | inl o ↦ in_right s (extents_sectors (unopened t.slots h.catalog.files)) (extents_sectors h.extents) (in-extents h.extents o.0 s o.1 (grown-has x o.0 s (h.grown x o.0 i o.1 o.2) j))
    | inr k ↦ in_left s (extents_sectors (unopened t.slots h.catalog.files)) (extents_sectors h.extents) (in-extents (unopened t.slots h.catalog.files) x s k j)
  ]

  used : Distinct (page_sectors h.catalog ++ (extents_sectors (unopened t.slots h.catalog.files) ++ extents_sectors h.extents))
  used = distinct-right v.free (page_sectors h.catalog ++ (extents_sectors (unopened t.slots h.catalog.files) ++ extents_sectors h.extents)) h.apart

  files-used : Distinct (extents_sectors (unopened t.slots h.catalog.files) ++ extents_sectors h.extents)
  files-used = distinct-right (page_sectors h.catalog) (extents_sectors (unopened t.slots h.catalog.files) ++ extents_sectors h.extents) used

  free-clear : (s : ℕ) → In s v.free → In s (page_sectors h.catalog ++ file_sectors h.catalog) → ⊥
  free-clear s i j =
      let ps = page_sectors h.catalog in
      let fs = extents_sectors (unopened t.slots h.catalog.files) ++ extents_sectors h.extents in
      apart v.free (ps ++ fs) s h.apart i (elim (in-either s ps (file_sectors h.catalog) j) [
        | inl k ↦ in_left s ps fs k
        | inr k ↦ (let r = of-extents h.catalog.files s k in in_right s ps fs (laid-used r.0 s r.1 r.2))
      ])

  pages-clear : (y : Extent) (s : ℕ) → In y h.extents → Has y s → In s (page_sectors h.catalog) → ⊥
  pages-clear y s i j k =
      apart (page_sectors h.catalog) (extents_sectors (unopened t.slots h.catalog.files) ++ extents_sectors h.extents) s used k
      (in_right s (extents_sectors (unopened t.slots h.catalog.files)) (extents_sectors h.extents) (in-extents h.extents y s i j))

  files-clear : (x y : Extent) (s : ℕ) → In x h.catalog.files → In y h.extents → Has x s → Has y s → first_sector x ≡ first_sector y
  files-clear x y s i j a b = elim (open-or x i) [
    | inl o ↦ (let d = distinct-right (extents_sectors (unopened t.slots h.catalog.files)) (extents_sectors h.extents) files-used in
        let q : o.0 ≡ y = one-has h.extents o.0 y s d o.1 j (grown-has x o.0 s (h.grown x o.0 i o.1 o.2) a) b in
        o.2 ∙ ap first_sector q)
    | inr k ↦ absurd (apart (extents_sectors (unopened t.slots h.catalog.files)) (extents_sectors h.extents) s files-used (in-extents (unopened t.slots h.catalog.files) x s k a) (in-extents h.extents y s j b))
  ]

pub holds-clear : HoldsClear
holds-clear v t h = record { free = free-clear v t h; pages = pages-clear v t h; files = files-clear v t h }
