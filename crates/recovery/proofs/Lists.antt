-- Lists of numbers that stand once, and where the sectors of files are.
use Rattle.std.proofs.Common.{◌≡◌, ℕ, zero, suc, ◌<◌, ◌⊎◌, List, [], ◌∷◌, ◌++◌, length, get_or, sym, refl, ◌∙◌, subst, inl, inr, arith}
use Rattle.numbers.specs.Names.{Key}
use Rattle.tree.specs.Tree.{Entry}
use Rattle.disk.specs.Meaning.{In}
use Rattle.catalog.specs.Catalogs.{Extent, Distinct, extents_sectors}
use Rattle.catalog.specs.Laws.{Named, here, later}
use Rattle.catalog.proofs.Frame.{in_left, in_right}

pub get_or-in : {A : Type 0} (l : List A) (i : ℕ) (d : A) → i < length l → In (get_or l i d) l
get_or-in [] i d h = absurd (omega arith)
get_or-in (x ∷ l) zero d h = inl refl
get_or-in (x ∷ l) (suc i) d h = inr (get_or-in l i d (omega arith))

pub in_split : (t : ℕ) (p q : List ℕ) → In t (p ++ q) → In t p ⊎ In t q
in_split t [] q i = inr i
in_split t (y ∷ p) q (inl f) = inl (inl f)
in_split t (y ∷ p) q (inr i) = elim (in_split t p q i) [ inl j ↦ inl (inr j) | inr j ↦ inr j ]

-- DISTINCT
pub distinct_apart : (a b : List ℕ) (t : ℕ) → Distinct (a ++ b) → In t a → In t b → ⊥
distinct_apart [] b t d i j = i
distinct_apart (x ∷ a) b t d (inl e) j = d.0 (in_right x a b (subst (λ (z : ℕ). In z b) e j))
distinct_apart (x ∷ a) b t d (inr i) j = distinct_apart a b t d.1 i j

pub distinct-left : (a b : List ℕ) → Distinct (a ++ b) → Distinct a
distinct-left [] b d = tt
distinct-left (x ∷ a) b d = (λ i. d.0 (in_left x a b i), distinct-left a b d.1)

pub distinct-right : (a b : List ℕ) → Distinct (a ++ b) → Distinct b
distinct-right [] b d = d
distinct-right (x ∷ a) b d = distinct-right a b d.1

pub join : (a b : List ℕ) → Distinct a → Distinct b → ((t : ℕ) → In t a → In t b → ⊥) → Distinct (a ++ b)
join [] b d e h = e
join (x ∷ a) b d e h = (λ i. elim (in_split x a b i) [ inl j ↦ d.0 j | inr j ↦ h x (inl refl) j ], join a b d.1 e (λ t i j. h t (inr i) j))

-- FILES. A file's own sectors
abbrev pub Own : ℕ → Extent → Type 0
Own t x = In t x.parts ⊎ In t x.tabs

pub parts_in : (x : Extent) (xs : List Extent) (t : ℕ) → In x xs → In t x.parts → In t (extents_sectors xs)
parts_in x [] t i h = absurd i
parts_in x (y ∷ xs) t (inl e) h = in_left t y.parts _ (subst (λ (z : Extent). In t z.parts) e h)
parts_in x (y ∷ xs) t (inr i) h = in_right t y.parts _ (in_right t y.tabs _ (parts_in x xs t i h))

pub tabs_in : (x : Extent) (xs : List Extent) (t : ℕ) → In x xs → In t x.tabs → In t (extents_sectors xs)
tabs_in x [] t i h = absurd i
tabs_in x (y ∷ xs) t (inl e) h = in_right t y.parts _ (in_left t y.tabs _ (subst (λ (z : Extent). In t z.tabs) e h))
tabs_in x (y ∷ xs) t (inr i) h = in_right t y.parts _ (in_right t y.tabs _ (tabs_in x xs t i h))

pub own_in : (x : Extent) (xs : List Extent) (t : ℕ) → In x xs → Own t x → In t (extents_sectors xs)
own_in x xs t i (inl h) = parts_in x xs t i h
own_in x xs t i (inr h) = tabs_in x xs t i h

pub own-apart : (x : Extent) (xs : List Extent) (t : ℕ) → Distinct (extents_sectors (x ∷ xs)) → Own t x → In t (extents_sectors xs) → ⊥
own-apart x xs t d (inl h) j = distinct_apart x.parts (x.tabs ++ extents_sectors xs) t d h (in_right t x.tabs (extents_sectors xs) j)
own-apart x xs t d (inr h) j = distinct_apart x.tabs (extents_sectors xs) t (distinct-right x.parts (x.tabs ++ extents_sectors xs) d) h j

pub rest : (x : Extent) (xs : List Extent) → Distinct (extents_sectors (x ∷ xs)) → Distinct (extents_sectors xs)
rest x xs d = distinct-right x.tabs (extents_sectors xs) (distinct-right x.parts (x.tabs ++ extents_sectors xs) d)

to : (t : ℕ) (x y : Extent) → x ≡ y → Own t x → Own t y
to t x y e h = subst (λ (z : Extent). Own t z) e h

-- two files with a sector in common are one
pub one-extent : (xs : List Extent) (x y : Extent) (t : ℕ) → Distinct (extents_sectors xs) → In x xs → In y xs → Own t x → Own t y → x ≡ y
one-extent [] x y t d i j h k = absurd i
one-extent (z ∷ xs) x y t d (inl e) (inl f) h k = e ∙ sym f
one-extent (z ∷ xs) x y t d (inl e) (inr j) h k = absurd (own-apart z xs t d (to t x z e h) (own_in y xs t j k))
one-extent (z ∷ xs) x y t d (inr i) (inl f) h k = absurd (own-apart z xs t d (to t y z f k) (own_in x xs t i h))
one-extent (z ∷ xs) x y t d (inr i) (inr j) h k = one-extent xs x y t (rest z xs d) i j h k

-- one file's sectors are distinct
pub own-distinct : (xs : List Extent) (x : Extent) → Distinct (extents_sectors xs) → In x xs → Distinct (x.parts ++ x.tabs)
own-distinct [] x d i = absurd i
own-distinct (z ∷ xs) x d (inl e) = subst (λ (y : Extent). Distinct (y.parts ++ y.tabs)) (sym e) (both z.parts z.tabs (extents_sectors xs) d)
  where
    shorter : (t : ℕ) (a b : List ℕ) → (r : List ℕ) → In t (a ++ b) → In t (a ++ (b ++ r))
    shorter t [] b r i = in_left t b r i
    shorter t (y ∷ a) b r (inl f) = inl f
    shorter t (y ∷ a) b r (inr i) = inr (shorter t a b r i)

    both : (a b r : List ℕ) → Distinct (a ++ (b ++ r)) → Distinct (a ++ b)
    both [] b r h = distinct-left b r h
    both (y ∷ a) b r h = (λ i. h.0 (shorter y a b r i), both a b r h.1)
own-distinct (z ∷ xs) x d (inr i) = own-distinct xs x (rest z xs d) i

-- ENTRIES AND THEIR FILES
pub entry_in : {e : Entry Key} {x : Extent} {ns : List (Entry Key)} {xs : List Extent} → Named e x ns xs → In e ns
entry_in here = inl refl
entry_in (later p) = inr (entry_in p)

pub file_in : {e : Entry Key} {x : Extent} {ns : List (Entry Key)} {xs : List Extent} → Named e x ns xs → In x xs
file_in here = inl refl
file_in (later p) = inr (file_in p)

pub one-pair : {e f : Entry Key} {x y : Extent} {ns : List (Entry Key)} {xs : List Extent} (t : ℕ) → Distinct (extents_sectors xs) → Named e x ns xs → Named f y ns xs → Own t x → Own t y → (e ≡ f) × (x ≡ y)
one-pair t d here here h k = (refl, refl)
one-pair {e} {f} {x} {y} t d (here {es} {xs}) (later q) h k = absurd (own-apart x xs t d h (own_in y xs t (file_in q) k))
one-pair {e} {f} {x} {y} t d (later {y = z} {xs} p) here h k = absurd (own-apart y xs t d k (own_in x xs t (file_in p) h))
one-pair t d (later {y = z} {xs} p) (later q) h k = one-pair t (rest z xs d) p q h k
