-- First sectors of a catalog's files: each entry leads to its own.
use Rattle.std.proofs.Common.{length-append, ◌≡◌, ℕ, zero, suc, ◌<◌, ◌≤◌, Bool, cond, List, [], ◌∷◌, ◌++◌, map, length, get_or, sym, refl, ap, ◌∙◌, subst, ap₂, inl, inr, arith}
use Rattle.std.specs.Prelude.{slice_index}
use Rattle.std.proofs.lemmas.List.{length-map}
use Rattle.std.proofs.lemmas.Bool.{eq-eqb, ne_eqb}
use Rattle.numbers.specs.Names.{Key}
use Rattle.tree.specs.Tree.{Entry}
use Rattle.disk.specs.Meaning.{Contents, In}
use Rattle.catalog.specs.Catalogs.{Extent, Catalog, entries, extents_sectors, page_sectors, file_sectors, bytes_of, Distinct}
use Rattle.catalog.proofs.Frame.{in_right}
use Rattle.catalog.specs.Lays.{FilesAt, Lays}
use Rattle.promise.specs.Table.{found_file}
use Rattle.promise.specs.Ledger.{file_number}

-- LISTS
pub distinct-right : (xs ys : List ℕ) → Distinct (xs ++ ys) → Distinct ys
distinct-right [] ys d = d
distinct-right (x ∷ xs) ys d = distinct-right xs ys d.1

-- FILES
abbrev pub first_sector : Extent → ℕ
first_sector x = slice_index x.parts 0

pub entries-first : (shown : ℕ → Contents) (es : List (Entry Key)) (xs : List Extent) → FilesAt shown es xs → map file_number es ≡ map first_sector xs
entries-first shown [] [] h = refl
entries-first shown [] (x ∷ xs) h = absurd h
entries-first shown (e ∷ es) [] h = absurd h
entries-first shown (e ∷ es) (x ∷ xs) h = ap₂ (λ (n : ℕ) (l : List ℕ). n ∷ l) (sym h.0.reaches.first) (entries-first shown es xs h.1)

-- each file has a first sector
abbrev pub Begun : List Extent → Type 0
Begun [] = Unit {0}
Begun (x ∷ xs) = (1 ≤ length x.parts) × Begun xs

files-begun : (shown : ℕ → Contents) (es : List (Entry Key)) (xs : List Extent) → FilesAt shown es xs → Begun xs
files-begun shown [] [] h = tt
files-begun shown [] (x ∷ xs) h = absurd h
files-begun shown (e ∷ es) [] h = absurd h
files-begun shown (e ∷ es) (x ∷ xs) h = (let p = h.0.reaches.parts in omega (arith, p), files-begun shown es xs h.1)

head-in : (l r : List ℕ) → 1 ≤ length l → In (get_or l 0 0) (l ++ r)
head-in [] r h = absurd (omega arith)
head-in (x ∷ l) r h = inl refl

head-apart : (l r : List ℕ) (n : ℕ) → 1 ≤ length l → Distinct (l ++ r) → In n r → get_or l 0 0 ≡ n → ⊥
head-apart [] r n h d i e = omega arith
head-apart (x ∷ l) r n h d i e = d.0 (in_right x l r (subst (λ (k : ℕ). In k r) (sym e) i))

first-in : (xs : List Extent) (n : ℕ) → Begun xs → In n (map first_sector xs) → In n (extents_sectors xs)
first-in [] n b i = i
first-in (x ∷ xs) n b (inl q) = subst (λ (k : ℕ). In k (extents_sectors (x ∷ xs))) (sym q) (head-in x.parts (x.tabs ++ extents_sectors xs) b.0)
first-in (x ∷ xs) n b (inr j) = in_right n x.parts (x.tabs ++ extents_sectors xs) (in_right n x.tabs (extents_sectors xs) (first-in xs n b.1 j))

firsts-distinct : (xs : List Extent) → Begun xs → Distinct (extents_sectors xs) → Distinct (map first_sector xs)
firsts-distinct [] b d = tt
firsts-distinct (x ∷ xs) b d = (
  λ i. head-apart x.parts (x.tabs ++ extents_sectors xs) (first_sector x) b.0 d (in_right (first_sector x) x.tabs (extents_sectors xs) (first-in xs (first_sector x) b.1 i)) refl,
  firsts-distinct xs b.1 (distinct-right x.tabs (extents_sectors xs) (distinct-right x.parts (x.tabs ++ extents_sectors xs) d)),
)

pub lays-distinct : (size : ℕ) (shown : ℕ → Contents) (c : Catalog) → Lays size shown c → Distinct (map first_sector c.files)
lays-distinct size shown c l = firsts-distinct c.files (files-begun shown (entries c) c.files l.files) (distinct-right (page_sectors c) (file_sectors c) l.once)

-- numbers that stand once
get-in : (xs : List ℕ) (n d : ℕ) → n < length xs → In (get_or xs n d) xs
get-in [] n d h = absurd (omega arith)
get-in (x ∷ xs) zero d h = inl refl
get-in (x ∷ xs) (suc n) d h = inr (get-in xs n d (omega arith))

pub distinct-same : (xs : List ℕ) (n m d : ℕ) → Distinct xs → n < length xs → m < length xs → get_or xs n d ≡ get_or xs m d → n ≡ m
distinct-same [] n m d u h k e = absurd (omega arith)
distinct-same (x ∷ xs) zero zero d u h k e = refl
distinct-same (x ∷ xs) zero (suc m) d u h k e = absurd (u.0 (subst (λ (y : ℕ). In y xs) (sym e) (get-in xs m d (omega arith))))
distinct-same (x ∷ xs) (suc n) zero d u h k e = absurd (u.0 (subst (λ (y : ℕ). In y xs) e (get-in xs n d (omega arith))))
distinct-same (x ∷ xs) (suc n) (suc m) d u h k e = ap suc (distinct-same xs n m d u.1 (omega arith) (omega arith) e)

-- the file at its first sector
abbrev pub no_extent : Extent
no_extent = record { long = 0; parts = []; tabs = [] }

pub found-file-at : (shown : ℕ → Contents) (xs : List Extent) (n : ℕ) → Distinct (map first_sector xs) → n < length xs →
    found_file shown xs (get_or (map first_sector xs) n 0) ≡ record { bytes = bytes_of shown (get_or xs n no_extent); closed = (get_or xs n no_extent).long }
found-file-at shown [] n d h = absurd (omega arith)
found-file-at shown (x ∷ xs) zero d h = ap (λ (b : Bool). cond b (record { bytes = bytes_of shown x; closed = x.long }) (found_file shown xs (first_sector x))) (eq-eqb (first_sector x) (first_sector x) refl)
found-file-at shown (x ∷ xs) (suc n) d h =
    let k = get_or (map first_sector xs) n 0 in
    ap (λ (b : Bool). cond b (record { bytes = bytes_of shown x; closed = x.long }) (found_file shown xs k))
    (ne_eqb (first_sector x) k (λ e. d.0 (subst (λ (y : ℕ). In y (map first_sector xs)) (sym e) (get-in (map first_sector xs) n 0 (subst (λ (m : ℕ). n < m) (sym (length-map xs first_sector)) (omega arith)))))) ∙
    found-file-at shown xs n d.1 (omega arith)

pub entries-distinct : (size : ℕ) (shown : ℕ → Contents) (c : Catalog) → Lays size shown c → Distinct (map file_number (entries c))
entries-distinct size shown c l = subst Distinct (sym (entries-first shown (entries c) c.files l.files)) (lays-distinct size shown c l)

-- no more names than sectors of files
extents-many : (xs : List Extent) → Begun xs → length xs ≤ length (extents_sectors xs)
extents-many [] b = omega arith
extents-many (x ∷ xs) b = let r = extents-many xs b.1 in let s = b.0 in let n = length-append x.parts (x.tabs ++ extents_sectors xs) in let m = length-append x.tabs (extents_sectors xs) in omega (arith, r, s, n, m)

pub files-long : (shown : ℕ → Contents) (es : List (Entry Key)) (xs : List Extent) → FilesAt shown es xs → length xs ≡ length es
files-long shown [] [] h = refl
files-long shown [] (x ∷ xs) h = absurd h
files-long shown (e ∷ es) [] h = absurd h
files-long shown (e ∷ es) (x ∷ xs) h = ap suc (files-long shown es xs h.1)

pub names-many : (size : ℕ) (shown : ℕ → Contents) (c : Catalog) → Lays size shown c → length (entries c) ≤ length (file_sectors c)
names-many size shown c l =
    let r = extents-many c.files (files-begun shown (entries c) c.files l.files) in
    let n = files-long shown (entries c) c.files l.files in
    omega (arith, r, n)
