-- Close, Delete and Register: the catalog after the put that turns agrees with the ledger after the call.
use Rattle.std.proofs.Common.{◌≡◌, ℕ, zero, suc, ◌+◌, ◌*◌, ◌<◌, ◌≤◌, Bool, true, false, List, [], ◌∷◌, ◌++◌, map, length, get_or, take, set, sym, refl, ap, ◌∙◌, subst, inl, inr, arith}
use Rattle.std.proofs.lemmas.List.{get_or-set_other, get_or-set_same}
use Rattle.numbers.specs.Lengths.{place, header_size, near_sectors, table_sectors, last_sector}
use Rattle.numbers.specs.Names.{Key}
use Rattle.numbers.specs.Order.{cmp}
use Rattle.layout.specs.Words.{word_size, word}
use Rattle.tree.specs.Tree.{Entry}
use Rattle.tree.specs.Laws.{put, without}
use Rattle.disk.specs.Meaning.{Contents, In}
use Rattle.catalog.specs.Catalogs.{Extent, Catalog, entries, page_sectors, extents_sectors, file_sectors, Distinct, range, byte_at, bytes_of}
use Rattle.catalog.specs.Lays.{FileAt, FilesAt, Lays}
use Rattle.catalog.specs.Laws.{Named, here, later}
use Rattle.catalog.proofs.File.{tables-over}
use Rattle.catalog.proofs.Frame.{laid-same, file-same}
use Rattle.promise.specs.Table.{Delete, Register, Close}
use Rattle.promise.specs.Ledger.{Written, no_file, Ledger, file_by, possible_at, slot_of, file_of, closing, counts}
use Rattle.promise.specs.Promise.{Among, FileAgrees, FilesAgree, Agrees, name_of}
use Rattle.recovery.specs.Picks.{with_sector}
use Rattle.recovery.specs.Harmless.{sector_of}
use Rattle.recovery.specs.Owed.{but, placed, no_entry, no_extent, with_extent}
use Rattle.recovery.proofs.Lists.{Own, own_in, own-apart, rest, distinct_apart, distinct-right, get_or-in, entry_in, file_in}
use Rattle.recovery.proofs.Steps.{sector-apart}
use Rattle.recovery.proofs.Agreement.{file-move, files-move, laid}

-- A FILE WHOSE SECTORS STAY
pub file-stays : (s s' : ℕ → Contents) (t : ℕ) (y : Extent) → ((n : ℕ) → Own n y → s' n ≡ s n) → FileAt s t y → FileAt s' t y
file-stays s s' t y e h =
    let r = h.reaches in
    file-same s s' t y (ap (λ (z : Contents). take header_size z) (e _ (inl (get_or-in y.parts 0 0 (omega (arith, r.parts))))))
    (λ k j u v. let b : near_sectors + table_sectors * k ≤ last_sector y.long = omega (arith, r.parts) in
    ap (λ (z : Contents). word z (word_size * j)) (e _ (inr (get_or-in y.tabs k 0 (rw r.tabs (tables-over (last_sector y.long) k b)))))) h

agrees-stays : (s s' : ℕ → Contents) (t : ℕ) (y : Extent) (w : Written) → ((n : ℕ) → Own n y → s' n ≡ s n) → FileAt s t y → FileAgrees s w y → FileAgrees s' w y
agrees-stays s s' t y w e h a = file-move s s' w w y refl refl
    (λ p u i. let v : (place p).0 < length y.parts = omega (arith, h.reaches.parts) in
    subst (λ (z : Contents). In (get_or z (place p).1 0) (possible_at w p)) (sym (e (sector_of y p) (inl (get_or-in y.parts (place p).0 0 v)))) i) a

-- a closed file
among_self : (bs : List ℕ) → Among bs (map (λ (b : ℕ). b ∷ []) bs)
among_self [] = tt
among_self (b ∷ bs) = (inl refl, among_self bs)

pub long_of : (f : ℕ → ℕ) (from n : ℕ) → length (map f (range from n)) ≡ n
unfolding range
long_of f from zero = refl
long_of f from (suc n) = ap suc (long_of f (suc from) n)

pub closed-agrees : (s : ℕ → Contents) (w : Written) (x : Extent) → bytes_of s x ≡ w.bytes → FileAgrees s (closing w) x
unfolding bytes_of
closed-agrees s w x e = (
  sym (long_of (byte_at s x) 0 x.long) ∙ ap (λ (z : List ℕ). length z) e,
  subst (λ (z : List ℕ). Among z (map (λ (b : ℕ). b ∷ []) w.bytes)) (sym e) (among_self w.bytes),
)

-- LISTS BY PLACE
pub but_in : {A : Type 0} (i : ℕ) (xs : List A) (y : A) → In y (but i xs) → In y xs
but_in i [] y h = h
but_in zero (x ∷ xs) y h = inr h
but_in (suc i) (x ∷ xs) y (inl e) = inl e
but_in (suc i) (x ∷ xs) y (inr h) = inr (but_in i xs y h)

map-but : {A B : Type 0} (f : A → B) (i : ℕ) (xs : List A) → map f (but i xs) ≡ but i (map f xs)
map-but f i [] = refl
map-but f zero (x ∷ xs) = refl
map-but f (suc i) (x ∷ xs) = ap (λ (z : List _). f x ∷ z) (map-but f i xs)

map-placed : {A B : Type 0} (f : A → B) (r : Bool) (i : ℕ) (x : A) (xs : List A) → map f (placed r i x xs) ≡ placed r i (f x) (map f xs)
map-placed f true i x [] = refl
map-placed f true zero x (y ∷ xs) = refl
map-placed f true (suc i) x (y ∷ xs) = ap (λ (z : List _). f y ∷ z) (map-placed f true i x xs)
map-placed f false zero x xs = refl
map-placed f false (suc i) x [] = refl
map-placed f false (suc i) x (y ∷ xs) = ap (λ (z : List _). f y ∷ z) (map-placed f false i x xs)

but-apart : (i : ℕ) (xs : List Extent) (t : ℕ) (y : Extent) → Distinct (extents_sectors xs) → i < length xs → Own t (get_or xs i no_extent) → In y (but i xs) → Own t y → ⊥
but-apart i [] t y d u h j k = j
but-apart zero (x ∷ xs) t y d u h j k = own-apart x xs t d h (own_in y xs t j k)
but-apart (suc i) (x ∷ xs) t y d u h (inl e) k = own-apart x xs t d (subst (λ (z : Extent). Own t z) e k) (own_in (get_or xs i no_extent) xs t (get_or-in xs i no_extent (omega arith)) h)
but-apart (suc i) (x ∷ xs) t y d u h (inr j) k = but-apart i xs t y (rest x xs d) (omega arith) h j k

module _ (s s' : ℕ → Contents) where
  pub at-move : (es : List (Entry Key)) (xs : List Extent) → ((e : Entry Key) (y : Extent) → Named e y es xs → FileAt s e.1 y → FileAt s' e.1 y) → FilesAt s es xs → FilesAt s' es xs
  at-move [] [] g a = tt
  at-move [] (x ∷ xs) g a = a
  at-move (n ∷ es) [] g a = a
  at-move (n ∷ es) (x ∷ xs) g a = (g n x here a.0, at-move es xs (λ e y p. g e y (later p)) a.1)

  at_set : (es : List (Entry Key)) (xs : List Extent) (i : ℕ) (x : Extent) → ((e : Entry Key) (y : Extent) → Named e y (but i es) (but i xs) → FileAt s e.1 y → FileAt s' e.1 y) →
      FileAt s' (get_or es i no_entry).1 x → FilesAt s es xs → FilesAt s' es (set xs i x)
  at_set [] [] i x g h a = tt
  at_set [] (z ∷ xs) i x g h a = absurd a
  at_set (n ∷ es) [] i x g h a = absurd a
  at_set (n ∷ es) (z ∷ xs) zero x g h a = (h, at-move es xs g a.1)
  at_set (n ∷ es) (z ∷ xs) (suc i) x g h a = (g n z here a.0, at_set es xs i x (λ e y p. g e y (later p)) h a.1)

  agree-set : (l l' : Ledger) (ns : List (Entry Key)) (xs : List Extent) (i : ℕ) (x : Extent) →
      ((e : Entry Key) (y : Extent) → Named e y (but i ns) (but i xs) → FileAgrees s (file_by l e) y → FileAgrees s' (file_by l' e) y) →
      FileAgrees s' (file_by l' (get_or ns i no_entry)) x → FilesAgree s l ns xs → FilesAgree s' l' ns (set xs i x)
  agree-set l l' [] [] i x g h a = tt
  agree-set l l' [] (z ∷ xs) i x g h a = absurd a
  agree-set l l' (n ∷ ns) [] i x g h a = absurd a
  agree-set l l' (n ∷ ns) (z ∷ xs) zero x g h a = (h, files-move s s' l l' ns xs g a.1)
  agree-set l l' (n ∷ ns) (z ∷ xs) (suc i) x g h a = (g n z here a.0, agree-set l l' ns xs i x (λ e y p. g e y (later p)) h a.1)

at_place : (s : ℕ → Contents) (es : List (Entry Key)) (xs : List Extent) (i : ℕ) → FilesAt s es xs → i < length xs → FileAt s (get_or es i no_entry).1 (get_or xs i no_extent)
at_place s [] [] i a u = absurd (omega arith)
at_place s [] (x ∷ xs) i a u = absurd a
at_place s (e ∷ es) [] i a u = absurd a
at_place s (e ∷ es) (x ∷ xs) zero a u = a.0
at_place s (e ∷ es) (x ∷ xs) (suc i) a u = at_place s es xs i a.1 (omega arith)

agree-but : (s : ℕ → Contents) (l : Ledger) (ns : List (Entry Key)) (xs : List Extent) (i : ℕ) → FilesAgree s l ns xs → FilesAgree s l (but i ns) (but i xs)
agree-but s l [] [] i a = tt
agree-but s l [] (x ∷ xs) i a = absurd a
agree-but s l (n ∷ ns) [] i a = absurd a
agree-but s l (n ∷ ns) (x ∷ xs) zero a = a.1
agree-but s l (n ∷ ns) (x ∷ xs) (suc i) a = (a.0, agree-but s l ns xs i a.1)

agree-placed : (s : ℕ → Contents) (l : Ledger) (ns : List (Entry Key)) (xs : List Extent) (r : Bool) (i : ℕ) (e : Entry Key) (x : Extent) → FileAgrees s (file_by l e) x →
    FilesAgree s l ns xs → FilesAgree s l (placed r i e ns) (placed r i x xs)
agree-placed s l [] [] true i e x h a = tt
agree-placed s l [] [] false zero e x h a = (h, tt)
agree-placed s l [] [] false (suc i) e x h a = (h, tt)
agree-placed s l [] (y ∷ xs) r i e x h a = absurd a
agree-placed s l (n ∷ ns) [] r i e x h a = absurd a
agree-placed s l (n ∷ ns) (y ∷ xs) true zero e x h a = (h, a.1)
agree-placed s l (n ∷ ns) (y ∷ xs) true (suc i) e x h a = (a.0, agree-placed s l ns xs true i e x h a.1)
agree-placed s l (n ∷ ns) (y ∷ xs) false zero e x h a = (h, a)
agree-placed s l (n ∷ ns) (y ∷ xs) false (suc i) e x h a = (a.0, agree-placed s l ns xs false i e x h a.1)

-- CLOSE of the file with the name at i: its extent becomes x, its first sector b
pub record Closing (l : Ledger) (h i : ℕ) (size : ℕ) (s : ℕ → Contents) (c : Catalog) (x : Extent) (k : ℕ) (b : Contents) : Type 0 where
  pub agrees : Agrees l size s c
  pub there : i < length c.files
  pub named : (get_or l.names i no_entry).1 ≡ (slot_of l h).file
  pub alone : (e : Entry Key) → In e (but i l.names) → e.1 ≡ (slot_of l h).file → ⊥
  pub known : (slot_of l h).file < length l.files
  pub first : get_or (get_or c.files i no_extent).parts 0 0 ≡ k
  pub laid : FileAt (with_sector s k b) k x
  pub bytes : bytes_of (with_sector s k b) x ≡ (file_of l h).bytes
  pub once : Distinct (page_sectors c ++ extents_sectors (set c.files i x))
  pub within : (t : ℕ) → In t (page_sectors c ++ extents_sectors (set c.files i x)) → (1 ≤ t) × (t < size)

pub closing-agrees : (l : Ledger) (h i size : ℕ) (s : ℕ → Contents) (c : Catalog) (x : Extent) (k : ℕ) (b : Contents) → Closing l h i size s c x k b →
    Agrees (counts l 0 (Close h)) size (with_sector s k b) (with_extent i x c)
closing-agrees l h i size s c x k b g = record {
  lays = record {
    root = y.root;
    good = y.good;
    names = y.names;
    pages = laid-same s (with_sector s k b) (suc c.over) c.root (λ t j. sector-apart s k b t (λ e. distinct_apart (page_sectors c) (file_sectors c) k y.once (subst (λ (z : ℕ). In z (page_sectors c)) e j) (own_in old c.files k old_in ko))) y.pages;
    files = at_set s (with_sector s k b) (entries c) c.files i x
        (λ e z p. file-stays s (with_sector s k b) e.1 z (λ n o. apart z (file_in p) n o))
        (subst (λ (t : ℕ). FileAt (with_sector s k b) t x) (sym g.first ∙ f.reaches.first) g.laid) y.files;
    once = g.once;
    within = g.within;
  };
  names = a.names;
  files = agree-set s (with_sector s k b) l l' l.names c.files i x keep there a.files;
}
  where
    a : Agrees l size s c
    a = g.agrees

    l' : Ledger
    l' = counts l 0 (Close h)

    y : Lays size s c
    y = a.lays

    n₀ : ℕ
    n₀ = (slot_of l h).file

    old : Extent
    old = get_or c.files i no_extent

    old_in : In (get_or c.files i no_extent) c.files
    old_in = get_or-in c.files i no_extent g.there

    f : FileAt s (get_or (entries c) i no_entry).1 (get_or c.files i no_extent)
    f = at_place s (entries c) c.files i y.files g.there

    ko : Own k (get_or c.files i no_extent)
    ko = inl (subst (λ (z : ℕ). In z (get_or c.files i no_extent).parts) g.first (get_or-in (get_or c.files i no_extent).parts 0 0 (omega (arith, f.reaches.parts))))

    d : Distinct (file_sectors c)
    d = distinct-right (page_sectors c) (file_sectors c) y.once

    apart : (z : Extent) → In z (but i c.files) → (n : ℕ) → Own n z → with_sector s k b n ≡ s n
    apart z j n o = sector-apart s k b n (λ e. but-apart i c.files k z d g.there ko j (subst (λ (t : ℕ). Own t z) e o))

    keep : (e : Entry Key) (z : Extent) → Named e z (but i l.names) (but i c.files) → FileAgrees s (file_by l e) z → FileAgrees (with_sector s k b) (file_by (counts l 0 (Close h)) e) z
    keep e z p q =
        let j = file_in p in
        let v = laid size s c y z (but_in i c.files z j) in
        subst (λ (w : Written). FileAgrees (with_sector s k b) w z) (sym (get_or-set_other l.files n₀ e.1 (closing (file_of l h)) no_file (g.alone e (entry_in p))))
        (agrees-stays s (with_sector s k b) v.0 z (file_by l e) (apart z j) v.1 q)

    there : FileAgrees (with_sector s k b) (file_by (counts l 0 (Close h)) (get_or l.names i no_entry)) x
    there = subst (λ (w : Written). FileAgrees (with_sector s k b) w x)
        (sym (ap (λ (t : ℕ). get_or (set l.files n₀ (closing (file_of l h))) t no_file) g.named ∙ get_or-set_same l.files n₀ (closing (file_of l h)) no_file g.known))
        (closed-agrees (with_sector s k b) (file_of l h) x g.bytes)

-- the files of a catalog whose sectors stay
files-stay : (l : Ledger) (size : ℕ) (s s' : ℕ → Contents) (c : Catalog) → Agrees l size s c → ((t : ℕ) → In t (file_sectors c) → s' t ≡ s t) →
    (e : Entry Key) (z : Extent) → Named e z l.names c.files → FileAgrees s (file_by l e) z → FileAgrees s' (file_by l e) z
files-stay l size s s' c a m e z p q =
    let j = file_in p in
    let v = laid size s c a.lays z j in
    agrees-stays s s' v.0 z (file_by l e) (λ n o. m n (own_in z c.files n j o)) v.1 q

-- DELETE: the directory lays d without the name at i, and no file's sector was touched
pub record Deleting (l : Ledger) (n : Key) (i size : ℕ) (s s' : ℕ → Contents) (c d : Catalog) : Type 0 where
  pub agrees : Agrees l size s c
  pub struck : without cmp n l.names ≡ but i l.names
  pub lays : Lays size s' d
  pub names : entries d ≡ but i (entries c)
  pub files : d.files ≡ but i c.files
  pub same : (t : ℕ) → In t (file_sectors c) → s' t ≡ s t

pub deleting-agrees : (l : Ledger) (n : Key) (i size : ℕ) (s s' : ℕ → Contents) (c d : Catalog) → Deleting l n i size s s' c d → Agrees (counts l 0 (Delete n)) size s' d
deleting-agrees l n i size s s' c d g = record {
  lays = g.lays;
  names = ap (λ (z : List (Entry Key)). map name_of z) g.names ∙ (map-but name_of i (entries c) ∙ (ap (λ (z : List Key). but i z) a.names ∙
      (sym (map-but name_of i l.names) ∙ ap (λ (z : List (Entry Key)). map name_of z) (sym g.struck))));
  files = subst (λ (z : List (Entry Key)). FilesAgree s' l' z d.files) (sym g.struck) (subst (λ (z : List Extent). FilesAgree s' l' (but i l.names) z) (sym g.files)
      (agree-but s' l' l.names c.files i (files-move s s' l l' l.names c.files (files-stay l size s s' c a g.same) a.files)));
}
  where
    a : Agrees l size s c
    a = g.agrees

    l' : Ledger
    l' = counts l 0 (Delete n)

-- REGISTER: the directory lays d with the name put before the one at i (r false) or in its place (r true), and no named file's sector was
-- touched
pub record Registering (l : Ledger) (h : ℕ) (r : Bool) (i size : ℕ) (s s' : ℕ → Contents) (c d : Catalog) (x : Extent) (k : ℕ) : Type 0 where
  pub agrees : Agrees l size s c
  pub entered : put cmp ((slot_of l h).name, (slot_of l h).file) l.names ≡ placed r i ((slot_of l h).name, (slot_of l h).file) l.names
  pub alone : (e : Entry Key) → In e l.names → e.1 ≡ (slot_of l h).file → ⊥
  pub known : (slot_of l h).file < length l.files
  pub lays : Lays size s' d
  pub names : entries d ≡ placed r i ((slot_of l h).name, k) (entries c)
  pub files : d.files ≡ placed r i x c.files
  pub bytes : bytes_of s' x ≡ (file_of l h).bytes
  pub same : (t : ℕ) → In t (file_sectors c) → s' t ≡ s t

pub registering-agrees : (l : Ledger) (h : ℕ) (r : Bool) (i size : ℕ) (s s' : ℕ → Contents) (c d : Catalog) (x : Extent) (k : ℕ) → Registering l h r i size s s' c d x k →
    Agrees (counts l 0 (Register h)) size s' d
registering-agrees l h r i size s s' c d x k g = record {
  lays = g.lays;
  names = ap (λ (z : List (Entry Key)). map name_of z) g.names ∙ (map-placed name_of r i ((slot_of l h).name, k) (entries c) ∙ (ap (λ (z : List Key). placed r i (slot_of l h).name z) a.names ∙
      (sym (map-placed name_of r i e₀ l.names) ∙ ap (λ (z : List (Entry Key)). map name_of z) (sym g.entered))));
  files = subst (λ (z : List (Entry Key)). FilesAgree s' l' z d.files) (sym g.entered) (subst (λ (z : List Extent). FilesAgree s' l' (placed r i e₀ l.names) z) (sym g.files)
      (agree-placed s' l' l.names c.files r i e₀ x there (files-move s s' l l' l.names c.files keep a.files)));
}
  where
    a : Agrees l size s c
    a = g.agrees

    l' : Ledger
    l' = counts l 0 (Register h)

    n₀ : ℕ
    n₀ = (slot_of l h).file

    e₀ : Entry Key
    e₀ = ((slot_of l h).name, (slot_of l h).file)

    keep : (e : Entry Key) (z : Extent) → Named e z l.names c.files → FileAgrees s (file_by l e) z → FileAgrees s' (file_by (counts l 0 (Register h)) e) z
    keep e z p q = subst (λ (w : Written). FileAgrees s' w z) (sym (get_or-set_other l.files n₀ e.1 (closing (file_of l h)) no_file (g.alone e (entry_in p))))
        (files-stay l size s s' c a g.same e z p q)

    there : FileAgrees s' (file_by (counts l 0 (Register h)) ((slot_of l h).name, (slot_of l h).file)) x
    there = subst (λ (w : Written). FileAgrees s' w x) (sym (get_or-set_same l.files n₀ (closing (file_of l h)) no_file g.known)) (closed-agrees s' (file_of l h) x g.bytes)
