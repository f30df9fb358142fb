-- Which puts harm nothing: each sector of a catalog has one use.
use Rattle.std.proofs.Common.{◌≡◌, ℕ, zero, suc, ◌+◌, ◌-◌, ◌*◌, ◌<◌, ◌≤◌, ◌⊎◌, List, [], ◌∷◌, ◌++◌, map, length, get_or, set, sym, refl, ap, ◌∙◌, subst, inl, inr, arith}
use Rattle.std.proofs.lemmas.List.{get_or-set_same}
use Rattle.std.proofs.lemmas.Bool.{cases_lt}
use Rattle.numbers.specs.Lengths.{place, near_sectors, table_sectors}
use Rattle.numbers.specs.Names.{Key}
use Rattle.numbers.specs.Sectors.{address}
use Rattle.layout.specs.Words.{word_size, word}
use Rattle.tree.specs.Tree.{Entry}
use Rattle.disk.specs.Meaning.{Contents, In}
use Rattle.catalog.specs.Catalogs.{Extent, Catalog, page_sectors, file_sectors, Distinct, range, byte_at, bytes_of}
use Rattle.catalog.specs.Lays.{Lays}
use Rattle.catalog.specs.Laws.{Named, here, later}
use Rattle.catalog.proofs.Frame.{in_left}
use Rattle.promise.specs.Table.{Write}
use Rattle.promise.specs.Ledger.{Written, no_file, Ledger, file_by, possible_at, slot_of, file_of, from, carried, breaks}
use Rattle.promise.specs.Promise.{Among, FileAgrees, FilesAgree, Agrees}
use Rattle.promise.proofs.Firsts.{distinct-same}
use Rattle.recovery.specs.Wider.{Grows}
use Rattle.recovery.specs.Harmless.{sector_of, Harmless, OutsideHarmless, DataHarmless, TableHarmless, WritingHarmless, WroteWider}
use Rattle.recovery.proofs.Lists.{get_or-in, distinct_apart, distinct-left, distinct-right, parts_in, tabs_in, one-extent, own-distinct, one-pair, file_in}
use Rattle.recovery.proofs.Agreement.{grows, head_in, part-below, byte_in, tab-below, tab_in, part-all, tab-all}
use Rattle.recovery.proofs.Wider.{carried-long}

pub outside-harmless : OutsideHarmless
outside-harmless l size s c k b h n = record {
  page = λ i. n (in_left k (page_sectors c) (file_sectors c) i);
  head = λ x i e. n (subst all e (part-all size s c h x _ i (head_in size s c h x i)));
  table = λ x i t j u v e. absurd (n (subst all e (tab-all size s c h x _ i (tab_in size s c h x i t j u v))));
  bytes = λ e x q p u z. let i = file_in q in absurd (n (subst all z (part-all size s c h x _ i (byte_in size s c h x i p u))));
}
  where
    all : ℕ → Type 0
    all t = In t (page_sectors c ++ file_sectors c)

module _ (l : Ledger) (size : ℕ) (s : ℕ → Contents) (c : Catalog) (a : Agrees l size s c) where
  h : Lays size s c
  h = a.lays

  d : Distinct (file_sectors c)
  d = distinct-right (page_sectors c) (file_sectors c) h.once

  no-page : (k : ℕ) → In k (file_sectors c) → In k (page_sectors c) → ⊥
  no-page k i j = distinct_apart (page_sectors c) (file_sectors c) k h.once j i

  -- the same sector as a part and as a table
  no_both : (x y : Extent) (k : ℕ) → In x c.files → In y c.files → In k x.parts → In k y.tabs → ⊥
  no_both x y k i j u v =
      let e = one-extent c.files x y k d i j (inl u) (inr v) in
      distinct_apart y.parts y.tabs k (own-distinct c.files y d j) (subst (λ (z : Extent). In k z.parts) e u) v

  data-at : (e : Entry Key) (x : Extent) (i : ℕ) (b : Contents) → Named e x l.names c.files → 1 ≤ i → i < length x.parts →
      ((p : ℕ) → p < x.long → (place p).0 ≡ i → In (get_or b (place p).1 0) (possible_at (file_by l e) p)) → Harmless l c (get_or x.parts i 0) b
  data-at e x i b q u v g = record {
    page = no-page k (parts_in x c.files k xi ki);
    head = λ y j f. nohead y j f;
    table = λ y j t w m n f. absurd (no_both x y k xi j ki (subst (λ (z : ℕ). In z y.tabs) f (tab_in size s c h y j t w m n)));
    bytes = λ n y r p m f. at n y r p m f;
  }
    where
      k : ℕ
      k = get_or x.parts i 0

      ki : In (get_or x.parts i 0) x.parts
      ki = get_or-in x.parts i 0 v

      xi : In x c.files
      xi = file_in q

      parts : Distinct x.parts
      parts = distinct-left x.parts x.tabs (own-distinct c.files x d xi)

      nohead : (y : Extent) → In y c.files → get_or y.parts 0 0 ≡ get_or x.parts i 0 → ⊥
      nohead y j f =
          let o = one-extent c.files y x (get_or x.parts i 0) d j xi (inl (subst (λ (z : ℕ). In z y.parts) f (head_in size s c h y j))) (inl ki) in
          let f' : get_or x.parts 0 0 ≡ get_or x.parts i 0 = subst (λ (z : Extent). get_or z.parts 0 0 ≡ get_or x.parts i 0) o f in
          let z : 0 ≡ i = distinct-same x.parts 0 i 0 parts (omega arith) v f' in
          omega arith

      at : (n : Entry Key) (y : Extent) → Named n y l.names c.files → (p : ℕ) → p < y.long → sector_of y p ≡ get_or x.parts i 0 → In (get_or b (place p).1 0) (possible_at (file_by l n) p)
      at n y r p m f =
          let yi = file_in r in
          let o = one-pair (get_or x.parts i 0) d r q (inl (subst (λ (z : ℕ). In z y.parts) f (byte_in size s c h y yi p m))) (inl ki) in
          let m' : p < x.long = subst (λ (z : Extent). p < z.long) o.1 m in
          let f' : sector_of x p ≡ get_or x.parts i 0 = subst (λ (z : Extent). sector_of z p ≡ get_or x.parts i 0) o.1 f in
          let w : (place p).0 < length x.parts = part-below size s c h x xi p m' in
          subst (λ (z : Entry Key). In (get_or b (place p).1 0) (possible_at (file_by l z) p)) (sym o.0) (g p m' (distinct-same x.parts (place p).0 i 0 parts w v f'))

  table-at : (x : Extent) (i : ℕ) (b : Contents) → In x c.files → i < length x.tabs →
      ((j : ℕ) → j < table_sectors → near_sectors + table_sectors * i + j < length x.parts → word b (word_size * j) ≡ address (get_or x.parts (near_sectors + table_sectors * i + j) 0)) → Harmless l c (get_or x.tabs i 0) b
  table-at x i b xi v g = record {
    page = no-page k (tabs_in x c.files k xi ki);
    head = λ y j f. no_both y x k j xi (subst (λ (z : ℕ). In z y.parts) f (head_in size s c h y j)) ki;
    table = λ y j t w m n f. at y j t w m n f;
    bytes = λ n y r p m f. let j = file_in r in absurd (no_both y x k j xi (subst (λ (z : ℕ). In z y.parts) f (byte_in size s c h y j p m)) ki);
  }
    where
      k : ℕ
      k = get_or x.tabs i 0

      ki : In (get_or x.tabs i 0) x.tabs
      ki = get_or-in x.tabs i 0 v

      tabs : Distinct x.tabs
      tabs = distinct-right x.parts x.tabs (own-distinct c.files x d xi)

      at : (y : Extent) → In y c.files → (t j : ℕ) → j < table_sectors → near_sectors + table_sectors * t + j < length y.parts → get_or y.tabs t 0 ≡ get_or x.tabs i 0 →
          word b (word_size * j) ≡ address (get_or y.parts (near_sectors + table_sectors * t + j) 0)
      at y yi t j m n f =
          let o = one-extent c.files x y (get_or x.tabs i 0) d xi yi (inr ki) (inr (subst (λ (z : ℕ). In z y.tabs) f (tab_in size s c h y yi t j m n))) in
          let w : t < length y.tabs = tab-below size s c h y yi t j m n in
          let v' : i < length y.tabs = subst (λ (z : Extent). i < length z.tabs) o v in
          let f' : get_or y.tabs t 0 ≡ get_or y.tabs i 0 = f ∙ ap (λ (z : Extent). get_or z.tabs i 0) o in
          let e : t ≡ i = distinct-same y.tabs t i 0 (subst (λ (z : Extent). Distinct z.tabs) o tabs) w v' f' in
          let n' : near_sectors + table_sectors * i + j < length x.parts = subst (λ (z : Extent). near_sectors + table_sectors * i + j < length z.parts) (sym o) (subst (λ (z : ℕ). near_sectors + table_sectors * z + j < length y.parts) e n) in
          g j m n' ∙ (ap (λ (z : Extent). address (get_or z.parts (near_sectors + table_sectors * i + j) 0)) o ∙ ap (λ (z : ℕ). address (get_or y.parts (near_sectors + table_sectors * z + j) 0)) (sym e))

pub data-harmless : DataHarmless
data-harmless l size s c e x i b a = data-at l size s c a e x i b

pub table-harmless : TableHarmless
table-harmless l size s c x i b a = table-at l size s c a x i b

-- WRITE. Its bytes are possible ones
carried-has : (from : ℕ) (w : List ℕ) (ps : List (List ℕ)) (q : ℕ) → from ≤ q → q < from + length w → q < length ps → In (get_or w (q - from) 0) (get_or (carried from w ps) q [])
carried-has from w [] q u v n = absurd (omega arith)
carried-has zero [] (x ∷ ps) q u v n = absurd (omega arith)
carried-has zero (b ∷ w) (x ∷ ps) zero u v n = inl refl
carried-has zero (b ∷ w) (x ∷ ps) (suc q) u v n =
    let i : In (get_or w (q - 0) 0) (get_or (carried zero w ps) q []) = carried-has zero w ps q (omega arith) (omega arith) (omega arith) in
    let e : q - 0 ≡ q = omega arith in
    let f : suc q - 0 ≡ suc q = omega arith in
    subst (λ (z : ℕ). In (get_or (b ∷ w) z 0) (get_or (carried zero w ps) q [])) (sym f) (subst (λ (z : ℕ). In (get_or w z 0) (get_or (carried zero w ps) q [])) e i)
carried-has (suc p) w (x ∷ ps) zero u v n = absurd (omega arith)
carried-has (suc p) w (x ∷ ps) (suc q) u v n =
    let e : suc q - suc p ≡ q - p = omega arith in
    subst (λ (z : ℕ). In (get_or w z 0) (get_or (carried p w ps) q [])) (sym e) (carried-has p w ps q (omega arith) (omega arith) (omega arith))

-- the byte at p is among the possible ones there
among-at : (f : ℕ → ℕ) (n from : ℕ) (ps : List (List ℕ)) → Among (map f (range from n)) ps → (p q : ℕ) → p < n → q ≡ from + p → In (f q) (get_or ps p []) × (p < length ps)
unfolding range
among-at f zero from ps a p q u e = absurd (omega arith)
among-at f (suc n) from [] a p q u e = absurd a
among-at f (suc n) from (x ∷ ps) a zero q u e = let z : from ≡ q = omega arith in (subst (λ (y : ℕ). In (f y) x) z a.0, omega arith)
among-at f (suc n) from (x ∷ ps) a (suc p) q u e =
    let r = among-at f n (suc from) ps a.1 p q (omega arith) (omega arith) in (r.0, omega (arith, r.1))

byte-possible : (s : ℕ → Contents) (w : Written) (x : Extent) → FileAgrees s w x → (p : ℕ) → p < x.long → In (byte_at s x p) (possible_at w p) × (p < length w.possible)
unfolding bytes_of
byte-possible s w x a p u = among-at (byte_at s x) x.long 0 w.possible a.1 p p u (omega arith)

named-agrees : (s : ℕ → Contents) (l : Ledger) {e : Entry Key} {x : Extent} {ns : List (Entry Key)} {xs : List Extent} → FilesAgree s l ns xs → Named e x ns xs → FileAgrees s (file_by l e) x
named-agrees s l a here = a.0
named-agrees s l a (later p) = named-agrees s l a.1 p

pub writing-harmless : WritingHarmless
writing-harmless l r w size s c e x i b g = data-harmless l' size s c e x i b g.agrees g.named g.past g.inside byte
  where
    l' : Ledger
    l' = breaks l (Write r w)

    n₀ : ℕ
    n₀ = (slot_of l r.slot).file

    file : Written
    file = record { bytes = (file_of l r.slot).bytes; closed = (file_of l r.slot).closed; possible = carried (from l r) w (file_of l r.slot).possible }

    is : file_by (breaks l (Write r w)) e ≡ file
    is = ap (λ (z : ℕ). get_or (set l.files n₀ file) z no_file) g.file ∙ get_or-set_same l.files n₀ file no_file (subst (λ (z : ℕ). z < length l.files) g.file g.known)

    a : FileAgrees s (file_by (breaks l (Write r w)) e) x
    a = named-agrees s l' g.agrees.files g.named

    byte : (p : ℕ) → p < x.long → (place p).0 ≡ i → In (get_or b (place p).1 0) (possible_at (file_by (breaks l (Write r w)) e) p)
    byte p u v = by (cases_lt p (from l r)) (cases_lt p (from l r + length w))
      where
        had : In (byte_at s x p) (possible_at (file_by (breaks l (Write r w)) e) p) × (p < length (file_by (breaks l (Write r w)) e).possible)
        had = byte-possible s (file_by (breaks l (Write r w)) e) x a p u

        stays : (p < from l r) ⊎ (from l r + length w ≤ p) → In (get_or b (place p).1 0) (possible_at (file_by (breaks l (Write r w)) e) p)
        stays o = subst (λ (z : ℕ). In z (possible_at (file_by (breaks l (Write r w)) e) p)) (sym (g.old p u v o)) had.0

        by : (p < from l r) ⊎ (from l r ≤ p) → (p < from l r + length w) ⊎ (from l r + length w ≤ p) → In (get_or b (place p).1 0) (possible_at (file_by (breaks l (Write r w)) e) p)
        by (inl o) y = stays (inl o)
        by (inr o) (inr y) = stays (inr y)
        by (inr o) (inl y) =
            let n : p < length (carried (from l r) w (file_of l r.slot).possible) = subst (λ (z : Written). p < length z.possible) is had.1 in
            subst (λ (z : ℕ). In z (possible_at (file_by (breaks l (Write r w)) e) p)) (sym (g.new p u v o y))
            (subst (λ (z : Written). In (get_or w (p - from l r) 0) (possible_at z p)) (sym is)
            (carried-has (from l r) w (file_of l r.slot).possible p o y (subst (λ (z : ℕ). p < z) (carried-long (from l r) w (file_of l r.slot).possible) n)))

-- one or the other in the place of a file
grows_sets : (fs : List Written) (n i : ℕ) (w w' : Written) → Grows w w' → Grows (get_or (set fs n w) i no_file) (get_or (set fs n w') i no_file)
grows_sets [] n i w w' g = grows no_file
grows_sets (f ∷ fs) zero zero w w' g = g
grows_sets (f ∷ fs) zero (suc i) w w' g = grows (get_or fs i no_file)
grows_sets (f ∷ fs) (suc n) zero w w' g = grows f
grows_sets (f ∷ fs) (suc n) (suc i) w w' g = grows_sets fs n i w w' g

pub wrote-wider : WroteWider
wrote-wider l r w s = record {
  names = refl;
  files = λ e i. grows_sets l.files (slot_of l r.slot).file e.1 _ _ (record { closed = refl; long = refl; possible = λ p b j. j });
}
