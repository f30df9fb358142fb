-- What agrees with a ledger still does where the contents and the possible bytes move together.
use Rattle.std.proofs.Common.{◌≡◌, ℕ, zero, suc, ◌+◌, ◌*◌, ◌<◌, ◌≤◌, ◌⊎◌, List, [], ◌∷◌, ◌++◌, map, length, get_or, take, sym, refl, ap, ◌∙◌, subst, inl, inr, arith}
use Rattle.numbers.specs.Lengths.{place, header_size, near_sectors, table_sectors, last_sector}
use Rattle.numbers.specs.Names.{Key}
use Rattle.layout.specs.Words.{word_size, word}
use Rattle.tree.specs.Tree.{Entry}
use Rattle.disk.specs.Meaning.{Contents, In}
use Rattle.catalog.specs.Catalogs.{Extent, Catalog, entries, page_sectors, file_sectors, range, byte_at, bytes_of}
use Rattle.catalog.specs.Lays.{FileAt, FilesAt, Lays}
use Rattle.catalog.specs.Laws.{SameRead, Named, here, later}
use Rattle.catalog.proofs.File.{tables-over}
use Rattle.catalog.proofs.Frame.{frame, in_left, in_right}
use Rattle.promise.specs.Ledger.{Written, Ledger, file_by, possible_at, mended, never}
use Rattle.promise.specs.Promise.{Among, FileAgrees, FilesAgree, Agrees, name_of}
use Rattle.recovery.specs.Picks.{Picks, with_sector, SteadyRecoverable, AgreesFrame, SettledSteady}
use Rattle.recovery.specs.Steps.{Over}
use Rattle.recovery.specs.Wider.{Grows, Wider, WiderSteady}
use Rattle.recovery.specs.Harmless.{sector_of, Harmless, PutSteady, LocalSteady}
use Rattle.recovery.proofs.Lists.{get_or-in, parts_in, tabs_in, entry_in, file_in}
use Rattle.recovery.proofs.Steps.{sector-here, sector-apart, one-or, one-put}

-- BYTES
among-move : (f g : ℕ → ℕ) (n from : ℕ) (ps qs : List (List ℕ)) → length qs ≡ length ps →
    ((p q : ℕ) → p < n → q ≡ from + p → In (f q) (get_or ps p []) → In (g q) (get_or qs p [])) → Among (map f (range from n)) ps → Among (map g (range from n)) qs
unfolding range
among-move f g zero from [] [] e h a = tt
among-move f g zero from [] (q ∷ qs) e h a = absurd (omega arith)
among-move f g zero from (p ∷ ps) qs e h a = absurd a
among-move f g (suc n) from [] qs e h a = absurd a
among-move f g (suc n) from (p ∷ ps) [] e h a = absurd (omega arith)
among-move f g (suc n) from (p ∷ ps) (q ∷ qs) e h a = (
  h zero from (omega arith) (omega arith) a.0,
  among-move f g n (suc from) ps qs (omega arith) (λ i j l k. h (suc i) j (omega arith) (omega arith)) a.1,
)

pub file-move : (s s' : ℕ → Contents) (w w' : Written) (x : Extent) → w'.closed ≡ w.closed → length w'.possible ≡ length w.possible →
    ((p : ℕ) → p < x.long → In (byte_at s x p) (possible_at w p) → In (byte_at s' x p) (possible_at w' p)) → FileAgrees s w x → FileAgrees s' w' x
unfolding bytes_of
file-move s s' w w' x e k h a = (
  a.0 ∙ sym e,
  among-move (byte_at s x) (byte_at s' x) x.long 0 w.possible w'.possible k
      (λ p q l j. let z : p ≡ q = omega arith in
      subst (λ (y : ℕ). In (byte_at s x y) (possible_at w p) → In (byte_at s' x y) (possible_at w' p)) z (h p l)) a.1,
)

pub files-move : (s s' : ℕ → Contents) (l l' : Ledger) (ns : List (Entry Key)) (xs : List Extent) →
    ((e : Entry Key) (x : Extent) → Named e x ns xs → FileAgrees s (file_by l e) x → FileAgrees s' (file_by l' e) x) → FilesAgree s l ns xs → FilesAgree s' l' ns xs
files-move s s' l l' [] [] h a = tt
files-move s s' l l' [] (x ∷ xs) h a = a
files-move s s' l l' (n ∷ ns) [] h a = a
files-move s s' l l' (n ∷ ns) (x ∷ xs) h a = (h n x here a.0, files-move s s' l l' ns xs (λ e y p. h e y (later p)) a.1)

-- from l at s to l' at s'
pub agrees-move : (l l' : Ledger) (size : ℕ) (s s' : ℕ → Contents) (c : Catalog) → Wider l l' → SameRead c s s' →
    ((e : Entry Key) (x : Extent) → Named e x l.names c.files → (p : ℕ) → p < x.long → In (byte_at s x p) (possible_at (file_by l e) p) → In (byte_at s' x p) (possible_at (file_by l' e) p)) →
    Agrees l size s c → Agrees l' size s' c
agrees-move l l' size s s' c w r h a = record {
  lays = frame size s s' c r a.lays;
  names = a.names ∙ ap (λ (z : List (Entry Key)). map name_of z) (sym w.names);
  files = subst (λ (z : List (Entry Key)). FilesAgree s' l' z c.files) (sym w.names) (files-move s s' l l' l.names c.files
      (λ e x p. let i = w.files e (entry_in p) in file-move s s' (file_by l e) (file_by l' e) x i.closed i.long (h e x p)) a.files);
}

same_read : (c : Catalog) (s : ℕ → Contents) → SameRead c s s
same_read c s = record { pages = λ t i. refl; heads = λ x i. refl; tabs = λ x i k j l m. refl }

pub grows : (w : Written) → Grows w w
grows w = record { closed = refl; long = refl; possible = λ p b i. i }

pub wider : (l : Ledger) → Wider l l
wider l = record { names = refl; files = λ e i. grows (file_by l e) }

pub wider-agrees : (l l' : Ledger) (size : ℕ) (s : ℕ → Contents) (c : Catalog) → Wider l l' → Agrees l size s c → Agrees l' size s c
wider-agrees l l' size s c w = agrees-move l l' size s s c w (same_read c s) (λ e x p q i. (w.files e (entry_in p)).possible q (byte_at s x q))

pub wider-steady : WiderSteady
wider-steady l l' c m w h s p = wider-agrees l l' m.size s c w (h s p)

pub steady-recoverable : SteadyRecoverable
steady-recoverable l c m h s p = record {
  counted = mended l;
  resolves = never;
  catalog = c;
  agrees = wider-agrees l (mended l) m.size s c (record { names = refl; files = λ e i. grows (file_by l e) }) (h s p);
}

-- WHERE A FILE'S SECTORS ARE
file-at : (s : ℕ → Contents) (es : List (Entry Key)) (xs : List Extent) → FilesAt s es xs → (x : Extent) → In x xs → (t : ℕ) × FileAt s t x
file-at s [] [] h x i = absurd i
file-at s [] (y ∷ xs) h x i = absurd h
file-at s (e ∷ es) [] h x i = absurd h
file-at s (e ∷ es) (y ∷ xs) h x (inl p) = (e.1, subst (λ (z : Extent). FileAt s e.1 z) (sym p) h.0)
file-at s (e ∷ es) (y ∷ xs) h x (inr i) = file-at s es xs h.1 x i

module _ (size : ℕ) (s : ℕ → Contents) (c : Catalog) (h : Lays size s c) where
  pub laid : (x : Extent) → In x c.files → (t : ℕ) × FileAt s t x
  laid x i = file-at s (entries c) c.files h.files x i

  pub head_in : (x : Extent) → In x c.files → In (get_or x.parts 0 0) x.parts
  head_in x i = let f = (laid x i).1 in get_or-in x.parts 0 0 (omega (arith, f.reaches.parts))

  pub part-below : (x : Extent) → In x c.files → (p : ℕ) → p < x.long → (place p).0 < length x.parts
  part-below x i p l = let f = (laid x i).1 in omega (arith, f.reaches.parts)

  pub byte_in : (x : Extent) → In x c.files → (p : ℕ) → p < x.long → In (sector_of x p) x.parts
  byte_in x i p l = get_or-in x.parts (place p).0 0 (part-below x i p l)

  pub tab-below : (x : Extent) → In x c.files → (k j : ℕ) → j < table_sectors → near_sectors + table_sectors * k + j < length x.parts → k < length x.tabs
  tab-below x i k j l m =
      let f = (laid x i).1 in
      let b : 64 + 256 * k ≤ last_sector x.long = omega (arith, f.reaches.parts) in
      rw f.reaches.tabs (tables-over (last_sector x.long) k b)

  pub tab_in : (x : Extent) → In x c.files → (k j : ℕ) → j < table_sectors → near_sectors + table_sectors * k + j < length x.parts → In (get_or x.tabs k 0) x.tabs
  tab_in x i k j l m = get_or-in x.tabs k 0 (tab-below x i k j l m)

  pub part-all : (x : Extent) (t : ℕ) → In x c.files → In t x.parts → In t (page_sectors c ++ file_sectors c)
  part-all x t i j = in_right t (page_sectors c) (file_sectors c) (parts_in x c.files t i j)

  pub tab-all : (x : Extent) (t : ℕ) → In x c.files → In t x.tabs → In t (page_sectors c ++ file_sectors c)
  tab-all x t i j = in_right t (page_sectors c) (file_sectors c) (tabs_in x c.files t i j)

pub agrees-frame : AgreesFrame
agrees-frame l size s s' c e a =
    let h = a.lays in
    agrees-move l l size s s' c (wider l)
    (record {
      pages = λ t i. e t (in_left t (page_sectors c) (file_sectors c) i);
      heads = λ x i. ap (λ (z : Contents). take header_size z) (e (get_or x.parts 0 0) (part-all size s c h x _ i (head_in size s c h x i)));
      tabs = λ x i k j l m. ap (λ (z : Contents). word z (word_size * j)) (e (get_or x.tabs k 0) (tab-all size s c h x _ i (tab_in size s c h x i k j l m)));
    })
    (λ n x p q k i. let y = file_in p in
    subst (λ (z : Contents). In (get_or z (place q).1 0) (possible_at (file_by l n) q)) (sym (e (sector_of x q) (part-all size s c h x _ y (byte_in size s c h x y q k)))) i) a

pub agrees-below : (l : Ledger) (size : ℕ) (s s' : ℕ → Contents) (c : Catalog) → ((n : ℕ) → n < size → s' n ≡ s n) → Agrees l size s c → Agrees l size s' c
agrees-below l size s s' c e a = agrees-frame l size s s' c (λ n i. e n (a.lays.within n i).1) a

pub settled-steady : SettledSteady
settled-steady l c m d a s p = agrees-below l m.size m.shown s c (λ n i. d n (s n) i (p n i)) a

-- A PUT THAT HARMS NOTHING
put-agrees : (l l' : Ledger) (size : ℕ) (s : ℕ → Contents) (c : Catalog) (k : ℕ) (b : Contents) → Wider l l' → Harmless l' c k b → Agrees l size s c → Agrees l' size (with_sector s k b) c
put-agrees l l' size s c k b w n a =
    agrees-move l l' size s (with_sector s k b) c w
    (record {
      pages = λ t i. sector-apart s k b t (λ e. n.page (subst (λ (z : ℕ). In z (page_sectors c)) e i));
      heads = λ x i. ap (λ (z : Contents). take header_size z) (sector-apart s k b (get_or x.parts 0 0) (n.head x i));
      tabs = table;
    })
    byte a
  where
    table : (x : Extent) → In x c.files → (i j : ℕ) → j < table_sectors → near_sectors + table_sectors * i + j < length x.parts →
        word (with_sector s k b (get_or x.tabs i 0)) (word_size * j) ≡ word (s (get_or x.tabs i 0)) (word_size * j)
    table x q i j u v = elim (one-or (get_or x.tabs i 0) k) [
      | inl e ↦ ap (λ (z : Contents). word z (word_size * j)) (sector-here s k b (get_or x.tabs i 0) e) ∙ (n.table x q i j u v e ∙ sym ((laid size s c a.lays x q).1.reaches.far i j u v))
      | inr e ↦ ap (λ (z : Contents). word z (word_size * j)) (sector-apart s k b (get_or x.tabs i 0) e)
    ]

    byte : (e : Entry Key) (x : Extent) → Named e x l.names c.files → (p : ℕ) → p < x.long → In (byte_at s x p) (possible_at (file_by l e) p) → In (byte_at (with_sector s k b) x p) (possible_at (file_by l' e) p)
    byte e x q p u i = elim (one-or (sector_of x p) k) [
      | inl z ↦ subst (λ (y : Contents). In (get_or y (place p).1 0) (possible_at (file_by l' e) p)) (sym (sector-here s k b (sector_of x p) z))
          (n.bytes e x (subst (λ (y : List (Entry Key)). Named e x y c.files) (sym w.names) q) p u z)
      | inr z ↦ subst (λ (y : Contents). In (get_or y (place p).1 0) (possible_at (file_by l' e) p)) (sym (sector-apart s k b (sector_of x p) z))
          ((w.files e (entry_in q)).possible p (byte_at s x p) i)
    ]

pub put-steady : PutSteady
put-steady l l' c m m' k b f d w n h s p = subst (λ (y : ℕ). Agrees l' y s c) (sym d.size) (by (one-put m m' k b f d s p))
  where
    by : Picks m s ⊎ Over m k b s → Agrees l' m.size s c
    by (inl q) = wider-agrees l l' m.size s c w (h s q)
    by (inr o) = subst (λ (y : ℕ → Contents). Agrees l' m.size y c) (sym o.is) (put-agrees l l' m.size o.old c k b w n (h o.old o.picks))

-- SECTOR BY SECTOR
pub local-steady : LocalSteady
local-steady l c m h s p =
    let a = h.shown in
    let y = a.lays in
    let n = m.size in
    agrees-move l l m.size m.shown s c (wider l)
    (record {
      pages = λ t i. h.pages t i (s t) (p t (y.within t (in_left t (page_sectors c) (file_sectors c) i)).1);
      heads = λ x i. h.heads x i (s (get_or x.parts 0 0)) (p _ (y.within _ (part-all n m.shown c y x _ i (head_in n m.shown c y x i))).1);
      tabs = λ x i k j u v. h.tables x i k j u v (s (get_or x.tabs k 0)) (p _ (y.within _ (tab-all n m.shown c y x _ i (tab_in n m.shown c y x i k j u v))).1);
    })
    (λ e x q k u i. let xi = file_in q in
    h.bytes e x q k u (s (sector_of x k)) (p _ (y.within _ (part-all n m.shown c y x _ xi (byte_in n m.shown c y x xi k u))).1)) a
