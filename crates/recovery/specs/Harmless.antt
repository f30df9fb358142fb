-- Puts that harm nothing of a catalog, and a steady disk told sector by sector.
use Rattle.std.specs.Prelude.{◌≡◌, ℕ, ◌+◌, ◌-◌, ◌*◌, ◌<◌, ◌≤◌, ◌⊎◌, List, ◌++◌, length, take, ◌≢◌, slice_index}
use Rattle.numbers.specs.Names.{Key}
use Rattle.numbers.specs.Lengths.{place, header_size, near_sectors, table_sectors}
use Rattle.numbers.specs.Sectors.{address}
use Rattle.layout.specs.Words.{word_size, word}
use Rattle.tree.specs.Tree.{Entry}
use Rattle.disk.specs.Meaning.{Contents, Meaning, In}
use Rattle.catalog.specs.Catalogs.{Extent, Catalog, page_sectors, file_sectors}
use Rattle.catalog.specs.Lays.{Lays}
use Rattle.catalog.specs.Laws.{Named}
use Rattle.promise.specs.Table.{Rider, Write}
use Rattle.promise.specs.Ledger.{Ledger, file_by, possible_at, slot_of, from, counts, breaks}
use Rattle.promise.specs.Promise.{Agrees}
use Rattle.recovery.specs.Picks.{NonEmpty, Steady}
use Rattle.recovery.specs.Steps.{Plus}
use Rattle.recovery.specs.Wider.{Wider}

-- the sector that has byte p of a file
abbrev pub sector_of : Extent → ℕ → ℕ
sector_of x p = slice_index x.parts (place p).0

-- b in the sector k harms nothing of the catalog c: k is no page and no first sector; in an extension table the words in use are as
-- laid; in a file's other sectors the bytes below its closed length are possible ones
pub record Harmless (l : Ledger) (c : Catalog) (k : ℕ) (b : Contents) : Type 0 where
  pub page : In k (page_sectors c) → ⊥
  pub head : (x : Extent) → In x c.files → slice_index x.parts 0 ≢ k
  pub table : (x : Extent) → In x c.files → (i j : ℕ) → j < table_sectors → near_sectors + table_sectors * i + j < length x.parts → slice_index x.tabs i ≡ k →
      word b (word_size * j) ≡ address (slice_index x.parts (near_sectors + table_sectors * i + j))
  pub bytes : (e : Entry Key) (x : Extent) → Named e x l.names c.files → (p : ℕ) → p < x.long → sector_of x p ≡ k →
      In (slice_index b (place p).1) (possible_at (file_by l e) p)

-- a put that is harmless for a wider ledger leaves the disk steady for that one
abbrev pub PutSteady : Type 0
PutSteady = (l l' : Ledger) (c : Catalog) (m m' : Meaning) (k : ℕ) (b : Contents) → NonEmpty m → Plus k b m m' →
    Wider l l' → Harmless l' c k b → Steady l c m → Steady l' c m'

-- in a sector that is not the catalog's anything is harmless
abbrev pub OutsideHarmless : Type 0
OutsideHarmless = (l : Ledger) (size : ℕ) (s : ℕ → Contents) (c : Catalog) (k : ℕ) (b : Contents) → Lays size s c →
    (In k (page_sectors c ++ file_sectors c) → ⊥) → Harmless l c k b

-- in a sector past the first of a file with a name, possible bytes are
abbrev pub DataHarmless : Type 0
DataHarmless = (l : Ledger) (size : ℕ) (s : ℕ → Contents) (c : Catalog) (e : Entry Key) (x : Extent) (i : ℕ) (b : Contents) → Agrees l size s c →
    Named e x l.names c.files → 1 ≤ i → i < length x.parts →
    ((p : ℕ) → p < x.long → (place p).0 ≡ i → In (slice_index b (place p).1) (possible_at (file_by l e) p)) → Harmless l c (slice_index x.parts i) b

-- in an extension table, the words in use are
abbrev pub TableHarmless : Type 0
TableHarmless = (l : Ledger) (size : ℕ) (s : ℕ → Contents) (c : Catalog) (x : Extent) (i : ℕ) (b : Contents) → Agrees l size s c →
    In x c.files → i < length x.tabs →
    ((j : ℕ) → j < table_sectors → near_sectors + table_sectors * i + j < length x.parts → word b (word_size * j) ≡ address (slice_index x.parts (near_sectors + table_sectors * i + j))) →
    Harmless l c (slice_index x.tabs i) b

-- WRITE. b for file sector i of the file x with the entry e: below the closed length it has the bytes of w from the rider's place on, and
-- elsewhere what is shown. Through the whole call the ledger is that of an answer 3, which has the bytes of w among the possible ones
pub record Writing (l : Ledger) (r : Rider) (w : List ℕ) (size : ℕ) (s : ℕ → Contents) (c : Catalog) (e : Entry Key) (x : Extent) (i : ℕ) (b : Contents) : Type 0 where
  pub agrees : Agrees (breaks l (Write r w)) size s c
  pub named : Named e x l.names c.files
  pub file : e.1 ≡ (slot_of l r.slot).file
  pub known : e.1 < length l.files
  pub past : 1 ≤ i
  pub inside : i < length x.parts
  pub new : (p : ℕ) → p < x.long → (place p).0 ≡ i → from l r ≤ p → p < from l r + length w → slice_index b (place p).1 ≡ slice_index w (p - from l r)
  pub old : (p : ℕ) → p < x.long → (place p).0 ≡ i → (p < from l r) ⊎ (from l r + length w ≤ p) → slice_index b (place p).1 ≡ slice_index (s (sector_of x p)) (place p).1

abbrev pub WritingHarmless : Type 0
WritingHarmless = (l : Ledger) (r : Rider) (w : List ℕ) (size : ℕ) (s : ℕ → Contents) (c : Catalog) (e : Entry Key) (x : Extent) (i : ℕ) (b : Contents) →
    Writing l r w size s c e x i b → Harmless (breaks l (Write r w)) c (slice_index x.parts i) b

-- at its end the ledger is the one that has followed it, which is wider still
abbrev pub WroteWider : Type 0
WroteWider = (l : Ledger) (r : Rider) (w : List ℕ) (s : ℕ) → Wider (breaks l (Write r w)) (counts l s (Write r w))

-- SECTOR BY SECTOR. Of what a power stop may leave, a page is the one shown, a first sector begins alike, an extension table has the
-- words in use, and other sectors of files have possible bytes
pub record Local (l : Ledger) (c : Catalog) (m : Meaning) : Type 0 where
  pub shown : Agrees l m.size m.shown c
  pub pages : (k : ℕ) → In k (page_sectors c) → (y : Contents) → In y (m.may k) → y ≡ m.shown k
  pub heads : (x : Extent) → In x c.files → (y : Contents) → In y (m.may (slice_index x.parts 0)) → take header_size y ≡ take header_size (m.shown (slice_index x.parts 0))
  pub tables : (x : Extent) → In x c.files → (i j : ℕ) → j < table_sectors → near_sectors + table_sectors * i + j < length x.parts →
      (y : Contents) → In y (m.may (slice_index x.tabs i)) → word y (word_size * j) ≡ word (m.shown (slice_index x.tabs i)) (word_size * j)
  pub bytes : (e : Entry Key) (x : Extent) → Named e x l.names c.files → (p : ℕ) → p < x.long →
      (y : Contents) → In y (m.may (sector_of x p)) → In (slice_index y (place p).1) (possible_at (file_by l e) p)

abbrev pub LocalSteady : Type 0
LocalSteady = (l : Ledger) (c : Catalog) (m : Meaning) → Local l c m → Steady l c m
