-- What Delete, Register and Close owe at the Put that turns, told of what they hold: the rest follows.
use Rattle.std.specs.Prelude.{◌≡◌, ℕ, zero, suc, ◌<◌, ◌≤◌, Bool, true, false, ◌⊎◌, List, [], ◌∷◌, ◌++◌, map, length, Some, None, ◌≢◌, slice_index_or, slice_set}
use Rattle.numbers.specs.Names.{Key, good_name}
use Rattle.numbers.specs.Order.{cmp}
use Rattle.tree.specs.Tree.{Entry, pick, Good}
use Rattle.tree.specs.Laws.{put, without}
use Rattle.disk.specs.Meaning.{Contents, Meaning, In}
use Rattle.disk.specs.Rules.{Settled}
use Rattle.catalog.specs.Catalogs.{Extent, Catalog, plain_tree, entries, page_sectors, file_sectors, extents_sectors, bytes_of, Distinct}
use Rattle.catalog.specs.Lays.{LaidAt, FileAt, root_sector}
use Rattle.promise.specs.Table.{Slot, Anonymous, Table, Delete, Register, Close, first, before, Proper}
use Rattle.promise.specs.Together.{Together}
use Rattle.promise.specs.Ledger.{Ledger, slot_of, file_of, Sane}
use Rattle.promise.specs.Promise.{name_of}
use Rattle.recovery.specs.Picks.{Picks, with_sector, Steady}
use Rattle.recovery.specs.Turning.{Turning}

-- LISTS BY PLACE. All but the one at i; x put before the one at i, or (true) in its place
abbrev pub but : {A : Type 0} → ℕ → List A → List A
but i [] = []
but zero (x ∷ xs) = xs
but (suc i) (x ∷ xs) = x ∷ but i xs

abbrev pub placed : {A : Type 0} → Bool → ℕ → A → List A → List A
placed true i x xs = slice_set xs i x
placed false zero x xs = x ∷ xs
placed false (suc i) x [] = x ∷ []
placed false (suc i) x (y ∷ xs) = y ∷ placed false i x xs

-- where a name is taken out of rising names, past their end if nowhere; and where one is put, with true where it is there already
abbrev pub without_at : Key → List Key → ℕ
without_at n [] = 0
without_at n (k ∷ ks) = pick (cmp n k) (suc (length ks)) 0 (suc (without_at n ks))

abbrev pub put_at : Key → List Key → Bool × ℕ
put_at n [] = (false, 0)
put_at n (k ∷ ks) = pick (cmp n k) (false, 0) (true, 0) ((put_at n ks).0, suc (put_at n ks).1)

-- the names of a catalog
abbrev pub names_of : Catalog → List Key
names_of c = map name_of (entries c)

-- BEFORE THE PUT the disk is settled, with the catalog c
pub record Before (l : Ledger) (c : Catalog) (m : Meaning) : Type 0 where
  pub shows : Picks m m.shown
  pub settled : Settled m
  pub steady : Steady l c m

-- a file's own sectors: distinct, on the disk, and used for nothing else
pub record Owned (x : Extent) (size : ℕ) (others : List ℕ) : Type 0 where
  pub distinct : Distinct (x.parts ++ x.tabs)
  pub inside : (t : ℕ) → In t x.parts ⊎ In t x.tabs → (1 ≤ t) × (t < size)
  pub apart : (t : ℕ) → In t x.parts ⊎ In t x.tabs → In t others → ⊥

-- the pages of the directory d are laid in s, beside the sectors of files
pub record Directory (d : Catalog) (s : ℕ → Contents) (size : ℕ) (others : List ℕ) : Type 0 where
  pub root : d.root.0 ≡ root_sector
  pub good : Good cmp (plain_tree d)
  pub pages : LaidAt s (suc d.over) d.root
  pub distinct : Distinct (page_sectors d)
  pub inside : (t : ℕ) → In t (page_sectors d) → (1 ≤ t) × (t < size)
  pub apart : (t : ℕ) → In t (page_sectors d) → In t others → ⊥

-- DELETE of the name n puts the root page b of the directory without it
pub record DeleteOwes (l : Ledger) (n : Key) (m : Meaning) (c d : Catalog) (b : Contents) : Type 0 where
  pub before : Before l c m
  pub directory : Directory d (with_sector m.shown root_sector b) m.size (file_sectors c)
  pub names : entries d ≡ without cmp n (entries c)
  pub files : d.files ≡ but (without_at n (names_of c)) c.files

abbrev pub DeleteTurns : Type 0
DeleteTurns = (l : Ledger) (n : Key) (m : Meaning) (c d : Catalog) (b : Contents) → DeleteOwes l n m c d b → Turning l (Delete n) c d m root_sector b

-- REGISTER of the slot h, whose file x begins in the sector k, puts the root page b of the directory with its name
pub record RegisterOwes (l : Ledger) (h : ℕ) (m : Meaning) (c d : Catalog) (x : Extent) (k : ℕ) (b : Contents) : Type 0 where
  pub before : Before l c m
  pub directory : Directory d (with_sector m.shown root_sector b) m.size (file_sectors c)
  pub names : entries d ≡ put cmp ((slot_of l h).name, k) (entries c)
  pub files : d.files ≡ placed (put_at (slot_of l h).name (names_of c)).0 (put_at (slot_of l h).name (names_of c)).1 x c.files
  pub name : good_name (slot_of l h).name ≡ true
  pub laid : FileAt (with_sector m.shown root_sector b) k x
  pub bytes : bytes_of (with_sector m.shown root_sector b) x ≡ (file_of l h).bytes
  pub owned : Owned x m.size (page_sectors d ++ file_sectors c)
  -- the ledger knows the file, and no name leads to it
  pub known : (slot_of l h).file < length l.files
  pub alone : (e : Entry Key) → In e l.names → e.1 ≢ (slot_of l h).file

abbrev pub RegisterTurns : Type 0
RegisterTurns = (l : Ledger) (h : ℕ) (m : Meaning) (c d : Catalog) (x : Extent) (k : ℕ) (b : Contents) → RegisterOwes l h m c d x k b → Turning l (Register h) c d m root_sector b

-- CLOSE of the slot h, whose file has the name at i and becomes x, puts its first sector b to k
abbrev pub no_entry : Entry Key
no_entry = ([], 0)

abbrev pub no_extent : Extent
no_extent = record { long = 0; parts = []; tabs = [] }

abbrev pub with_extent : ℕ → Extent → Catalog → Catalog
with_extent i x c = record { over = c.over; root = c.root; files = slice_set c.files i x }

pub record CloseOwes (l : Ledger) (h i : ℕ) (m : Meaning) (c : Catalog) (x : Extent) (k : ℕ) (b : Contents) : Type 0 where
  pub before : Before l c m
  pub here : i < length c.files
  pub first : slice_index_or (slice_index_or c.files i no_extent).parts 0 0 ≡ k
  pub laid : FileAt (with_sector m.shown k b) k x
  pub bytes : bytes_of (with_sector m.shown k b) x ≡ (file_of l h).bytes
  pub owned : Owned x m.size (page_sectors c ++ extents_sectors (but i c.files))
  -- the ledger knows the file, and the name at i leads to it and no other
  pub known : (slot_of l h).file < length l.files
  pub named : (slice_index_or l.names i no_entry).1 ≡ (slot_of l h).file
  pub alone : (e : Entry Key) → In e (but i l.names) → e.1 ≢ (slot_of l h).file

abbrev pub CloseTurns : Type 0
CloseTurns = (l : Ledger) (h i : ℕ) (m : Meaning) (c : Catalog) (x : Extent) (k : ℕ) (b : Contents) → CloseOwes l h i m c x k b → Turning l (Close h) c (with_extent i x c) m k b

-- what is owed of the ledger alone holds of every ledger of a run
pub record SaneGives : Type 0 where
  pub known : (l : Ledger) (h : ℕ) (x : Slot) → Sane l → slice_index_or l.slots h None ≡ Some x → (slot_of l h).file < length l.files
  pub close_alone : (l : Ledger) (h i : ℕ) → Sane l → i < length l.names → (slice_index_or l.names i no_entry).1 ≡ (slot_of l h).file →
      (e : Entry Key) → In e (but i l.names) → e.1 ≢ (slot_of l h).file
  pub register_alone : (l : Ledger) (h : ℕ) (x : Slot) → Sane l → slice_index_or l.slots h None ≡ Some x → x.sort ≡ Anonymous →
      (e : Entry Key) → In e l.names → e.1 ≢ (slot_of l h).file

-- and what Register owes of its slot's name is granted by its questions
abbrev pub RegisterNamed : Type 0
RegisterNamed = (t : Table) (l : Ledger) (h : ℕ) → Proper t → Together t l → first (before t (Register h)) ≡ None → good_name (slot_of l h).name ≡ true
