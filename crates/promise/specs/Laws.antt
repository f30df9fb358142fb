-- What holds of the table, of the ledger, and of the two together.
use Rattle.std.specs.Prelude.{◌≡◌, ℕ, ◌+◌, ◌<◌, ◌≤◌, true, false, List, [], ◌++◌, map, length, get_or, Some, None, slice_index, slice_index_or}
use Rattle.numbers.specs.Names.{Key}
use Rattle.tree.specs.Tree.{Entry, to_list}
use Rattle.disk.specs.Meaning.{Contents, In}
use Rattle.catalog.specs.Catalogs.{Extent, Catalog, page_sectors, file_sectors, bytes_of}
use Rattle.catalog.specs.Laws.{Sized}
use Rattle.promise.specs.declared.fault.FileFault.{FileFault}
use Rattle.promise.specs.Faults.{is_three}
use Rattle.promise.specs.Table.{Slot, Table, Call, Answer, No, slot_at, first, before, behind, plain, waits, Turn, Format, Start, formatted, started, no_slots, Proper}
use Rattle.promise.specs.Ledger.{Ledger, blank, numbered, file_by, follow, wiping, Resolves, restarted, Sane}
use Rattle.promise.specs.Promise.{View, name_of, Agrees}
use Rattle.promise.specs.Calls.{Holds, says_three}
use Rattle.promise.specs.Together.{Together, taken, freed}

-- THE TABLE. Every call keeps it proper, whatever it answers
pub record StaysProper : Type 0 where
  pub turns : (t t' : Table) (c : Call) (a : Answer) → Proper t → Turn t c a t' → Proper t'
  pub formats : (size : ℕ) (t t' : Table) (a : Answer) → Proper t → Format size t a t' → Proper t'
  pub starts : (size : ℕ) (shown : ℕ → Contents) (t t' : Table) (a : Answer) → Sized size shown → Proper t → Start size shown t a t' → Proper t'

-- an accepted call takes no more than is free, and the free sectors are what they were, less those taken, and those set free
abbrev pub Accounts : Type 0
Accounts = (t : Table) (s : ℕ) (c : Call) → Proper t → first (before t c ++ behind t c) ≡ None →
    (taken t c ≤ t.free) × ((plain t s c).1.free + taken t c ≡ t.free + freed t c)

-- REFUSALS. Any but a 3 changes neither table nor ledger; after a 3 the table is the same, and waits
pub record Refusals : Type 0 where
  pub table : (t t' : Table) (c : Call) (r : FileFault) → Turn t c (No r) t' → is_three r ≡ false → t' ≡ t
  pub ledger : (l : Ledger) (c : Call) (r : FileFault) → is_three r ≡ false → follow l c (No r) ≡ l
  pub three : (t t' : Table) (c : Call) (a : Answer) → Turn t c a t' → says_three a ≡ true → t' ≡ waits t

-- THE LEDGER of a run stays as it should be: names rise, possible bytes have the file's own, and so on
pub record StaysSane : Type 0 where
  pub begins : Sane blank
  pub turns : (t t' : Table) (l : Ledger) (c : Call) (a : Answer) → Proper t → Together t l → Sane l → Turn t c a t' → Sane (follow l c a)
  pub wipes : (l : Ledger) → Sane l → Sane (wiping l)
  pub resolves : (l l' : Ledger) → Sane l → Resolves l l' → Sane l'
  pub restarts : (l : Ledger) (size : ℕ) (shown : ℕ → Contents) (c : Catalog) → Sane l → Agrees l size shown c → Sane (restarted l (map (bytes_of shown) c.files))

-- an accepted Start forgets exactly slots and files without a name
pub record Forgets (l : Ledger) (found : List (List ℕ)) : Type 0 where
  pub names : map name_of (restarted l found).names ≡ map name_of l.names
  pub files : length (restarted l found).files ≡ length l.names
  pub slots : (restarted l found).slots ≡ no_slots
  -- the name at i has file i: its closed length and possible bytes are kept, its bytes are those found
  pub number : (i : ℕ) (d : Entry Key) → i < length l.names → (get_or (restarted l found).names i d).1 ≡ i
  pub closed : (i : ℕ) (d : Entry Key) → i < length l.names → (numbered (restarted l found) i).closed ≡ (file_by l (slice_index_or l.names i d)).closed
  pub possible : (i : ℕ) (d : Entry Key) → i < length l.names → (numbered (restarted l found) i).possible ≡ (file_by l (slice_index_or l.names i d)).possible
  pub bytes : (i : ℕ) → i < length l.names → (numbered (restarted l found) i).bytes ≡ slice_index_or found i []

abbrev pub RestartForgets : Type 0
RestartForgets = (l : Ledger) (found : List (List ℕ)) → Forgets l found

-- TABLE AND LEDGER GO TOGETHER, from Format on, through every call, and after an accepted Start
pub record StayTogether : Type 0 where
  pub formats : (size : ℕ) → Together (formatted size) blank
  pub turns : (t t' : Table) (l : Ledger) (c : Call) (a : Answer) → Proper t → Sane l → Together t l → Turn t c a t' → Together t' (follow l c a)
  pub starts : (l : Ledger) (size : ℕ) (shown : ℕ → Contents) (c : Catalog) → Sane l → Agrees l size shown c → Together (started size shown c) (restarted l (map (bytes_of shown) c.files))

-- ONE STORE HOLDS ONE TABLE, as far as anything of it can be seen. Left free: the closed length of a file without a name, and files that
-- neither a name leads to nor a slot holds
pub record Alike (t t' : Table) : Type 0 where
  pub ready : t.ready ≡ t'.ready
  pub tree : t.tree ≡ t'.tree
  pub slots : t.slots ≡ t'.slots
  pub free : t.free ≡ t'.free
  pub named : (e : Entry Key) → In e (to_list t.tree) → ((t.files e.1).bytes ≡ (t'.files e.1).bytes) × ((t.files e.1).closed ≡ (t'.files e.1).closed)
  pub held : (s : ℕ) (x : Slot) → slot_at t s ≡ Some x → (t.files x.file).bytes ≡ (t'.files x.file).bytes

abbrev pub HoldsOne : Type 0
HoldsOne = (v : View) (t t' : Table) → Sized v.disk.size v.disk.shown → Holds v t → Holds v t' → Alike t t'

-- MEMORY AND DISK. No free sector is laid down, and no page lies in a sector of an open file; what is laid down there is the same file
pub record Clear (v : View) (t : Table) (h : Holds v t) : Type 0 where
  pub free : (s : ℕ) → In s v.free → In s (page_sectors h.catalog ++ file_sectors h.catalog) → ⊥
  pub pages : (y : Extent) (s : ℕ) → In y h.extents → In s (y.parts ++ y.tabs) → In s (page_sectors h.catalog) → ⊥
  pub files : (x y : Extent) (s : ℕ) → In x h.catalog.files → In y h.extents → In s (x.parts ++ x.tabs) → In s (y.parts ++ y.tabs) → slice_index x.parts 0 ≡ slice_index y.parts 0

abbrev pub HoldsClear : Type 0
HoldsClear = (v : View) (t : Table) (h : Holds v t) → Clear v t h
