-- What each public call promises of the store before it, v, its answer a, and the store after it, v'.
use Rattle.std.specs.Prelude.{◌≡◌, ℕ, zero, suc, ◌<◌, ◌≤◌, Bool, true, false, cond, ◌⊎◌, ◌↔◌, ◌≢◌, List, [], ◌∷◌, ◌++◌, map, length, take, is_some, Some, None, Option, ◌==◌, nat_lt, slice_index, slice_index_or}
use Rattle.numbers.specs.Names.{Key}
use Rattle.numbers.specs.Lengths.{header_size}
use Rattle.tree.specs.Tree.{Entry, page}
use Rattle.layout.specs.Headers.{header_bytes}
use Rattle.layout.specs.Pages.{page_bytes}
use Rattle.disk.specs.Meaning.{Contents, Meaning, In, Sound}
use Rattle.disk.specs.Rules.{Shows, Fewer, Settled}
use Rattle.catalog.specs.Catalogs.{Laid, Extent, Catalog, plain_tree, entries, page_sectors, extents_sectors, bytes_of, Distinct, member, outside}
use Rattle.catalog.specs.Lays.{Children, Reaches, Lays, root_sector}
use Rattle.catalog.specs.Questions.{good_size}
use Rattle.catalog.specs.Written.{page_data, header_of}
use Rattle.promise.specs.declared.fault.FileFault.{FileFault}
use Rattle.promise.specs.declared.fault.FileFault.TheVariants.{Waiting}
use Rattle.promise.specs.Faults.{is_three}
use Rattle.promise.specs.Asked.{fault_in}
use Rattle.promise.specs.Table.{File, Slot, Table, Call, New, Old, Delete, Set, Read, Write, Register, Close, Names, Answer, Done, Slotted, No, the_slot, slot_count, holder, changes, Turn, Format, Start, Proper}
use Rattle.promise.specs.Ledger.{Ledger, blank, follow, wiping, Resolves, restarted}
use Rattle.promise.specs.Promise.{Open, View, Agrees, Whole}

-- WHEN A STORE HOLDS A TABLE. What it sees: of an open file the first sector in memory, else the shown contents
abbrev pub seen_in : List (Option Open) → (ℕ → Contents) → ℕ → Contents
seen_in [] shown n = shown n
seen_in (None ∷ xs) shown n = seen_in xs shown n
seen_in (Some o ∷ xs) shown n = cond (o.slot.file == n) o.first (seen_in xs shown n)

abbrev pub seen : View → ℕ → Contents
seen v = seen_in v.slots v.disk.shown

abbrev pub slot_in : Option Open → Option Slot
slot_in None = None
slot_in (Some o) = Some o.slot

-- files with a name: the closed length is the one laid down; so are the bytes of one that no slot holds
abbrev pub NamedAs : (ℕ → Contents) → Table → List (Entry Key) → List Extent → Type 0
NamedAs shown t [] [] = Unit {0}
NamedAs shown t [] (x ∷ xs) = ⊥
NamedAs shown t (e ∷ es) [] = ⊥
NamedAs shown t (e ∷ es) (x ∷ xs) =
    ((t.files e.1).closed ≡ x.long) × (holder e.1 t.slots ≡ slot_count → (t.files e.1).bytes ≡ bytes_of shown x) × NamedAs shown t es xs

-- open files: the bytes seen from the first sector on
abbrev pub OpenAs : (ℕ → Contents) → Table → List (Option Open) → List Extent → Type 0
OpenAs shown t [] [] = Unit {0}
OpenAs shown t [] (x ∷ xs) = ⊥
OpenAs shown t (None ∷ os) xs = OpenAs shown t os xs
OpenAs shown t (Some o ∷ os) [] = ⊥
OpenAs shown t (Some o ∷ os) (x ∷ xs) =
    Reaches shown o.slot.file x × (x.long ≡ o.long) × ((t.files o.slot.file).bytes ≡ bytes_of shown x) × OpenAs shown t os xs

-- the extents of files that no slot holds
abbrev pub unopened : List (Option Slot) → List Extent → List Extent
unopened ss [] = []
unopened ss (x ∷ xs) = cond (nat_lt (holder (slice_index x.parts 0) ss) slot_count) (unopened ss xs) (x ∷ unopened ss xs)

-- the sectors in use: pages, files that no slot holds, open files
abbrev pub uses : Table → Catalog → List Extent → List ℕ
uses t c opened = page_sectors c ++ (extents_sectors (unopened t.slots c.files) ++ extents_sectors opened)

-- a file as it was laid down, and as it is open: it has grown at its end, if at all
abbrev pub Grown : Extent → Extent → Type 0
Grown x y = (take (length x.parts) y.parts ≡ x.parts) × (take (length x.tabs) y.tabs ≡ x.tabs)

-- a ready store holds t
pub record Holds (v : View) (t : Table) : Type 0 where
  pub size : good_size v.disk.size ≡ true
  pub ready : v.ready ≡ t.ready
  pub live : v.disk.live ≡ true
  pub slots : map slot_in v.slots ≡ t.slots
  pub free : length v.free ≡ t.free
  pub catalog : Catalog
  pub lays : Lays v.disk.size v.disk.shown catalog
  pub tree : plain_tree catalog ≡ t.tree
  pub named : NamedAs v.disk.shown t (entries catalog) catalog.files
  pub extents : List Extent
  pub open' : OpenAs (seen v) t v.slots extents
  pub grown : (x y : Extent) → In x catalog.files → In y extents → slice_index x.parts 0 ≡ slice_index y.parts 0 → Grown x y
  -- no sector has two uses
  pub apart : Distinct (v.free ++ uses t catalog extents)
  pub inside : (s : ℕ) → In s (v.free ++ extents_sectors extents) → (2 ≤ s) × (s < v.disk.size)
  pub proper : Proper t

-- is the answer a 3?
abbrev pub says_three : Answer → Bool
says_three a = is_some (fault_in a)

-- a 3 is answered just when a disk call was gone; a calm live disk gives none, and stays calm
pub record Answered (m : Meaning) (due : Type 0) (a : Answer) (m' : Meaning) : Type 0 where
  pub lost : (says_three a ≡ true) ↔ (m'.live ≡ false)
  pub accepts : m.calm ≡ true → due → says_three a ≡ false
  pub calm : m.calm ≡ true → m'.calm ≡ true
  pub size : m'.size ≡ m.size

-- WHAT IS PUT. The slot whose file a call closes
abbrev pub closes : Call → Option ℕ
closes (New n) = None
closes (Old n) = None
closes (Delete n) = None
closes (Set s p) = None
closes (Read r b) = None
closes (Write r b) = None
closes (Register s) = Some s
closes (Close s) = Some s
closes (Names rs) = None

-- the calls that put
abbrev pub puts : Call → Bool
puts (New n) = false
puts (Old n) = false
puts (Delete n) = true
puts (Set s p) = false
puts (Read r b) = false
puts (Write r b) = true
puts (Register s) = true
puts (Close s) = true
puts (Names rs) = false

-- a sector that nothing was put to
abbrev pub Unput : View → View → ℕ → Type 0
Unput v v' n = (v'.disk.shown n ≡ v.disk.shown n) × ((x : Contents) → In x (v'.disk.may n) → In x (v.disk.may n))

abbrev pub file_at : View → ℕ → ℕ
file_at v s = (the_slot (slot_in (slice_index_or v.slots s None))).file

-- a closed file on the disk: its first sector has its name, its length and its sectors, with date 0; and its bytes are there
pub record Head (o : Open) (f : File) (shown : ℕ → Contents) : Type 0 where
  pub extent : Extent
  pub long : extent.long ≡ o.long
  pub header : take header_size (shown o.slot.file) ≡ header_bytes (header_of o.slot.name extent)
  pub reaches : Reaches shown o.slot.file extent
  pub bytes : bytes_of shown extent ≡ f.bytes

-- pages of n levels, beside those in the sectors `old`: a page in one of these is not put, and any other is written whole upon zeros
abbrev pub PagesPut : List ℕ → (ℕ → Contents) → (ℕ → Contents) → (n : ℕ) → Laid n → Type 0
PagesPut old shown shown' zero t = Unit {0}
PagesPut old shown shown' (suc n) t =
    (shown' t.0 ≡ cond (member t.0 old) (shown t.0) (page_bytes (page_data n t.1))) × Children (PagesPut old shown shown' n) t.1

-- a directory: the root stays, or is written whole upon zeros
abbrev pub DirectoryPut : Catalog → (ℕ → Contents) → (ℕ → Contents) → Catalog → Type 0
DirectoryPut c shown shown' d =
    ((shown' root_sector ≡ shown root_sector) ⊎ (shown' root_sector ≡ page_bytes (page_data d.over d.root.1)))
    × Children (PagesPut (page_sectors c) shown shown' d.over) d.root.1

-- a call on a ready store that holds t, as h says
pub record Turned (v : View) (t : Table) (h : Holds v t) (c : Call) (a : Answer) (v' : View) : Type 0 where
  -- the equations: answer, buffers, rider and table
  pub table : Table
  pub turn : Turn t c a table
  pub ready : v'.ready ≡ table.ready
  pub holds : table.ready ≡ true → Holds v' table
  -- left free: which free sectors are taken, for files and for changed pages
  pub new : (n : Key) (s : ℕ) → c ≡ New n → a ≡ Slotted s → In (file_at v' s) v.free
  pub took : (h' : Holds v' table) (s : ℕ) → In s (uses table h'.catalog h'.extents) → In s v.free ⊎ In s (uses t h.catalog h.extents)
  -- facts: free sectors were free, or those of replaced pages
  pub freed : (h' : Holds v' table) (s : ℕ) → In s v'.free → In s v.free ⊎ In s (page_sectors h.catalog)
  -- 3 is answered just when a disk call was gone
  pub answered : Answered v.disk (v.disk.live ≡ true) a v'.disk
  -- any other no comes before the first Put
  pub unput : (r : FileFault) → a ≡ No r → is_three r ≡ false → Shows v.disk v'.disk × Fewer v.disk v'.disk
  -- Register, Close and Delete end settled; Register and Close put the first sector, with all that it leads to; no call puts another one's
  pub settled : a ≡ Done → Settled v'.disk
  pub head : (s : ℕ) (o : Open) → closes c ≡ Some s → slice_index_or v.slots s None ≡ Some o → a ≡ Done → Head o (table.files o.slot.file) v'.disk.shown
  -- the calls that put nothing
  pub still : puts c ≡ false → Shows v.disk v'.disk × Fewer v.disk v'.disk
  pub others : (s : ℕ) (o : Open) → closes c ≢ Some s → (slice_index_or v.slots s None ≡ Some o) ⊎ (slice_index_or v'.slots s None ≡ Some o) → Unput v v' o.slot.file
  -- nor that of a file with a name that no slot holds
  pub unopened : (e : Entry Key) → In e (entries h.catalog) → holder e.1 t.slots ≡ slot_count → Unput v v' e.1
  -- F pages go to free sectors and are written whole; the others stay where they are
  pub moved : (h' : Holds v' table) → length (outside (page_sectors h.catalog) (page_sectors h'.catalog)) ≡ changes t table.tree
  pub pages : (h' : Holds v' table) → DirectoryPut h.catalog v.disk.shown v'.disk.shown h'.catalog

-- Kept l v: what the store keeps towards its ledger, in every state. It is the means to the promise and not part of what a reader must
-- believe
module _ (Kept : Ledger → View → Type 0) where
  pub record Formatted (v : View) (a : Answer) (v' : View) : Type 0 where
    pub turns : (t : Table) → (t' : Table) × Format v.disk.size t a t' × (v'.ready ≡ t'.ready) × (t'.ready ≡ true → Holds v' t')
    -- it writes an empty root and settles
    pub root : a ≡ Done → (v'.disk.shown root_sector ≡ page_bytes (page_data 0 (page tt []))) × Settled v'.disk
    -- a no to question 1 comes before any disk call
    pub small : good_size v.disk.size ≡ false → v'.disk ≡ v.disk
    pub answered : good_size v.disk.size ≡ true → Answered v.disk (v.disk.live ≡ true) a v'.disk
    -- a disk that is not live stays so
    pub dead : v.disk.live ≡ false → v'.disk.live ≡ false
    pub size : v'.disk.size ≡ v.disk.size
    pub begins : a ≡ Done → Kept blank v'
    pub keeps : (l : Ledger) (r : FileFault) → Kept l v → a ≡ No r → Kept (wiping l) v'

  -- New, Old, Set, Read, Write, Register, Close, Delete, List
  pub record Did (v : View) (c : Call) (a : Answer) (v' : View) : Type 0 where
    pub waits : v.ready ≡ false → (a ≡ No Waiting) × (v' ≡ v)
    pub turns : v.ready ≡ true → (t : Table) (h : Holds v t) → Turned v t h c a v'
    pub size : v'.disk.size ≡ v.disk.size
    pub keeps : (l : Ledger) → Kept l v → Kept (follow l c a) v'

  pub record Starts (v : View) (a : Answer) (v' : View) : Type 0 where
    pub turns : (t : Table) → (t' : Table) × Start v.disk.size v'.disk.shown t a t' × (v'.ready ≡ t'.ready) × (t'.ready ≡ true → Holds v' t')
    -- the disk is restarted, but for a no to question 1, and nothing is put
    pub small : good_size v.disk.size ≡ false → v'.disk ≡ v.disk
    pub answered : good_size v.disk.size ≡ true → Answered v.disk (Unit {0}) a v'.disk
    pub size : v'.disk.size ≡ v.disk.size
    pub fewer : Fewer v.disk v'.disk
    pub sound : good_size v.disk.size ≡ true → Sound v'.disk
    pub picked : good_size v.disk.size ≡ true → v'.disk.live ≡ true → Settled v'.disk × ((n : ℕ) → n < v.disk.size → In (v'.disk.shown n) (v.disk.may n))
    pub keeps : (l : Ledger) (r : FileFault) → Kept l v → a ≡ No r → Kept l v'
    pub goes_on : (l l' : Ledger) (c : Catalog) → Kept l v → a ≡ Done → Resolves l l' → Agrees l' v'.disk.size v'.disk.shown c →
        Kept (restarted l' (map (bytes_of v'.disk.shown) c.files)) v'

  -- Start's contract, with the promise whole
  pub record Started (v : View) (a : Answer) (v' : View) : Type 0 where
    pub does : Starts v a v'
    pub whole : Whole Formatted Did Starts v a v'
