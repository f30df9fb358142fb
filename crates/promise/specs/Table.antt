-- The plain table, and what each call makes of it: its answer, and the table after it.
use Rattle.std.specs.Prelude.{◌≡◌, ℕ, suc, ◌+◌, ◌-◌, ◌<◌, ◌≤◌, min, max, Bool, true, false, cond, not, ◌&&◌, ◌||◌, ◌≢◌, List, [], ◌∷◌, ◌++◌, map, length, take, drop, replicate, is_some, Some, None, Ok, Err, Option, ◌==◌, nat_le, nat_lt, slice_index, slice_index_or, slice_set}
use Rattle.std.specs.Str.{bytes_eq}
use Rattle.numbers.specs.Names.{Key, good_name}
use Rattle.numbers.specs.Order.{cmp}
use Rattle.numbers.specs.Lengths.{sectors, longest}
use Rattle.tree.specs.Tree.{Entry, Tree, Found, absent, at, Good, lookup, to_list, pages, empty}
use Rattle.tree.specs.Insert.{insert}
use Rattle.tree.specs.Delete.{delete}
use Rattle.tree.specs.Fresh.{changed}
use Rattle.disk.specs.Meaning.{Contents, In}
use Rattle.disk.specs.declared.fault.DiskFault.{DiskFault}
use Rattle.disk.specs.declared.fault.Cause.TheVariants.{Gone}
use Rattle.catalog.specs.declared.fault.LayoutFault.{LayoutFault}
use Rattle.catalog.specs.declared.fault.LayoutFault.TheVariants.{BadSize}
use Rattle.catalog.specs.Catalogs.{Extent, Catalog, Row, plain_tree, page_sectors, file_sectors, bytes_of, overlaid}
use Rattle.catalog.specs.Questions.{good_size, most_sectors, found}
use Rattle.promise.specs.declared.fault.FileFault.{FileFault}
use Rattle.promise.specs.declared.fault.FileFault.TheVariants.{Waiting, BadName, BadSlot, Absent, Full, Nameless, TooLong, NoRoom}
use Rattle.promise.specs.Faults.{by_disk, by_layout}

-- THE TABLE. A file: its bytes, L of them, and its closed length
pub record File : Type 0 where
  pub bytes : List ℕ
  pub closed : ℕ

pub data Sort : Type 0 where
  Anonymous Registered : Sort

-- one file, known by its first sector; a sort; a name; 1 to 255 handles
pub record Slot : Type 0 where
  pub file : ℕ
  pub sort : Sort
  pub name : Key
  pub handles : ℕ

abbrev pub most_handles : ℕ
most_handles = 255

abbrev pub slot_count : ℕ
slot_count = 8

-- sectors that New and a Write that takes any leave free
abbrev pub reserve : ℕ
reserve = 8

-- files are looked up at the first sectors that the tree and the slots name, and nowhere else; free is the number of free sectors;
-- ready: the last Format or Start was accepted, with no 3 since; else the store waits
pub record Table : Type 0 where
  pub ready : Bool
  pub tree : Tree Key
  pub files : ℕ → File
  pub slots : List (Option Slot)
  pub free : ℕ

-- a place in the file of a slot's handle, with its end flag
pub record Rider : Type 0 where
  pub slot : ℕ
  pub place : ℕ
  pub end : Bool

-- the calls but Format and Start. A handle goes by its slot. Read has its buffer, Write its bytes, Names (the call List) its table of
-- records
pub data Call : Type 0 where
  New Old Delete : Key → Call
  Set : ℕ → ℕ → Call
  Read Write : Rider → List ℕ → Call
  Register Close : ℕ → Call
  Names : List Row → Call

-- an answer, with the rider and the buffer or records after it. Any refusal but the last two leaves these as they were
pub data Answer : Type 0 where
  Done : Answer
  Slotted : ℕ → Answer
  Riding : Rider → Answer
  HasRead : ℕ → Rider → List ℕ → Answer
  Wrote : ℕ → Rider → Answer
  Named : ℕ → List Row → Answer
  No : FileFault → Answer
  -- 3 in a Read, with the bytes delivered before; 3 in a List, with the records filled
  NoRead : DiskFault → ℕ → Rider → List ℕ → Answer
  NoNames : DiskFault → ℕ → List Row → Answer

-- LOOKING. The slot of that number, if it is below 8 and used
abbrev pub slot_at : Table → ℕ → Option Slot
slot_at t s = slice_index_or t.slots s None

abbrev pub the_slot : Option Slot → Slot
the_slot None = record { file = 0; sort = Anonymous; name = []; handles = 0 }
the_slot (Some x) = x

abbrev pub slot : Table → ℕ → Slot
slot t s = the_slot (slot_at t s)

abbrev pub used : Table → ℕ → Bool
used t s = is_some (slot_at t s)

abbrev pub is_anonymous : Sort → Bool
is_anonymous Anonymous = true
is_anonymous Registered = false

abbrev pub is_empty : Key → Bool
is_empty [] = true
is_empty (x ∷ xs) = false

-- a slot's file and its length
abbrev pub file : Table → ℕ → File
file t s = t.files (slot t s).file

abbrev pub long : Table → ℕ → ℕ
long t s = length (file t s).bytes

-- the lowest unused slot, and the slot that holds a file; as many as there are slots if there is none
abbrev pub unused : List (Option Slot) → ℕ
unused [] = 0
unused (None ∷ xs) = 0
unused (Some x ∷ xs) = suc (unused xs)

abbrev pub holder : ℕ → List (Option Slot) → ℕ
holder f [] = 0
holder f (None ∷ xs) = suc (holder f xs)
holder f (Some x ∷ xs) = cond (x.file == f) 0 (suc (holder f xs))

-- what a search found: is it there, and what it leads to
abbrev pub is_there : Found → Bool
is_there absent = false
is_there (at f) = true

abbrev pub target : Found → ℕ
target absent = 0
target (at f) = f

-- Old: the file, whether a slot holds it, and the slot that is answered
abbrev pub old_file : Table → Key → ℕ
old_file t n = target (lookup cmp t.tree n)

abbrev pub is_open : Table → Key → Bool
is_open t n = nat_lt (holder (old_file t n) t.slots) slot_count

abbrev pub old_slot : Table → Key → ℕ
old_slot t n = cond (is_open t n) (holder (old_file t n) t.slots) (unused t.slots)

-- Read and Write first lower a rider above L to L
abbrev pub from : Table → Rider → ℕ
from t r = min r.place (long t r.slot)

-- the bytes that a Read gives, and the sectors that a Write's new length adds
abbrev pub gives : Table → Rider → List ℕ → ℕ
gives t r b = min (length b) (long t r.slot - from t r)

abbrev pub takes : Table → Rider → List ℕ → ℕ
takes t r b = sectors (max (long t r.slot) (from t r + length b)) - sectors (long t r.slot)

-- the tree with a slot's name, and without a name; F, the pages that change
abbrev pub with_name : Table → ℕ → Tree Key
with_name t s = (insert cmp t.tree (slot t s).name (slot t s).file).0

abbrev pub without_name : Table → Key → Tree Key
without_name t n = (delete cmp t.tree n).0

abbrev pub changes : Table → Tree Key → ℕ
changes t x = changed bytes_eq t.tree x

-- all records, in the order of names
abbrev pub records : Table → List Row
records t = map (λ (e : Entry Key). record { name = e.0; first = e.1; long = (t.files e.1).closed }) (to_list t.tree)

-- QUESTIONS: the first no gives the refusal
infix 20 ◌else◌
pub data Question : Type 0 where
  ◌else◌ : Bool → FileFault → Question

abbrev pub first : List Question → Option FileFault
first [] = None
first ((true else r) ∷ qs) = first qs
first ((false else r) ∷ qs) = Some r

-- those put before the first disk call, in their order. A 3 never comes in the place of one of them
abbrev pub before : Table → Call → List Question
before t (New n) =
    (t.ready else Waiting) ∷ ((is_empty n || good_name n) else BadName) ∷ (nat_lt (unused t.slots) slot_count else Full) ∷ (nat_le (1 + reserve) t.free else NoRoom) ∷ []
before t (Old n) = (t.ready else Waiting) ∷ (good_name n else BadName) ∷ []
before t (Delete n) = (t.ready else Waiting) ∷ (good_name n else BadName) ∷ []
before t (Set s p) = (t.ready else Waiting) ∷ (used t s else BadSlot) ∷ []
before t (Read r b) = (t.ready else Waiting) ∷ (used t r.slot else BadSlot) ∷ []
before t (Write r b) =
    let n = takes t r b in
    (t.ready else Waiting) ∷ (used t r.slot else BadSlot) ∷ (nat_le (from t r + length b) longest else TooLong) ∷ ((n == 0 || nat_le (n + reserve) t.free) else NoRoom) ∷ []
before t (Register s) =
    (t.ready else Waiting) ∷ ((used t s && is_anonymous (slot t s).sort) else BadSlot) ∷ (not (is_empty (slot t s).name) else Nameless) ∷ []
before t (Close s) = (t.ready else Waiting) ∷ ((used t s && not (is_anonymous (slot t s).sort)) else BadSlot) ∷ []
before t (Names rs) = (t.ready else Waiting) ∷ []

-- those that the directory's pages are wanted for: a 3 may come in their place
abbrev pub behind : Table → Call → List Question
behind t (New n) = []
behind t (Old n) =
    (is_there (lookup cmp t.tree n) else Absent) ∷
    (cond (is_open t n) (nat_lt (slot t (old_slot t n)).handles most_handles) (nat_lt (unused t.slots) slot_count) else Full) ∷ []
behind t (Delete n) = (is_there (lookup cmp t.tree n) else Absent) ∷ (nat_le (changes t (without_name t n)) t.free else NoRoom) ∷ []
behind t (Set s p) = []
behind t (Read r b) = []
behind t (Write r b) = []
behind t (Register s) = (nat_le (changes t (with_name t s)) t.free else NoRoom) ∷ []
behind t (Close s) = []
behind t (Names rs) = []

-- CHANGING. A file, a slot, the number of free sectors, the tree (free falls by the pages that it gains, and rises by those it loses)
abbrev pub with_file : ℕ → File → Table → Table
with_file n x t = record { ready = t.ready; tree = t.tree; files = λ (m : ℕ). cond (m == n) x (t.files m); slots = t.slots; free = t.free }

abbrev pub with_slot : ℕ → Option Slot → Table → Table
with_slot s x t = record { ready = t.ready; tree = t.tree; files = t.files; slots = slice_set t.slots s x; free = t.free }

abbrev pub with_free : ℕ → Table → Table
with_free n t = record { ready = t.ready; tree = t.tree; files = t.files; slots = t.slots; free = n }

abbrev pub with_tree : Tree Key → Table → Table
with_tree x t = record { ready = t.ready; tree = x; files = t.files; slots = t.slots; free = t.free + pages t.tree - pages x }

abbrev pub waits : Table → Table
waits t = record { ready = false; tree = t.tree; files = t.files; slots = t.slots; free = t.free }

abbrev pub empty_file : File
empty_file = record { bytes = []; closed = 0 }

-- the closed length becomes L
abbrev pub closed : File → File
closed x = record { bytes = x.bytes; closed = length x.bytes }

-- w in the place of the bytes from p on
abbrev pub written : ℕ → List ℕ → List ℕ → List ℕ
written p w bs = take p bs ++ (w ++ drop (p + length w) bs)

abbrev pub registered : Slot → Slot
registered x = record { file = x.file; sort = Registered; name = x.name; handles = x.handles }

abbrev pub one_more : Slot → Slot
one_more x = record { file = x.file; sort = x.sort; name = x.name; handles = x.handles + 1 }

-- a slot without handles is unused
abbrev pub one_less : Slot → Option Slot
one_less x = cond (nat_le x.handles 1) None (Some (record { file = x.file; sort = x.sort; name = x.name; handles = x.handles - 1 }))

-- the rider from where it reads or writes, moved by k, with this end flag
abbrev pub moved : Table → Rider → ℕ → Bool → Rider
moved t r k e = record { slot = r.slot; place = from t r + k; end = e }

-- the buffer's first k bytes become the file's from the rider on
abbrev pub filled : Table → Rider → ℕ → List ℕ → List ℕ
filled t r k b = take k (drop (from t r) (file t r.slot).bytes) ++ drop k b

-- EACH CALL, ACCEPTED: its answer and the table after it. Left free: which free sector New takes
abbrev pub accepted : Table → ℕ → Call → Answer × Table
accepted t taken (New n) =
    let s = unused t.slots in
    (Slotted s, with_free (t.free - 1) (with_file taken empty_file (with_slot s (Some (record { file = taken; sort = Anonymous; name = n; handles = 1 })) t)))
accepted t taken (Old n) =
    let s = old_slot t n in
    let one : Slot = record { file = old_file t n; sort = Registered; name = n; handles = 1 } in
    (Slotted s, with_slot s (Some (cond (is_open t n) (one_more (slot t s)) one)) t)
accepted t taken (Delete n) = (Done, with_tree (without_name t n) t)
accepted t taken (Set s p) = (Riding (record { slot = s; place = min p (long t s); end = false }), t)
accepted t taken (Read r b) = let k = gives t r b in (HasRead k (moved t r k (nat_lt k (length b))) (filled t r k b), t)
accepted t taken (Write r b) =
    let x = file t r.slot in
    (Wrote (length b) (moved t r (length b) r.end), with_free (t.free - takes t r b) (with_file (slot t r.slot).file (record { bytes = written (from t r) b x.bytes; closed = x.closed }) t))
accepted t taken (Register s) =
    (Done, with_tree (with_name t s) (with_file (slot t s).file (closed (file t s)) (with_slot s (Some (registered (slot t s))) t)))
accepted t taken (Close s) = (Done, with_file (slot t s).file (closed (file t s)) (with_slot s (one_less (slot t s)) t))
accepted t taken (Names rs) = (Named (length (records t)) (overlaid (records t) rs), t)

-- the table's word: the first no, with nothing changed, or the call accepted
abbrev pub unless : Option FileFault → Table → Answer × Table → Answer × Table
unless None t r = r
unless (Some e) t r = (No e, t)

abbrev pub plain : Table → ℕ → Call → Answer × Table
plain t taken c = unless (first (before t c ++ behind t c)) t (accepted t taken c)

-- no slot holds and no name leads to a file with that first sector
pub record Spare (t : Table) (s : ℕ) : Type 0 where
  pub closed : (h : ℕ) (x : Slot) → slot_at t h ≡ Some x → x.file ≢ s
  pub unnamed : (e : Entry Key) → In e (to_list t.tree) → e.1 ≢ s

-- the sector that New may take; to the other calls it is nothing
abbrev pub MayTake : Table → Call → ℕ → Type 0
MayTake t (New n) s = Spare t s
MayTake t (Old n) s = s ≡ 0
MayTake t (Delete n) s = s ≡ 0
MayTake t (Set h p) s = s ≡ 0
MayTake t (Read r b) s = s ≡ 0
MayTake t (Write r b) s = s ≡ 0
MayTake t (Register h) s = s ≡ 0
MayTake t (Close h) s = s ≡ 0
MayTake t (Names rs) s = s ≡ 0

-- whose 3 tells nothing but the disk's fault. Read and List tell more; New and Set make no disk call
abbrev pub bare_three : Call → Bool
bare_three (New n) = false
bare_three (Old n) = true
bare_three (Delete n) = true
bare_three (Set s p) = false
bare_three (Read r b) = false
bare_three (Write r b) = true
bare_three (Register s) = true
bare_three (Close s) = true
bare_three (Names rs) = false

-- A CALL gives the table's word, or the disk's: 3, in the place of all that comes after the first disk call; the store then waits
pub data Turn (t : Table) : Call → Answer → Table → Type 0 where
  said : (c : Call) (taken : ℕ) → MayTake t c taken → Turn t c (plain t taken c).0 (plain t taken c).1
  gone : (c : Call) (f : DiskFault) → f.cause ≡ Gone → first (before t c) ≡ None → bare_three c ≡ true → Turn t c (No (by_disk f)) (waits t)
  -- a Read tells the k bytes delivered before, by which the rider moved
  gone_read : (r : Rider) (b : List ℕ) (f : DiskFault) (k : ℕ) → f.cause ≡ Gone → first (before t (Read r b)) ≡ None → k ≤ gives t r b →
      Turn t (Read r b) (NoRead f k (moved t r k r.end) (filled t r k b)) (waits t)
  -- a List the k records filled
  gone_names : (rs : List Row) (f : DiskFault) (k : ℕ) → f.cause ≡ Gone → first (before t (Names rs)) ≡ None → k ≤ min (length (records t)) (length rs) →
      Turn t (Names rs) (NoNames f k (overlaid (take k (records t)) rs)) (waits t)

-- FORMAT AND START, on N sectors
abbrev pub no_slots : List (Option Slot)
no_slots = replicate slot_count None

-- Format empties the tree and slots; free becomes N − 2
abbrev pub formatted : ℕ → Table
formatted size = record { ready = true; tree = empty Key; files = λ (n : ℕ). empty_file; slots = no_slots; free = size - 2 }

pub data Format (size : ℕ) (t : Table) : Answer → Table → Type 0 where
  refused : good_size size ≡ false → Format size t (No (by_layout BadSize)) (waits t)
  gone : (f : DiskFault) → f.cause ≡ Gone → good_size size ≡ true → Format size t (No (by_disk f)) (waits t)
  done : good_size size ≡ true → Format size t Done (formatted size)

-- the file with that first sector among those found: its bytes, its length closed
abbrev pub found_file : (ℕ → Contents) → List Extent → ℕ → File
found_file shown [] n = empty_file
found_file shown (x ∷ xs) n = cond (slice_index x.parts 0 == n) (record { bytes = bytes_of shown x; closed = x.long }) (found_file shown xs n)

-- Start forgets the slots and takes the names, bytes and free sectors that it finds
abbrev pub started : ℕ → (ℕ → Contents) → Catalog → Table
started size shown c = record {
  ready = true;
  tree = plain_tree c;
  files = found_file shown c.files;
  slots = no_slots;
  free = size - 1 - length (page_sectors c) - length (file_sectors c);
}

-- shown: the contents after the restart; the size is asked before it
pub data Start (size : ℕ) (shown : ℕ → Contents) (t : Table) : Answer → Table → Type 0 where
  gone : (f : DiskFault) → f.cause ≡ Gone → good_size size ≡ true → Start size shown t (No (by_disk f)) (waits t)
  bad : (e : LayoutFault) → found size shown ≡ Err e → Start size shown t (No (by_layout e)) (waits t)
  done : (c : Catalog) → found size shown ≡ Ok c → Start size shown t Done (started size shown c)

-- how many slots hold an anonymous file
abbrev pub anonymous : List (Option Slot) → ℕ
anonymous [] = 0
anonymous (None ∷ xs) = anonymous xs
anonymous (Some x ∷ xs) = cond (is_anonymous x.sort) 1 0 + anonymous xs

-- WHAT HOLDS OF EVERY TABLE
pub record Proper (t : Table) : Type 0 where
  -- 8 slots; 1 to 255 handles; a file is in one slot at most
  pub eight : length t.slots ≡ slot_count
  pub handles : (s : ℕ) (x : Slot) → slot_at t s ≡ Some x → (1 ≤ x.handles) × (x.handles ≤ most_handles)
  pub one : (s h : ℕ) (x y : Slot) → slot_at t s ≡ Some x → slot_at t h ≡ Some y → x.file ≡ y.file → s ≡ h
  -- no file is longer than 3,210,912 bytes or closed beyond its length
  pub lengths : (n : ℕ) → (length (t.files n).bytes ≤ longest) × ((t.files n).closed ≤ length (t.files n).bytes)
  -- the tree is good, and so are its names and those of slots, which may be empty
  pub good : Good cmp t.tree
  pub names : (e : Entry Key) → In e (to_list t.tree) → good_name e.0 ≡ true
  pub held : (s : ℕ) (x : Slot) → slot_at t s ≡ Some x → (is_empty x.name || good_name x.name) ≡ true
  -- no two names lead to one file, and none to an anonymous one
  pub single : (e d : Entry Key) → In e (to_list t.tree) → In d (to_list t.tree) → e.1 ≡ d.1 → e ≡ d
  pub apart : (s : ℕ) (x : Slot) → slot_at t s ≡ Some x → x.sort ≡ Anonymous → (e : Entry Key) → In e (to_list t.tree) → e.1 ≢ x.file
  -- names, anonymous files, pages and free sectors fit the largest volume
  pub room : length (to_list t.tree) + anonymous t.slots + pages t.tree + t.free < most_sectors
