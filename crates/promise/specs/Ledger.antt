-- The ledger: what the calls' arguments and answers say of names and files, with numbers of its own for files and nothing of sectors.
use Rattle.std.specs.Prelude.{◌≡◌, ℕ, zero, suc, ◌<◌, ◌≤◌, min, Bool, true, false, cond, List, [], ◌∷◌, ◌++◌, map, length, drop, is_some, Some, None, Option, ◌≢◌, slice_index, slice_index_or, slice_set}
use Rattle.numbers.specs.Names.{Key}
use Rattle.numbers.specs.Order.{cmp}
use Rattle.tree.specs.Tree.{Entry, Rises}
use Rattle.tree.specs.Laws.{put, without, find}
use Rattle.disk.specs.Meaning.{In}
use Rattle.catalog.specs.Catalogs.{Distinct}
use Rattle.promise.specs.Faults.{is_three}
use Rattle.promise.specs.Table.{Anonymous, Registered, Slot, the_slot, target, Rider, Call, New, Old, Delete, Set, Read, Write, Register, Close, Names, Answer, Done, Slotted, Riding, HasRead, Wrote, Named, No, NoRead, NoNames, written, registered, one_more, one_less, no_slots}

-- a file: its bytes, its closed length, and for each byte below that the possible bytes
pub record Written : Type 0 where
  pub bytes : List ℕ
  pub closed : ℕ
  pub possible : List (List ℕ)

-- names in their order, each with its file's number, which is its place among the files; slots as in the plain table, with that number;
-- broken: the Register, Close or Delete that was broken off, if one was; wiped: whether a Format was
pub record Ledger : Type 0 where
  pub names : List (Entry Key)
  pub files : List Written
  pub slots : List (Option Slot)
  pub broken : Option Call
  pub wiped : Bool

-- after an accepted Format
abbrev pub blank : Ledger
blank = record { names = []; files = []; slots = no_slots; broken = None; wiped = false }

abbrev pub no_file : Written
no_file = record { bytes = []; closed = 0; possible = [] }

abbrev pub slot_of : Ledger → ℕ → Slot
slot_of l s = the_slot (slice_index_or l.slots s None)

-- the file of that number, of an entry, of a slot
abbrev pub numbered : Ledger → ℕ → Written
numbered l n = slice_index_or l.files n no_file

abbrev pub file_by : Ledger → Entry Key → Written
file_by l e = numbered l e.1

abbrev pub file_of : Ledger → ℕ → Written
file_of l s = numbered l (slot_of l s).file

-- the possible bytes at p
abbrev pub possible_at : Written → ℕ → List ℕ
possible_at w p = slice_index_or w.possible p []

abbrev pub with_names : List (Entry Key) → Ledger → Ledger
with_names ns l = record { names = ns; files = l.files; slots = l.slots; broken = l.broken; wiped = l.wiped }

abbrev pub with_slot : ℕ → Option Slot → Ledger → Ledger
with_slot s x l = record { names = l.names; files = l.files; slots = slice_set l.slots s x; broken = l.broken; wiped = l.wiped }

abbrev pub with_file : ℕ → Written → Ledger → Ledger
with_file n x l = record { names = l.names; files = slice_set l.files n x; slots = l.slots; broken = l.broken; wiped = l.wiped }

abbrev pub with_broken : Option Call → Ledger → Ledger
with_broken c l = record { names = l.names; files = l.files; slots = l.slots; broken = c; wiped = l.wiped }

-- Close and Register: the closed length is L, and only the file's byte is possible
abbrev pub closing : Written → Written
closing x = record { bytes = x.bytes; closed = length x.bytes; possible = map (λ (b : ℕ). b ∷ []) x.bytes }

-- a Write of w from p on adds its byte where there are possible bytes
abbrev pub carried : ℕ → List ℕ → List (List ℕ) → List (List ℕ)
carried p w [] = []
carried zero [] (x ∷ xs) = x ∷ xs
carried zero (b ∷ bs) (x ∷ xs) = (b ∷ x) ∷ carried zero bs xs
carried (suc p) w (x ∷ xs) = x ∷ carried p w xs

-- where a rider writes: one above L is lowered to L
abbrev pub from : Ledger → Rider → ℕ
from l r = min r.place (length (file_of l r.slot).bytes)

-- ACCEPTED CALLS. s is the slot answered by New and Old
abbrev pub counts : Ledger → ℕ → Call → Ledger
counts l s (New n) = record {
  names = l.names;
  files = l.files ++ (no_file ∷ []);
  slots = slice_set l.slots s (Some (record { file = length l.files; sort = Anonymous; name = n; handles = 1 }));
  broken = l.broken;
  wiped = l.wiped;
}
counts l s (Old n) =
    let one : Slot = record { file = target (find cmp n l.names); sort = Registered; name = n; handles = 1 } in
    with_slot s (Some (cond (is_some (slice_index_or l.slots s None)) (one_more (slot_of l s)) one)) l
counts l s (Delete n) = with_names (without cmp n l.names) l
counts l s (Set h p) = l
counts l s (Read r b) = l
counts l s (Write r w) =
    let x = file_of l r.slot in
    with_file (slot_of l r.slot).file (record { bytes = written (from l r) w x.bytes; closed = x.closed; possible = carried (from l r) w x.possible }) l
counts l s (Register h) =
    with_names (put cmp ((slot_of l h).name, (slot_of l h).file) l.names) (with_file (slot_of l h).file (closing (file_of l h)) (with_slot h (Some (registered (slot_of l h))) l))
counts l s (Close h) = with_file (slot_of l h).file (closing (file_of l h)) (with_slot h (one_less (slot_of l h)) l)
counts l s (Names rs) = l

-- CALLS ANSWERED 3. A Write adds its bytes to the possible ones; a Register, Close or Delete is broken off
abbrev pub breaks : Ledger → Call → Ledger
breaks l (New n) = l
breaks l (Old n) = l
breaks l (Delete n) = with_broken (Some (Delete n)) l
breaks l (Set h p) = l
breaks l (Read r b) = l
breaks l (Write r w) =
    let x = file_of l r.slot in
    with_file (slot_of l r.slot).file (record { bytes = x.bytes; closed = x.closed; possible = carried (from l r) w x.possible }) l
breaks l (Register h) = with_broken (Some (Register h)) l
breaks l (Close h) = with_broken (Some (Close h)) l
breaks l (Names rs) = l

-- what an answer is to the ledger: accepted, with the slot that it tells; refused; or 3
pub data Fate : Type 0 where
  counted : ℕ → Fate
  turned_away broken_off : Fate

abbrev pub fate : Answer → Fate
fate Done = counted 0
fate (Slotted s) = counted s
fate (Riding r) = counted 0
fate (HasRead k r b) = counted 0
fate (Wrote n r) = counted 0
fate (Named n rs) = counted 0
fate (No r) = cond (is_three r) broken_off turned_away
fate (NoRead f k r b) = broken_off
fate (NoNames f k rs) = broken_off

abbrev pub followed : Ledger → Call → Fate → Ledger
followed l c (counted s) = counts l s c
followed l c turned_away = l
followed l c broken_off = breaks l c

-- the ledger after a call other than Format and Start
abbrev pub follow : Ledger → Call → Answer → Ledger
follow l c a = followed l c (fate a)

-- and after a Format that was refused: it may count as well
abbrev pub wiping : Ledger → Ledger
wiping l = record { names = l.names; files = l.files; slots = l.slots; broken = l.broken; wiped = true }

-- AN ACCEPTED START. A broken-off call is followed first, or never
abbrev pub mended : Ledger → Ledger
mended l = record { names = l.names; files = l.files; slots = l.slots; broken = None; wiped = false }

pub data Resolves (l : Ledger) : Ledger → Type 0 where
  never : Resolves l (mended l)
  first : (c : Call) → l.broken ≡ Some c → Resolves l (mended (counts l 0 c))
  emptied : l.wiped ≡ true → Resolves l blank

-- then the names are kept, their files get the bytes found (in the order of names), and slots and other files are forgotten
abbrev pub renumbered : ℕ → List (Entry Key) → List (Entry Key)
renumbered i [] = []
renumbered i (e ∷ es) = (e.0, i) ∷ renumbered (suc i) es

abbrev pub refilled : Ledger → List (Entry Key) → List (List ℕ) → List Written
refilled l [] found = []
refilled l (e ∷ es) found =
    let x = file_by l e in
    record { bytes = slice_index_or found 0 []; closed = x.closed; possible = x.possible } ∷ refilled l es (drop 1 found)

abbrev pub restarted : Ledger → List (List ℕ) → Ledger
restarted l found = record { names = renumbered 0 l.names; files = refilled l l.names found; slots = no_slots; broken = None; wiped = false }

-- WHAT HOLDS OF EVERY LEDGER OF A RUN
abbrev pub file_number : Entry Key → ℕ
file_number e = e.1

-- a file's possible bytes go as far as its closed length, which is at most its length, and have the file's own byte at each place
pub record Covers (w : Written) : Type 0 where
  pub closed : length w.possible ≡ w.closed
  pub within : w.closed ≤ length w.bytes
  pub own : (p : ℕ) → p < w.closed → In (slice_index w.bytes p) (possible_at w p)

-- what the table's answers grant of the slot of an accepted call: New is answered an unused one; where Old is, the name is there and no
-- slot holds its file; Close has a used one, and Register an anonymous one
abbrev pub Legal : Ledger → ℕ → Call → Type 0
Legal l s (New n) = slice_index_or l.slots s None ≡ None
Legal l s (Old n) =
    slice_index_or l.slots s None ≡ None → ((e : Entry Key) × In e l.names × (e.1 ≡ target (find cmp n l.names))) × ((h : ℕ) (y : Slot) → slice_index_or l.slots h None ≡ Some y → y.file ≢ target (find cmp n l.names))
Legal l s (Delete n) = Unit {0}
Legal l s (Set h p) = Unit {0}
Legal l s (Read r b) = Unit {0}
Legal l s (Write r w) = Unit {0}
Legal l s (Register h) = (x : Slot) × (slice_index_or l.slots h None ≡ Some x) × (x.sort ≡ Anonymous)
Legal l s (Close h) = (x : Slot) × (slice_index_or l.slots h None ≡ Some x)
Legal l s (Names rs) = Unit {0}

pub record Sane (l : Ledger) : Type 0 where
  -- names rise
  pub rises : Rises cmp l.names
  -- a file has one name at most and is in one slot at most; an anonymous one has no name; the ledger knows all files
  pub one : Distinct (map file_number l.names)
  pub known : (e : Entry Key) → In e l.names → e.1 < length l.files
  pub held : (s : ℕ) (x : Slot) → slice_index_or l.slots s None ≡ Some x → x.file < length l.files
  pub apart : (s : ℕ) (x : Slot) → slice_index_or l.slots s None ≡ Some x → x.sort ≡ Anonymous → (e : Entry Key) → In e l.names → e.1 ≢ x.file
  pub once : (s h : ℕ) (x y : Slot) → slice_index_or l.slots s None ≡ Some x → slice_index_or l.slots h None ≡ Some y → x.file ≡ y.file → s ≡ h
  pub covers : (n : ℕ) → Covers (numbered l n)
  -- a Register or Close that was broken off has its slot, and Register's is anonymous
  pub pending : (c : Call) → l.broken ≡ Some c → Legal l 0 c
