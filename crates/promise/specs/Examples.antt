-- Worked examples of calls, and of what the ledger makes of calls that were broken off.
use Rattle.std.specs.Prelude.{◌≡◌, ℕ, zero, suc, ◌+◌, false, true, List, [], ◌∷◌, ◌++◌, map, length, replicate, Some, None, codes, Option}
use Rattle.numbers.specs.Names.{Key}
use Rattle.tree.specs.Tree.{Entry, item, page, Sub, to_list, pages}
use Rattle.disk.specs.declared.fault.DiskFault.{DiskFault}
use Rattle.disk.specs.declared.fault.Cause.TheVariants.{Gone}
use Rattle.disk.specs.declared.fault.Layer.TheVariants.{Fuse}
use Rattle.catalog.specs.Catalogs.{Row}
use Rattle.promise.specs.declared.fault.FileFault.TheVariants.{Waiting, BadName, BadSlot, Absent, Full, Nameless, TooLong, NoRoom}
use Rattle.promise.specs.Faults.{by_disk}
use Rattle.promise.specs.Table.{Anonymous, Registered, Slot, Table, Rider, Call, New, Old, Delete, Set, Read, Write, Register, Close, Names, Answer, Done, Slotted, Riding, HasRead, Wrote, Named, No, NoRead, NoNames, file, empty_file, with_name, without_name, changes, plain, Turn, waits, no_slots, formatted}
use Rattle.promise.specs.Ledger.{Written, Ledger, blank, follow, wiping, Resolves, restarted}

-- calls one after the other, each with the sector that New would take: the answers, and the table after them
abbrev pub runs : Table → List (ℕ × Call) → List Answer × Table
runs t [] = ([], t)
runs t (c ∷ cs) =
    let r = plain t c.0 c.1 in
    let rest = runs r.1 cs in
    (r.0 ∷ rest.0, rest.1)

abbrev pub answers : Table → List (ℕ × Call) → List Answer
answers t cs = (runs t cs).0

abbrev pub after : Table → List (ℕ × Call) → Table
after t cs = (runs t cs).1

-- one call alone; a New would take sector 20
abbrev pub answer : Table → Call → Answer
answer t c = (plain t 20 c).0

-- riders without and with their end flag
abbrev pub at : ℕ → ℕ → Rider
at s p = record { slot = s; place = p; end = false }

abbrev pub at_end : ℕ → ℕ → Rider
at_end s p = record { slot = s; place = p; end = true }

abbrev pub hall : Key
hall = codes "Hall.IR"

-- no good name: a space
abbrev pub space : Key
space = 32 ∷ []

-- a line of a listing, and one not filled yet
abbrev pub row : ℕ → ℕ → Row
row s l = record { name = hall; first = s; long = l }

abbrev pub no_row : Row
no_row = record { name = []; first = 0; long = 0 }

-- what a disk below answers, blown
abbrev pub lost : DiskFault
lost = record { layer = Fuse; cause = Gone; sector = 9 }

-- n numbers from i up
abbrev pub counting : ℕ → ℕ → List ℕ
counting i zero = []
counting i (suc n) = i ∷ counting (suc i) n

-- the names A, B and so on
abbrev pub letter_name : ℕ → Key
letter_name i = (65 + i) ∷ []

-- THE SMALL SCRIPT, on 64 sectors
abbrev pub small : List (ℕ × Call)
small =
    (9, New hall) ∷ (0, Set 0 0) ∷ (0, Write (at 0 0) (codes "first")) ∷ (0, Register 0) ∷
    (0, Set 0 2) ∷ (0, Read (at 0 2) (replicate 10 0)) ∷ (0, Names (no_row ∷ no_row ∷ [])) ∷ []

abbrev pub scripted : Table
scripted = after (formatted 64) small

pub record Script : Type 0 where
  pub answered : answers (formatted 64) small ≡
      Slotted 0 ∷ Riding (at 0 0) ∷ Wrote 5 (at 0 5) ∷ Done ∷ Riding (at 0 2) ∷ HasRead 3 (at_end 0 5) (codes "rst" ++ replicate 7 0) ∷ Named 1 (row 9 5 ∷ no_row ∷ []) ∷ []
  -- one sector for the root page, one for the file
  pub free : scripted.free ≡ 61
  -- List fills its table as far as it reaches, and tells the number of all names
  pub unfilled : answer scripted (Names []) ≡ Named 1 []

-- ROOM. A file of 672 bytes fills its first sector; then 8 sectors are free
abbrev pub brim : Table
brim = after (formatted 11) ((2, New hall) ∷ (0, Write (at 0 0) (replicate 672 1)) ∷ [])

pub record Room : Type 0 where
  pub ten : answer (formatted 10) (New hall) ≡ No NoRoom
  pub eleven : answers (formatted 11) ((2, New hall) ∷ (3, New hall) ∷ []) ≡ Slotted 0 ∷ No NoRoom ∷ []
  pub left : brim.free ≡ 8
  -- a Write that takes no sector is not asked 10, also one of no bytes; one byte more is
  pub inside : answer brim (Write (at 0 671) (7 ∷ [])) ≡ Wrote 1 (at 0 672)
  pub nothing : answer brim (Write (at 0 672) []) ≡ Wrote 0 (at 0 672)
  pub beyond : answer brim (Write (at 0 672) (7 ∷ [])) ≡ No NoRoom

-- HANDLES. What the slots hold, as lists: file, handles
abbrev pub held : Option Slot → List ℕ
held None = []
held (Some x) = x.file ∷ x.handles ∷ []

abbrev pub holding : Table → List (List ℕ)
holding t = map held t.slots

-- the file in sector 9 in slot 0, and no other file open
abbrev pub only_first : ℕ → List (List ℕ)
only_first n = (9 ∷ n ∷ []) ∷ replicate 7 []

abbrev pub reopened : Table
reopened = after scripted ((0, Old hall) ∷ [])

pub record Handles : Type 0 where
  -- Old of an open file: the same slot, one handle more
  pub old_open : answer scripted (Old hall) ≡ Slotted 0
  pub two : holding reopened ≡ only_first 2
  -- Close gives one up, and with the last one the slot
  pub one : holding (after reopened ((0, Close 0) ∷ [])) ≡ only_first 1
  pub none : holding (after scripted ((0, Close 0) ∷ [])) ≡ replicate 8 []
  pub again : holding (after scripted ((0, Close 0) ∷ (0, Old hall) ∷ [])) ≡ only_first 1
  pub most : answer (after scripted (replicate 254 (0, Old hall))) (Old hall) ≡ No Full

-- A NAME TAKEN OVER while its old file is open: Hall.IR once more, in slot 1
abbrev pub twice : Table
twice = after scripted ((10, New hall) ∷ (0, Write (at 1 0) (codes "second")) ∷ (0, Register 1) ∷ [])

pub record TakenOver : Type 0 where
  pub names : to_list twice.tree ≡ (hall, 10) ∷ []
  -- the old file goes on in its slot, its Close is accepted, and the listing stays
  pub goes_on : answers twice ((0, Read (at 0 0) (replicate 5 0)) ∷ (0, Write (at 0 5) (codes "!")) ∷ (0, Close 0) ∷ (0, Names (no_row ∷ [])) ∷ []) ≡
      HasRead 5 (at 0 5) (codes "first") ∷ Wrote 1 (at 0 6) ∷ Done ∷ Named 1 (row 10 6 ∷ []) ∷ []
  -- Old finds a slot by its file
  pub old : answer twice (Old hall) ≡ Slotted 1
  -- so goes on a file whose name was deleted
  pub deleted : answers scripted ((0, Delete hall) ∷ (0, Old hall) ∷ (0, Write (at 0 5) (codes "!")) ∷ (0, Close 0) ∷ (0, Names (no_row ∷ [])) ∷ []) ≡
      Done ∷ No Absent ∷ Wrote 1 (at 0 6) ∷ Done ∷ Named 0 (no_row ∷ []) ∷ []

-- RIDERS. A handle from before a Format goes by its slot, and the file there may be shorter: its rider is above L
abbrev pub shorter : Table
shorter = after (formatted 64) ((2, New hall) ∷ (0, Write (at 0 0) (codes "ab")) ∷ [])

pub record Riders : Type 0 where
  pub read_to_end : answer scripted (Read (at 0 0) (replicate 5 0)) ≡ HasRead 5 (at 0 5) (codes "first")
  pub read_at_end : answer scripted (Read (at 0 5) (1 ∷ 2 ∷ [])) ≡ HasRead 0 (at_end 0 5) (1 ∷ 2 ∷ [])
  -- a Read of no bytes turns the end flag off, a Write keeps it
  pub read_none : answer scripted (Read (at_end 0 5) []) ≡ HasRead 0 (at 0 5) []
  pub write_none : answer scripted (Write (at_end 0 3) []) ≡ Wrote 0 (at_end 0 3)
  -- above L: Set takes L; Read and Write lower the rider to it
  pub set_above : answer shorter (Set 0 5) ≡ Riding (at 0 2)
  pub read_above : answer shorter (Read (at 0 5) (1 ∷ 2 ∷ [])) ≡ HasRead 0 (at_end 0 2) (1 ∷ 2 ∷ [])
  pub write_above : answer shorter (Write (at 0 5) (codes "c")) ≡ Wrote 1 (at 0 3)
  pub appended : (file (after shorter ((0, Write (at 0 5) (codes "c")) ∷ [])) 0).bytes ≡ codes "abc"

-- WHICH NO COMES FIRST. Eight files, new in slots 0 to 7, on n sectors
abbrev pub filled : ℕ → Table
filled n = after (formatted n) (map (λ (i : ℕ). (10 + i, New (letter_name i))) (counting 0 8))

-- Hall.IR in slot 0, a file without a name in slot 1
abbrev pub unnamed : Table
unnamed = after scripted ((20, New []) ∷ [])

-- Hall.IR closed, and then eight files open
abbrev pub closed_out : Table
closed_out = after scripted ((0, Close 0) ∷ map (λ (i : ℕ). (10 + i, New (letter_name i))) (counting 0 8))

-- a directory of one page with 24 names, A to X, and an anonymous file of that name in slot 0
abbrev pub leaf : ℕ → ℕ → Sub Key 1
leaf i n = page tt (map (λ (k : ℕ). item (letter_name k, 100 + k) tt) (counting i n))

abbrev pub brimming : Key → ℕ → Table
brimming n free =
    record {
      ready = true;
      tree = record { over = 0; root = leaf 0 24 };
      files = λ (k : ℕ). empty_file;
      slots = Some (record { file = 50; sort = Anonymous; name = n; handles = 1 }) ∷ replicate 7 None;
      free = free;
    }

pub record FirstNo : Type 0 where
  -- 2 before 4 and 5
  pub two_four : answer (waits (filled 64)) (New space) ≡ No Waiting
  pub two_five : answer (waits scripted) (Set 8 0) ≡ No Waiting
  -- 4 before 7 and 6; Old, Delete: an empty name is not good; New: it is let through
  pub four_seven : answer (filled 64) (New space) ≡ No BadName
  pub four_six : answer scripted (Delete space) ≡ No BadName
  pub empty_new : answer scripted (New []) ≡ Slotted 1
  pub empty_old : answer scripted (Old []) ≡ No BadName
  -- 5: below 8, used, and of the sort wanted; before 8
  pub eighth : answer scripted (Set 8 0) ≡ No BadSlot
  pub unused : answer scripted (Read (at 1 0) (0 ∷ [])) ≡ No BadSlot
  pub registered : answer scripted (Register 0) ≡ No BadSlot
  pub anonymous : answer (filled 64) (Close 0) ≡ No BadSlot
  pub five_eight : answer unnamed (Register 2) ≡ No BadSlot
  -- 5 before 9 and 10
  pub five_nine : (b : List ℕ) → length b ≡ 3210913 → answer brim (Write (at 1 0) b) ≡ No BadSlot
  pub five_ten : (b : List ℕ) → length b ≡ 3210912 → answer brim (Write (at 1 0) b) ≡ No BadSlot
  -- 6 before 7 and 10
  pub six_ten : answer (brimming [] 0) (Delete (codes "z")) ≡ No Absent
  pub six_seven : answer (filled 64) (Old hall) ≡ No Absent
  pub six : answer scripted (Delete (letter_name 0)) ≡ No Absent
  -- 7 before 10
  pub seven_ten : answer (filled 18) (New []) ≡ No Full
  pub seven : answer closed_out (Old hall) ≡ No Full
  -- 8 before 10
  pub eight : answer unnamed (Register 1) ≡ No Nameless
  pub eight_ten : answer (brimming [] 0) (Register 0) ≡ No Nameless
  -- 9 before 10
  pub nine_ten : (b : List ℕ) → length b ≡ 3210913 → answer brim (Write (at 0 0) b) ≡ No TooLong
  pub ten : (b : List ℕ) → length b ≡ 3210912 → answer brim (Write (at 0 0) b) ≡ No NoRoom

-- F, THE CHANGED PAGES. A to L, M, and N to Z: a root over two leaves
abbrev pub alphabet : ℕ → Table
alphabet free =
    record {
      ready = true;
      tree = record { over = 1; root = page (leaf 0 12) (item (letter_name 12, 112) (leaf 13 13) ∷ []) };
      files = λ (k : ℕ). empty_file;
      slots = no_slots;
      free = free;
    }

pub record Changes : Type 0 where
  -- a root of 24 is split over two new pages
  pub split : changes (brimming (letter_name 25) 2) (with_name (brimming (letter_name 25) 2) 0) ≡ 2
  pub split_room : answer (brimming (letter_name 25) 1) (Register 0) ≡ No NoRoom
  pub split_done : answer (brimming (letter_name 25) 2) (Register 0) ≡ Done
  pub split_free : (after (brimming (letter_name 25) 2) ((0, Register 0) ∷ [])).free ≡ 0
  -- M goes: the left leaf gives L in its place, and gets it back when the right leaf gives N to the root. Only the right leaf changes
  pub regained : changes (alphabet 1) (without_name (alphabet 1) (letter_name 12)) ≡ 1
  pub regained_room : answer (alphabet 0) (Delete (letter_name 12)) ≡ No NoRoom
  pub regained_done : answer (alphabet 1) (Delete (letter_name 12)) ≡ Done
  pub regained_pages : pages (without_name (alphabet 1) (letter_name 12)) ≡ 3
  -- A goes: both leaves change
  pub lent : changes (alphabet 1) (without_name (alphabet 1) (letter_name 0)) ≡ 2
  pub lent_room : answer (alphabet 1) (Delete (letter_name 0)) ≡ No NoRoom

-- THREE. A Read that gave 2 bytes before; a List that filled no record; a Close. Then the store waits
pub record Threes : Type 0 where
  pub read : Turn scripted (Read (at 0 1) (replicate 9 0)) (NoRead lost 2 (at 0 3) (codes "ir" ++ replicate 7 0)) (waits scripted)
  pub list : Turn scripted (Names (no_row ∷ [])) (NoNames lost 0 (no_row ∷ [])) (waits scripted)
  pub close : Turn scripted (Close 0) (No (by_disk lost)) (waits scripted)
  pub after : answer (waits scripted) (Close 0) ≡ No Waiting

-- THE LEDGER, fed calls and answers
abbrev pub follows : Ledger → List (Call × Answer) → Ledger
follows l [] = l
follows l (x ∷ xs) = follows (follow l x.0 x.1) xs

-- Hall.IR begun
abbrev pub begun : Ledger
begun = follows blank ((New hall, Slotted 0) ∷ (Write (at 0 0) (codes "first"), Wrote 5 (at 0 5)) ∷ [])

-- registered; and written to from byte 4 on
abbrev pub kept : Ledger
kept = follows begun ((Register 0, Done) ∷ [])

abbrev pub longer : Ledger
longer = follows kept ((Write (at 0 4) (codes "T!"), Wrote 2 (at 0 6)) ∷ [])

-- a call that is answered 3
abbrev pub cut : Ledger → Call → Ledger
cut l c = follow l c (No (by_disk lost))

-- each byte possible alone
abbrev pub alone : List ℕ → List (List ℕ)
alone bs = map (λ (b : ℕ). b ∷ []) bs

-- "first" with the last byte as it was closed or as it was written
abbrev pub either : List (List ℕ)
either = alone (codes "firs") ++ (codes "Tt" ∷ [])

abbrev pub file_is : List ℕ → ℕ → List (List ℕ) → List Written
file_is b c p = record { bytes = b; closed = c; possible = p } ∷ []

-- Hall.IR leads to file 0, which slot 0 holds
abbrev pub one_name : List (Entry Key)
one_name = (hall, 0) ∷ []

abbrev pub in_first : Slot → List (Option Slot)
in_first x = Some x ∷ replicate 7 None

abbrev pub hall_open : List (Option Slot)
hall_open = in_first (record { file = 0; sort = Registered; name = hall; handles = 1 })

abbrev pub hall_new : List (Option Slot)
hall_new = in_first (record { file = 0; sort = Anonymous; name = hall; handles = 1 })

-- a ledger with nothing broken off
abbrev pub ledger : List (Entry Key) → List Written → List (Option Slot) → Ledger
ledger ns fs ss = record { names = ns; files = fs; slots = ss; broken = None; wiped = false }

pub record BrokenOff : Type 0 where
  -- a Write answered 3 adds its bytes to the possible ones
  pub write : (cut kept (Write (at 0 4) (codes "T!"))).files ≡ file_is (codes "first") 5 either
  -- a Close is broken off: followed never, and five bytes are closed; or first, and all six
  pub close : (cut longer (Close 0)).broken ≡ Some (Close 0)
  pub close_never : Resolves (cut longer (Close 0)) (ledger one_name (file_is (codes "firsT!") 5 either) hall_open)
  pub close_first : Resolves (cut longer (Close 0)) (ledger one_name (file_is (codes "firsT!") 6 (alone (codes "firsT!"))) no_slots)
  -- the Start that follows it never takes the five bytes that it finds
  pub close_start : restarted (ledger one_name (file_is (codes "firsT!") 5 either) hall_open) (codes "firsT" ∷ []) ≡ ledger one_name (file_is (codes "firsT") 5 either) no_slots
  -- a Register: never, and the file has no name, so the Start forgets it; or first
  pub register : (cut begun (Register 0)).broken ≡ Some (Register 0)
  pub register_never : Resolves (cut begun (Register 0)) (ledger [] (file_is (codes "first") 0 []) hall_new)
  pub register_start : restarted (ledger [] (file_is (codes "first") 0 []) hall_new) [] ≡ blank
  pub register_first : Resolves (cut begun (Register 0)) (ledger one_name (file_is (codes "first") 5 (alone (codes "first"))) hall_open)
  -- a Delete
  pub delete : (cut kept (Delete hall)).broken ≡ Some (Delete hall)
  pub delete_never : Resolves (cut kept (Delete hall)) kept
  pub delete_first : Resolves (cut kept (Delete hall)) (ledger [] (file_is (codes "first") 5 (alone (codes "first"))) hall_open)
  -- a Format that was not accepted: all is as it was, or empty
  pub format_never : Resolves (wiping kept) kept
  pub format_first : Resolves (wiping kept) blank
