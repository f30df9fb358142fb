-- What the calls promise can be kept: a small store that is formatted, and calls on it, each as it is promised.
use Rattle.std.specs.Prelude.{ℕ, ◌-◌, Bool, true, false, cond, List, [], ◌∷◌, ◌++◌, length, replicate, Some, None, codes, Option, ◌==◌}
use Rattle.numbers.specs.Lengths.{sector_size, header_size}
use Rattle.numbers.specs.Names.{Key}
use Rattle.layout.specs.Words.{blank}
use Rattle.layout.specs.Headers.{header_bytes}
use Rattle.layout.specs.Pages.{page_bytes}
use Rattle.tree.specs.Tree.{Item, item, page}
use Rattle.disk.specs.Meaning.{Contents, Meaning}
use Rattle.catalog.specs.Catalogs.{Extent}
use Rattle.catalog.specs.Written.{page_data, header_of}
use Rattle.catalog.specs.declared.fault.LayoutFault.TheVariants.{BadSize}
use Rattle.promise.specs.declared.fault.FileFault.TheVariants.{Waiting, NoRoom}
use Rattle.promise.specs.Faults.{by_disk, by_layout}
use Rattle.promise.specs.Table.{Sort, Anonymous, Registered, Call, New, Old, Delete, Set, Read, Write, Register, Close, Names, Answer, Done, Slotted, Riding, HasRead, Wrote, Named, No, NoRead, NoNames, formatted}
use Rattle.promise.specs.Ledger.{Ledger}
use Rattle.promise.specs.Promise.{Open, View}
use Rattle.promise.specs.Calls.{Holds, Formatted, Did, Starts}
use Rattle.promise.specs.Examples.{at, at_end, hall, row, no_row, lost}

-- THE DISK: eleven sectors with these contents, live and settled; calm or not
abbrev pub sector_count : ℕ
sector_count = 11

abbrev pub settled_disk : ℕ → Bool → (ℕ → Contents) → Meaning
settled_disk size calm shown = record { size = size; live = true; calm = calm; shown = shown; may = λ n. shown n ∷ [] }

abbrev pub disk_of : Bool → (ℕ → Contents) → Meaning
disk_of = settled_disk sector_count

-- sector 1 is the root page, with these entries and no page below; sector 2 as given; the others are zeros
abbrev pub root_of : List (Item Key (Unit {0})) → Contents
root_of xs = page_bytes (page_data 0 (page tt xs))

abbrev pub contents : List (Item Key (Unit {0})) → Contents → ℕ → Contents
contents xs second n = cond (n == 1) (root_of xs) (cond (n == 2) second blank)

-- a file of n bytes in sector 2, and that sector under the name Hall.IR, with these bytes
abbrev pub in_second : ℕ → Extent
in_second n = record { long = n; parts = 2 ∷ []; tabs = [] }

abbrev pub hall_sector : ℕ → List ℕ → Contents
hall_sector n bs = header_bytes (header_of hall (in_second n)) ++ (bs ++ replicate (sector_size - header_size - length bs) 0)

-- the bytes written to it, and the root's entry that leads to it
abbrev pub first_bytes : List ℕ
first_bytes = codes "first"

abbrev pub hall_entry : List (Item Key (Unit {0}))
hall_entry = item (hall, 2) tt ∷ []

-- THE STORE, ready, with these slots and free sectors
abbrev pub none_open : List (Option Open)
none_open = replicate 8 None

abbrev pub hall_open : Sort → ℕ → List ℕ → List (Option Open)
hall_open sort n bs = Some (record { slot = record { file = 2; sort = sort; name = hall; handles = 1 }; long = n; first = hall_sector n bs }) ∷ replicate 7 None

abbrev pub free_after : List ℕ
free_after = 3 ∷ 4 ∷ 5 ∷ 6 ∷ 7 ∷ 8 ∷ 9 ∷ 10 ∷ []

abbrev pub store : List (Option Open) → List ℕ → Meaning → View
store slots free disk = record { ready = true; slots = slots; free = free; disk = disk }

-- just formatted; with Hall.IR in slot 0, of no bytes; with five bytes; registered; closed; deleted
abbrev pub formatted_store : Bool → View
formatted_store calm = store none_open (2 ∷ free_after) (disk_of calm (contents [] blank))

abbrev pub new_store : Bool → View
new_store calm = store (hall_open Anonymous 0 []) free_after (disk_of calm (contents [] blank))

abbrev pub written_store : Bool → View
written_store calm = store (hall_open Anonymous 5 first_bytes) free_after (disk_of calm (contents [] blank))

abbrev pub registered_store : Bool → View
registered_store calm = store (hall_open Registered 5 first_bytes) free_after (disk_of calm (contents hall_entry (hall_sector 5 first_bytes)))

abbrev pub closed_store : Bool → View
closed_store calm = store none_open free_after (disk_of calm (contents hall_entry (hall_sector 5 first_bytes)))

abbrev pub deleted_store : Bool → View
deleted_store calm = store none_open free_after (disk_of calm (contents [] (hall_sector 5 first_bytes)))

-- the Register's first Put was accepted and its Settle was gone: sector 2 may be either. The store then waits
abbrev pub lost_disk : Meaning
lost_disk =
    record { size = sector_count; live = false; calm = false; shown = contents [] (hall_sector 5 first_bytes); may = λ n. contents [] blank n ∷ contents [] (hall_sector 5 first_bytes) n ∷ [] }

abbrev pub lost_store : View
lost_store = record { ready = false; slots = hall_open Anonymous 5 first_bytes; free = free_after; disk = lost_disk }

-- a store without a memory
abbrev pub waiting : Meaning → View
waiting disk = record { ready = false; slots = none_open; free = []; disk = disk }

-- restarted: the file without a name is forgotten
abbrev pub forgotten_store : View
forgotten_store = store none_open (2 ∷ free_after) (disk_of false (contents [] (hall_sector 5 first_bytes)))

-- a disk that does not answer any more, and one that is too small
abbrev pub off : Meaning → Meaning
off m = record { size = m.size; live = false; calm = m.calm; shown = m.shown; may = m.may }

abbrev pub small_disk : Meaning
small_disk = record { size = 2; live = true; calm = true; shown = λ n. blank; may = λ n. blank ∷ [] }

-- as it is promised, apart from what is kept towards the ledger. A call is so of every table that the store before it holds
abbrev pub Kept : Ledger → View → Type 0
Kept l v = Unit {0}

abbrev pub Does : View → Call → Answer → View → Type 0
Does = Did Kept

-- on a calm disk or not: the first store holds the empty table, and each call goes on from a store that another one left
pub record Witnesses (calm : Bool) : Type 0 where
  pub format : Formatted Kept (waiting (disk_of calm (λ n. blank))) Done (formatted_store calm)
  pub holds : Holds (formatted_store calm) (formatted sector_count)
  pub new : Does (formatted_store calm) (New hall) (Slotted 0) (new_store calm)
  pub write : Does (new_store calm) (Write (at 0 0) first_bytes) (Wrote 5 (at 0 5)) (written_store calm)
  pub register : Does (written_store calm) (Register 0) Done (registered_store calm)
  pub close : Does (registered_store calm) (Close 0) Done (closed_store calm)
  pub start : Starts Kept (waiting (off (closed_store calm).disk)) Done (closed_store calm)
  pub old : Does (closed_store calm) (Old hall) (Slotted 0) (registered_store calm)
  pub delete : Does (closed_store calm) (Delete hall) Done (deleted_store calm)
  pub set : Does (registered_store calm) (Set 0 9) (Riding (at 0 5)) (registered_store calm)
  pub read : Does (registered_store calm) (Read (at 0 2) (replicate 10 0)) (HasRead 3 (at_end 0 5) (codes "rst" ++ replicate 7 0)) (registered_store calm)
  pub list : Does (registered_store calm) (Names (no_row ∷ [])) (Named 1 (row 2 5 ∷ [])) (registered_store calm)
  -- eight sectors are free, and New would leave seven
  pub refused : Does (new_store calm) (New []) (No NoRoom) (new_store calm)

-- 3, and 1
pub record Refused : Type 0 where
  pub register : Does (written_store false) (Register 0) (No (by_disk lost)) lost_store
  pub read : Does (registered_store false) (Read (at 0 2) (replicate 10 0)) (NoRead lost 1 (at 0 3) (codes "r" ++ replicate 9 0)) (waiting (off (registered_store false).disk))
  pub list : Does (registered_store false) (Names (no_row ∷ [])) (NoNames lost 0 (no_row ∷ [])) (waiting (off (registered_store false).disk))
  pub after : Does lost_store (Close 0) (No Waiting) lost_store
  pub start : Starts Kept lost_store Done forgotten_store
  pub start_lost : Starts Kept lost_store (No (by_disk lost)) (waiting lost_disk)
  pub format : Formatted Kept lost_store (No (by_disk lost)) lost_store
  pub start_small : Starts Kept (waiting small_disk) (No (by_layout BadSize)) (waiting small_disk)
  pub format_small : Formatted Kept (waiting small_disk) (No (by_layout BadSize)) (waiting small_disk)
