-- What Write and Close promise can be kept where a file grows: its sectors in memory are then more than those laid down.
use Rattle.std.specs.Prelude.{ℕ, true, cond, List, [], ◌∷◌, ◌++◌, replicate, Some, None, Option, ◌==◌}
use Rattle.layout.specs.Headers.{header_bytes}
use Rattle.disk.specs.Meaning.{Contents, Meaning}
use Rattle.catalog.specs.Catalogs.{Extent}
use Rattle.catalog.specs.Written.{header_of}
use Rattle.promise.specs.declared.fault.FileFault.TheVariants.{NoRoom}
use Rattle.promise.specs.Table.{Registered, Table, New, Write, Register, Close, Done, Wrote, No, formatted}
use Rattle.promise.specs.Promise.{Open, View}
use Rattle.promise.specs.Calls.{Holds, Turned}
use Rattle.promise.specs.Examples.{after, at, hall, counting}
use Rattle.promise.specs.Witnesses.{settled_disk, contents, hall_sector, first_bytes, hall_entry, none_open, hall_open, store}

-- five bytes and 668 more fill the file's first sector, and one lies in sector 3
abbrev pub more_bytes : List ℕ
more_bytes = replicate 668 7

abbrev pub in_two : Extent
in_two = record { long = 673; parts = 2 ∷ 3 ∷ []; tabs = [] }

abbrev pub longer_sector : Contents
longer_sector = header_bytes (header_of hall in_two) ++ (first_bytes ++ replicate 667 7)

abbrev pub with_third : (ℕ → Contents) → ℕ → Contents
with_third shown n = cond (n == 3) (7 ∷ replicate 1023 0) (shown n)

-- what twelve sectors show: with the five bytes; with sector 3, not settled yet; and with the longer file
abbrev pub short_shown : ℕ → Contents
short_shown = contents hall_entry (hall_sector 5 first_bytes)

abbrev pub grown_disk : Meaning
grown_disk = record { size = 12; live = true; calm = true; shown = with_third short_shown; may = λ n. with_third short_shown n ∷ short_shown n ∷ [] }

abbrev pub longer_shown : ℕ → Contents
longer_shown = with_third (contents hall_entry longer_sector)

-- THE STORE: with the file as it was registered; longer; and closed
abbrev pub short_store : View
short_store = store (hall_open Registered 5 first_bytes) (counting 3 9) (settled_disk 12 true short_shown)

abbrev pub longer_open : List (Option Open)
longer_open = Some (record { slot = record { file = 2; sort = Registered; name = hall; handles = 1 }; long = 673; first = longer_sector }) ∷ replicate 7 None

abbrev pub grown_store : View
grown_store = store longer_open (counting 4 8) grown_disk

abbrev pub longer_store : View
longer_store = store none_open (counting 4 8) (settled_disk 12 true longer_shown)

-- the tables that they hold
abbrev pub short_table : Table
short_table = after (formatted 12) ((2, New hall) ∷ (0, Write (at 0 0) first_bytes) ∷ (0, Register 0) ∷ [])

abbrev pub grown_table : Table
grown_table = after short_table ((0, Write (at 0 5) more_bytes) ∷ [])

-- of the table that the store holds, each call is as it is promised
pub record Growing : Type 0 where
  pub short : Holds short_store short_table
  pub write : (h : Holds short_store short_table) → Turned short_store short_table h (Write (at 0 5) more_bytes) (Wrote 668 (at 0 673)) grown_store
  -- eight sectors are free, and New would leave seven
  pub refused : (h : Holds grown_store grown_table) → Turned grown_store grown_table h (New []) (No NoRoom) grown_store
  pub close : (h : Holds grown_store grown_table) → Turned grown_store grown_table h (Close 0) Done longer_store
