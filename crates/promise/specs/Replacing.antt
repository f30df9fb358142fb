-- What Register and Close promise can be kept where a name is taken over while its old file is open.
use Rattle.std.specs.Prelude.{ℕ, true, cond, [], ◌∷◌, ◌++◌, replicate, Some, None, Option, ◌==◌}
use Rattle.layout.specs.Words.{blank}
use Rattle.layout.specs.Headers.{header_bytes}
use Rattle.tree.specs.Tree.{item}
use Rattle.disk.specs.Meaning.{Contents}
use Rattle.catalog.specs.Catalogs.{Extent}
use Rattle.catalog.specs.Written.{header_of}
use Rattle.promise.specs.Table.{Sort, Anonymous, Registered, Table, New, Write, Register, Close, Done, formatted}
use Rattle.promise.specs.Promise.{Open, View}
use Rattle.promise.specs.Calls.{Holds, Turned}
use Rattle.promise.specs.Examples.{after, at, hall, counting}
use Rattle.promise.specs.Witnesses.{settled_disk, root_of, first_bytes, store}

-- Hall.IR of five bytes in sector n alone, and that sector
abbrev pub file_in : ℕ → Extent
file_in n = record { long = 5; parts = n ∷ []; tabs = [] }

abbrev pub sector_in : ℕ → Contents
sector_in n = header_bytes (header_of hall (file_in n)) ++ (first_bytes ++ replicate 667 0)

-- what twelve sectors show: the name leads to sector n; sector 2 has the old file, and sector 3 is as given
abbrev pub shown_to : ℕ → Contents → ℕ → Contents
shown_to n third s = cond (s == 1) (root_of (item (hall, n) tt ∷ [])) (cond (s == 2) (sector_in 2) (cond (s == 3) third blank))

-- THE STORE: the old file in slot 0 and a new one in slot 1; the name taken over; the old file closed
abbrev pub open_in : ℕ → Sort → Option Open
open_in n sort = Some (record { slot = record { file = n; sort = sort; name = hall; handles = 1 }; long = 5; first = sector_in n })

abbrev pub both_store : View
both_store = store (open_in 2 Registered ∷ open_in 3 Anonymous ∷ replicate 6 None) (counting 4 8) (settled_disk 12 true (shown_to 2 blank))

abbrev pub taken_store : View
taken_store = store (open_in 2 Registered ∷ open_in 3 Registered ∷ replicate 6 None) (counting 4 8) (settled_disk 12 true (shown_to 3 (sector_in 3)))

abbrev pub left_store : View
left_store = store (None ∷ open_in 3 Registered ∷ replicate 6 None) (counting 4 8) (settled_disk 12 true (shown_to 3 (sector_in 3)))

-- the tables that they hold
abbrev pub both_table : Table
both_table = after (formatted 12) ((2, New hall) ∷ (0, Write (at 0 0) first_bytes) ∷ (0, Register 0) ∷ (3, New hall) ∷ (0, Write (at 1 0) first_bytes) ∷ [])

abbrev pub taken_table : Table
taken_table = after both_table ((0, Register 1) ∷ [])

-- of the table that the store holds, each call is as it is promised
pub record Replacing : Type 0 where
  pub both : Holds both_store both_table
  pub take : (h : Holds both_store both_table) → Turned both_store both_table h (Register 1) Done taken_store
  -- the old file has no name any more
  pub leave : (h : Holds taken_store taken_table) → Turned taken_store taken_table h (Close 0) Done left_store
