-- What Register and Delete promise can be kept where pages are split and joined: a directory of one full page gets an entry more and is
-- a root over two pages, of which one then changes; or an entry goes, and it is one page again.
use Rattle.std.specs.Prelude.{ℕ, suc, ◌-◌, true, cond, List, [], ◌∷◌, ◌++◌, replicate, Some, None, Option, ◌==◌}
use Rattle.numbers.specs.Lengths.{sector_size, header_size}
use Rattle.layout.specs.Headers.{header_bytes}
use Rattle.layout.specs.Pages.{page_bytes}
use Rattle.tree.specs.Tree.{item, page}
use Rattle.disk.specs.Meaning.{Contents}
use Rattle.catalog.specs.Catalogs.{Laid, Extent, Catalog, plain_tree}
use Rattle.catalog.specs.Written.{page_data, header_of}
use Rattle.catalog.specs.Examples.{letter, items, empty_extents}
use Rattle.promise.specs.Table.{Sort, Anonymous, Registered, Table, New, Register, Delete, Done, empty_file, no_slots}
use Rattle.promise.specs.Promise.{Open, View}
use Rattle.promise.specs.Calls.{Holds, Turned}
use Rattle.promise.specs.Examples.{after, counting}
use Rattle.promise.specs.Witnesses.{settled_disk}

-- THE DISK: forty sectors, settled. Sector s is the first one of a file of no bytes, named A in sector 2, B in 3 and so on, unless a page
-- is there
abbrev pub extent_at : ℕ → Extent
extent_at s = record { long = 0; parts = s ∷ []; tabs = [] }

abbrev pub file_sector : ℕ → Contents
file_sector s = header_bytes (header_of (letter (s - 2)) (extent_at s)) ++ replicate (sector_size - header_size) 0

-- a page of n levels, in its sector
abbrev pub with_page : (n : ℕ) → Laid (suc n) → (ℕ → Contents) → ℕ → Contents
with_page n p shown s = cond (s == p.0) (page_bytes (page_data n p.1)) (shown s)

-- DIRECTORIES. A to X in one page; A to L, M, and N to Y or Z in two; B to Y in one again
abbrev pub full_root : Laid 1
full_root = (1, page tt (items 0 2 24))

abbrev pub left_leaf : Laid 1
left_leaf = (28, page tt (items 0 2 12))

abbrev pub right_leaf : Laid 1
right_leaf = (29, page tt (items 13 15 12))

abbrev pub longer_leaf : Laid 1
longer_leaf = (30, page tt (items 13 15 13))

abbrev pub root_over : Laid 1 → Laid 2
root_over right = (1, page left_leaf (item (letter 12, 14) right ∷ []))

abbrev pub joined_root : Laid 1
joined_root = (1, page tt (items 1 3 24))

abbrev pub full_catalog : Catalog
full_catalog = record { over = 0; root = full_root; files = empty_extents 2 24 }

abbrev pub split_catalog : Catalog
split_catalog = record { over = 1; root = root_over right_leaf; files = empty_extents 2 25 }

abbrev pub longer_catalog : Catalog
longer_catalog = record { over = 1; root = root_over longer_leaf; files = empty_extents 2 26 }

abbrev pub joined_catalog : Catalog
joined_catalog = record { over = 0; root = joined_root; files = empty_extents 3 24 }

-- what the sectors show, with these pages
abbrev pub full_shown : ℕ → Contents
full_shown = with_page 0 full_root file_sector

abbrev pub split_shown : ℕ → Contents
split_shown = with_page 1 (root_over right_leaf) (with_page 0 left_leaf (with_page 0 right_leaf file_sector))

abbrev pub longer_shown : ℕ → Contents
longer_shown = with_page 1 (root_over longer_leaf) (with_page 0 longer_leaf (with_page 0 left_leaf (with_page 0 right_leaf file_sector)))

abbrev pub joined_shown : ℕ → Contents
joined_shown = with_page 0 joined_root (with_page 0 left_leaf (with_page 0 right_leaf file_sector))

-- THE STORE. Two files are open, Y in slot 0 and Z in slot 1
abbrev pub open_at : ℕ → Sort → Option Open
open_at s sort = Some (record { slot = record { file = s; sort = sort; name = letter (s - 2); handles = 1 }; long = 0; first = file_sector s })

abbrev pub open_store : Sort → Sort → List ℕ → (ℕ → Contents) → View
open_store y z free shown = record { ready = true; slots = open_at 26 y ∷ open_at 27 z ∷ replicate 6 None; free = free; disk = settled_disk 40 true shown }

abbrev pub full_store : View
full_store = open_store Anonymous Anonymous (counting 28 12) full_shown

abbrev pub split_store : View
split_store = open_store Registered Anonymous (counting 30 10) split_shown

abbrev pub longer_store : View
longer_store = open_store Registered Registered (29 ∷ counting 31 9) longer_shown

abbrev pub joined_store : View
joined_store = open_store Registered Anonymous (counting 28 12) joined_shown

-- the tables that they hold
abbrev pub named_table : Table
named_table = record { ready = true; tree = plain_tree full_catalog; files = λ (n : ℕ). empty_file; slots = no_slots; free = 14 }

abbrev pub full_table : Table
full_table = after named_table ((26, New (letter 24)) ∷ (27, New (letter 25)) ∷ [])

abbrev pub split_table : Table
split_table = after full_table ((0, Register 0) ∷ [])

-- of the table that the store holds, each call is as it is promised
pub record Splits : Type 0 where
  pub full : Holds full_store full_table
  -- Y is registered: a root of 25 is split over two new pages
  pub split : (h : Holds full_store full_table) → Turned full_store full_table h (Register 0) Done split_store
  -- Z is registered: one page goes to another sector, and the other stays
  pub longer : (h : Holds split_store split_table) → Turned split_store split_table h (Register 1) Done longer_store
  -- A goes: the two pages are joined, and they are the root
  pub joined : (h : Holds split_store split_table) → Turned split_store split_table h (Delete (letter 0)) Done joined_store
