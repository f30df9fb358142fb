-- Worked examples: small disks, and what is found on them.
use Rattle.std.specs.Prelude.{◌≡◌, ℕ, zero, suc, ◌+◌, ◌-◌, List, [], ◌∷◌, ◌++◌, map, length, replicate, Ok, Err, slice_index_or}
use Rattle.numbers.specs.Names.{Key, name_field}
use Rattle.numbers.specs.Lengths.{header_size, most_tables}
use Rattle.numbers.specs.Sectors.{address}
use Rattle.layout.specs.Words.{stored, stored_all}
use Rattle.layout.specs.Entries.{page_mark, zeros_at, entries_at}
use Rattle.layout.specs.Headers.{file_mark}
use Rattle.tree.specs.Tree.{Item, item, page}
use Rattle.disk.specs.Meaning.{Contents}
use Rattle.catalog.specs.declared.fault.LayoutFault.{LayoutFault}
use Rattle.catalog.specs.declared.fault.LayoutFault.TheVariants.{BadSize, BadMark, BadCount, BadAddress, MetBefore, BadLevel, BadEntry, BadLength}
use Rattle.catalog.specs.Catalogs.{Laid, Extent, Catalog, range}
use Rattle.catalog.specs.Questions.{at, found}

-- an entry as it is stored: the name's field, the address of the file and that of the page below
pub record Stored : Type 0 where
  pub field : List ℕ
  pub file : ℕ
  pub below : ℕ

abbrev pub entries_stored : List Stored → List ℕ
entries_stored [] = []
entries_stored (e ∷ es) = e.field ++ (stored e.file ++ (stored e.below ++ entries_stored es))

-- a page by its mark, number of entries, p0, bytes 12 to 63 and entries; and one with the mark, the number and the zeros due
abbrev pub raw_page : ℕ → ℕ → ℕ → List ℕ → List Stored → Contents
raw_page mark count p0 zeros es = stored mark ++ (stored count ++ (stored p0 ++ (zeros ++ entries_stored es)))

abbrev pub zeros : List ℕ
zeros = replicate (entries_at - zeros_at) 0

abbrev pub page_of : ℕ → List Stored → Contents
page_of p0 es = raw_page page_mark (length es) p0 zeros es

-- a first sector by its mark, last file sector, bytes used there, extension addresses and sector addresses
abbrev pub raw_file : ℕ → ℕ → ℕ → List ℕ → List ℕ → Contents
raw_file mark a b tabs parts = stored mark ++ (name_field [] ++ (stored a ++ (stored b ++ (stored 0 ++ (stored_all (tabs ++ replicate (most_tables - length tabs) 0) ++ stored_all parts)))))

abbrev pub file_of : ℕ → ℕ → List ℕ → List ℕ → Contents
file_of a b tabs parts = raw_file file_mark a b tabs parts

-- the first sector of an empty file, and those of n empty files from a sector on
abbrev pub empty_file : ℕ → Contents
empty_file s = file_of 0 header_size [] (address s ∷ [])

abbrev pub empty_files : ℕ → ℕ → List Contents
empty_files s zero = []
empty_files s (suc n) = empty_file s ∷ empty_files (suc s) n

-- the contents of sectors 1 and up as a list has them
abbrev pub sectors : List Contents → ℕ → Contents
sectors list s = slice_index_or list (s - 1) []

-- and with fifty more behind them, each the first one of an empty file
abbrev pub disk : List Contents → ℕ → Contents
disk list = sectors (list ++ empty_files (suc (length list)) 50)

-- the name of one letter, the i-th; an entry of a leaf, and n of them from a letter and a sector on
abbrev pub letter : ℕ → Key
letter i = (65 + i) ∷ []

abbrev pub leaf_entry : ℕ → ℕ → Stored
leaf_entry i s = record { field = name_field (letter i); file = address s; below = 0 }

abbrev pub run : ℕ → ℕ → ℕ → List Stored
run i s zero = []
run i s (suc n) = leaf_entry i s ∷ run (suc i) (suc s) n

abbrev pub entry : ℕ → ℕ → ℕ → Stored
entry i s below = record { field = name_field (letter i); file = address s; below = address below }

-- a root of one entry over two leaves of twelve: sectors 1, 2 and 3
abbrev pub two_leaves : List Contents
two_leaves = page_of (address 2) (entry 12 10 3 ∷ []) ∷ page_of 0 (run 0 20 12) ∷ page_of 0 (run 13 40 12) ∷ []

-- and the catalog that it holds
abbrev pub items : ℕ → ℕ → ℕ → List (Item Key (Laid 0))
items i s zero = []
items i s (suc n) = item (letter i, s) tt ∷ items (suc i) (suc s) n

abbrev pub empty_extents : ℕ → ℕ → List Extent
empty_extents s zero = []
empty_extents s (suc n) = record { long = 0; parts = s ∷ []; tabs = [] } ∷ empty_extents (suc s) n

abbrev pub two_leaves_catalog : Catalog
two_leaves_catalog = record {
  over = 1;
  root = (1, page (2, page tt (items 0 20 12)) (item (letter 12, 10) (3, page tt (items 13 40 12)) ∷ []));
  files = empty_extents 20 12 ++ (empty_extents 10 1 ++ empty_extents 40 12);
}

-- what is found on a disk of 100 sectors
abbrev pub Holds : List Contents → Catalog → Type 0
Holds list c = found 100 (disk list) ≡ Ok c

abbrev pub Refuses : List Contents → LayoutFault → Type 0
Refuses list e = found 100 (disk list) ≡ Err e

-- a root leaf with one entry, whose file begins in sector 2, with more sectors from there on
abbrev pub one_file : List Contents → List Contents
one_file list = page_of 0 (leaf_entry 0 2 ∷ []) ∷ list

-- the first sector of a file in sectors 2, 4 to 66 and one more, whose address stands in a table
abbrev pub long_file : List ℕ → Contents
long_file tabs = file_of 64 1 tabs (address 2 ∷ map address (range 4 63))

abbrev pub long_file_catalog : Catalog
long_file_catalog =
    record { over = 0; root = (1, page tt (items 0 2 1)); files = record { long = 65185; parts = 2 ∷ (range 4 63 ++ 67 ∷ []); tabs = 3 ∷ [] } ∷ [] }

-- a root of one entry over a page, with more sectors from there on
abbrev pub over_page : List Contents → List Contents
over_page list = page_of (address 2) (entry 12 10 3 ∷ []) ∷ list

-- an inner page without its entries
abbrev pub inner : ℕ → ℕ → Contents
inner count first = raw_page page_mark count (address first) zeros []

abbrev pub empty_catalog : Catalog
empty_catalog = record { over = 0; root = (1, page tt []); files = [] }

pub record Accepted : Type 0 where
  pub fewest : found 3 (disk (page_of 0 [] ∷ [])) ≡ Ok empty_catalog
  pub most : found 16384 (disk (page_of 0 [] ∷ [])) ≡ Ok empty_catalog
  pub two : Holds two_leaves two_leaves_catalog
  pub long : Holds (one_file (long_file (address 3 ∷ []) ∷ stored_all (address 67 ∷ []) ∷ [])) long_file_catalog

-- 1
pub record BadSizes : Type 0 where
  pub few : found 2 (disk two_leaves) ≡ Err BadSize
  pub many : found 16385 (disk two_leaves) ≡ Err BadSize

-- 11: in the root, another page, a first sector
pub record BadMarks : Type 0 where
  pub root : Refuses (raw_page 0 0 0 zeros [] ∷ []) (BadMark (at 1))
  pub not_zero : Refuses (raw_page page_mark 0 0 (replicate 51 0 ++ 1 ∷ []) [] ∷ []) (BadMark (at 1))
  pub other : Refuses (over_page (raw_page 0 12 0 zeros [] ∷ [])) (BadMark (at 2))
  pub file : Refuses (one_file (raw_file 0 0 header_size [] (address 2 ∷ []) ∷ [])) (BadMark (at 2))

-- 12: in a root leaf, a root with children, another page
pub record BadCounts : Type 0 where
  pub leaf : Refuses (raw_page page_mark 25 0 zeros [] ∷ []) (BadCount (at 1))
  pub parent_few : Refuses (inner 0 2 ∷ []) (BadCount (at 1))
  pub parent_many : Refuses (inner 25 2 ∷ []) (BadCount (at 1))
  pub other_few : Refuses (over_page (page_of 0 (run 0 20 11) ∷ [])) (BadCount (at 2))
  pub other_many : Refuses (over_page (inner 25 3 ∷ [])) (BadCount (at 2))

-- 13: not of a sector, of the root or past the end; or not 0 where it should be
pub record BadAddresses : Type 0 where
  pub first_odd : Refuses (page_of 30 (entry 12 10 3 ∷ []) ∷ []) (BadAddress (at 1))
  pub first_root : Refuses (page_of (address 1) (entry 12 10 3 ∷ []) ∷ []) (BadAddress (at 1))
  pub first_past : Refuses (page_of (address 100) (entry 12 10 3 ∷ []) ∷ []) (BadAddress (at 1))
  -- an entry's file, its p in a leaf and in another page
  pub file : Refuses (page_of 0 (leaf_entry 0 0 ∷ []) ∷ []) (BadAddress (at 1))
  pub below_leaf : Refuses (page_of 0 (entry 0 2 3 ∷ []) ∷ []) (BadAddress (at 1))
  pub below_none : Refuses (page_of (address 2) (entry 12 10 0 ∷ []) ∷ page_of 0 (run 0 20 12) ∷ []) (BadAddress (at 1))
  -- sector address 0, one in use and one past the end
  pub own : Refuses (one_file (file_of 0 header_size [] (address 3 ∷ []) ∷ [])) (BadAddress (at 2))
  pub near : Refuses (one_file (file_of 1 1 [] (address 2 ∷ 0 ∷ []) ∷ [])) (BadAddress (at 2))
  pub near_past : Refuses (one_file (file_of 0 header_size [] (address 2 ∷ address 3 ∷ []) ∷ [])) (BadAddress (at 2))
  -- an extension address in use and one past the end, and a table's entry
  pub extension : Refuses (one_file (long_file [] ∷ [])) (BadAddress (at 2))
  pub extension_past : Refuses (one_file (file_of 0 header_size (address 3 ∷ []) (address 2 ∷ []) ∷ [])) (BadAddress (at 2))
  pub table : Refuses (one_file (long_file (address 3 ∷ []) ∷ stored_all (0 ∷ []) ∷ [])) (BadAddress (at 3))

-- 14: at each kind of address
pub record MetTwice : Type 0 where
  pub first : Refuses (over_page (inner 12 2 ∷ [])) (MetBefore (at 2))
  pub file : Refuses (page_of 0 (leaf_entry 0 2 ∷ leaf_entry 1 2 ∷ []) ∷ []) (MetBefore (at 1))
  pub below : Refuses (page_of (address 2) (entry 12 10 2 ∷ []) ∷ page_of 0 (run 0 20 12) ∷ []) (MetBefore (at 1))
  pub near : Refuses (one_file (file_of 1 1 [] (address 2 ∷ address 2 ∷ []) ∷ [])) (MetBefore (at 2))
  pub extension : Refuses (one_file (long_file (address 66 ∷ []) ∷ [])) (MetBefore (at 2))
  pub table : Refuses (one_file (long_file (address 3 ∷ []) ∷ stored_all (address 3 ∷ []) ∷ [])) (MetBefore (at 3))

-- 15: a page on level 5, a leaf below the first leaf's level
pub record BadLevels : Type 0 where
  pub five : Refuses (inner 1 2 ∷ inner 12 3 ∷ inner 12 4 ∷ inner 12 5 ∷ page_of 0 (run 0 20 12) ∷ []) (BadLevel (at 5))
  pub leaf : Refuses (over_page (page_of 0 (run 0 20 12) ∷ inner 12 4 ∷ page_of 0 (run 13 40 12) ∷ [])) (BadLevel (at 4))

-- a root leaf of one entry with this name field
abbrev pub one_named : List ℕ → List Contents
one_named field = page_of 0 (record { field = field; file = address 2; below = 0 } ∷ []) ∷ []

-- 16: a name that is not good, one that is not above the last one in the page, or across pages
pub record BadEntries : Type 0 where
  pub empty : Refuses (one_named (name_field [])) (BadEntry (at 1))
  pub digit : Refuses (one_named (name_field (49 ∷ []))) (BadEntry (at 1))
  pub not_filled : Refuses (one_named (65 ∷ 0 ∷ 66 ∷ replicate 29 0)) (BadEntry (at 1))
  pub long : Refuses (one_named (replicate 32 65)) (BadEntry (at 1))
  pub same : Refuses (page_of 0 (leaf_entry 0 2 ∷ leaf_entry 0 3 ∷ []) ∷ []) (BadEntry (at 1))
  pub below : Refuses (page_of 0 (leaf_entry 1 2 ∷ leaf_entry 0 3 ∷ []) ∷ []) (BadEntry (at 1))
  pub after_child : Refuses (page_of (address 2) (entry 11 10 3 ∷ []) ∷ page_of 0 (run 0 20 12) ∷ []) (BadEntry (at 1))
  pub in_child : Refuses (over_page (page_of 0 (run 0 20 12) ∷ page_of 0 (run 12 40 12) ∷ [])) (BadEntry (at 3))

-- 17: at each bound
pub record BadLengths : Type 0 where
  pub last : Refuses (one_file (file_of 3136 1 [] (address 2 ∷ []) ∷ [])) (BadLength (at 2))
  pub first_used : Refuses (one_file (file_of 0 351 [] (address 2 ∷ []) ∷ [])) (BadLength (at 2))
  pub none_used : Refuses (one_file (file_of 1 0 [] (address 2 ∷ []) ∷ [])) (BadLength (at 2))
  pub most_used : Refuses (one_file (file_of 1 1025 [] (address 2 ∷ []) ∷ [])) (BadLength (at 2))

pub record Examples : Type 0 where
  pub accepted : Accepted
  pub sizes : BadSizes
  pub marks : BadMarks
  pub counts : BadCounts
  pub addresses : BadAddresses
  pub met : MetTwice
  pub levels : BadLevels
  pub entries : BadEntries
  pub lengths : BadLengths
