-- Laws of the layout: what is found is what is laid, which contents are read, and what is written is laid.
use Rattle.std.specs.Prelude.{◌≡◌, ℕ, zero, suc, ◌+◌, ◌*◌, ◌/◌, ◌^◌, ◌<◌, ◌≤◌, ◌⊎◌, ◌↔◌, true, cond, List, ◌∷◌, ◌++◌, length, take, reverse, Ok, Err, slice_index, slice_index_or}
use Rattle.numbers.specs.Names.{Key, name_size}
use Rattle.numbers.specs.Lengths.{sector_size, header_size, near_sectors, table_sectors, longest, last_sector, tables}
use Rattle.numbers.specs.Sectors.{address_step, address, leads}
use Rattle.layout.specs.Words.{word_size, word}
use Rattle.layout.specs.Entries.{first_at, most_entries}
use Rattle.layout.specs.Pages.{page_bytes}
use Rattle.layout.specs.Headers.{header_bytes, IsHeader}
use Rattle.tree.specs.Tree.{Entry, Item, item, Page, page, most_levels, All}
use Rattle.disk.specs.Meaning.{Contents, In}
use Rattle.catalog.specs.declared.fault.LayoutFault.{LayoutFault}
use Rattle.catalog.specs.Catalogs.{Laid, Extent, Catalog, Distinct, Divided, entries, page_sectors, file_sectors, free_sectors, rows}
use Rattle.catalog.specs.Lays.{Lays, root_sector, under, PageAt, FileAt}
use Rattle.catalog.specs.Written.{page_data, header_of}
use Rattle.catalog.specs.Questions.{good_size, Sofar, ask_page, leaf_level, asked, found, catalog, file_found}

-- each sector of the disk has 1,024 bytes
abbrev pub Sized : ℕ → (ℕ → Contents) → Type 0
Sized size shown = (s : ℕ) → s < size → length (shown s) ≡ 1024

-- FOUND AND LAID. On 3 to 16,384 sectors, a catalog is found exactly when it is laid
abbrev pub FoundLaid : Type 0
FoundLaid = (size : ℕ) (shown : ℕ → Contents) (c : Catalog) → Sized size shown → (found size shown ≡ Ok c) ↔ ((good_size size ≡ true) × Lays size shown c)

-- and no other catalog is laid
abbrev pub Unique : Type 0
Unique = (size : ℕ) (shown : ℕ → Contents) (c d : Catalog) → Sized size shown → good_size size ≡ true → Lays size shown c → Lays size shown d → c ≡ d

-- where a question has a no, none is laid
abbrev pub RefusedNone : Type 0
RefusedNone = (size : ℕ) (shown : ℕ → Contents) (c : Catalog) (e : LayoutFault) → Sized size shown → good_size size ≡ true → found size shown ≡ Err e → Lays size shown c → ⊥

-- WHAT IS READ of the contents: the catalog's pages, its files' first sectors before the data, the used entries of their tables
pub record SameRead (c : Catalog) (shown shown' : ℕ → Contents) : Type 0 where
  pub pages : (s : ℕ) → In s (page_sectors c) → shown' s ≡ shown s
  pub heads : (x : Extent) → In x c.files → take header_size (shown' (slice_index x.parts 0)) ≡ take header_size (shown (slice_index x.parts 0))
  pub tabs : (x : Extent) → In x c.files → (k j : ℕ) → j < table_sectors → near_sectors + table_sectors * k + j < length x.parts →
      word (shown' (slice_index x.tabs k)) (word_size * j) ≡ word (shown (slice_index x.tabs k)) (word_size * j)

-- contents that differ elsewhere lay the same catalog, and it is found in them
abbrev pub Frame : Type 0
Frame = (size : ℕ) (shown shown' : ℕ → Contents) (c : Catalog) → SameRead c shown shown' → Lays size shown c → Lays size shown' c

abbrev pub FoundFrame : Type 0
FoundFrame = (size : ℕ) (shown shown' : ℕ → Contents) (c : Catalog) → Sized size shown → Sized size shown' → SameRead c shown shown' → found size shown ≡ Ok c → found size shown' ≡ Ok c

-- SECTORS. Those met are the catalog's, each met once
pub record Met (size : ℕ) (shown : ℕ → Contents) (s : Sofar) : Type 0 where
  pub same : (n : ℕ) → In n s.met ↔ In n (page_sectors (catalog size shown) ++ file_sectors (catalog size shown))
  pub once : Distinct s.met
  pub count : length s.met ≡ length (page_sectors (catalog size shown)) + length (file_sectors (catalog size shown))

abbrev pub MetSectors : Type 0
MetSectors = (size : ℕ) (shown : ℕ → Contents) (s : Sofar) → asked size shown ≡ Ok s → Met size shown s

-- with the free ones they are all from 1 up, and each has one use
abbrev pub Divides : Type 0
Divides = (size : ℕ) (shown : ℕ → Contents) (c : Catalog) → Lays size shown c → Divided size c (free_sectors size c)

-- LISTING. The files found, in their order, are the lines of the catalog
abbrev pub Listed : Type 0
Listed = (size : ℕ) (shown : ℕ → Contents) (s : Sofar) → asked size shown ≡ Ok s → reverse s.listed ≡ rows (catalog size shown)

-- THE FIRST LEAF. The level at which p0 leads to no sector any more, n pages down at most
unfoldable pub last_level : ℕ → (ℕ → Contents) → ℕ → ℕ → ℕ → ℕ
last_level size shown zero level s = level
last_level size shown (suc n) level s =
    let p0 = word (shown s) first_at in cond (leads size p0) (last_level size shown n (suc level) (p0 / address_step)) level

-- it serves as well: where the two differ, a page with a bad address is refused before a leaf is asked. So nothing past the last sector
-- has to be read
abbrev pub LastLevel : Type 0
LastLevel = (size : ℕ) (shown : ℕ → Contents) (s : Sofar) →
    ask_page size shown (last_level size shown most_levels 1 root_sector) 5 1 root_sector s ≡ ask_page size shown (leaf_level size shown) 5 1 root_sector s

-- ONE FILE ALONE. A file of a catalog passes its questions when it is asked alone, and what is found is its extent
pub data Named (e : Entry Key) (x : Extent) : List (Entry Key) → List Extent → Type 0 where
  here : {es : List (Entry Key)} {xs : List Extent} → Named e x (e ∷ es) (x ∷ xs)
  later : {f : Entry Key} {y : Extent} {es : List (Entry Key)} {xs : List Extent} → Named e x es xs → Named e x (f ∷ es) (y ∷ xs)

abbrev pub FileAlone : Type 0
FileAlone = (size : ℕ) (shown : ℕ → Contents) (c : Catalog) (e : Entry Key) (x : Extent) → good_size size ≡ true → Lays size shown c → Named e x (entries c) c.files →
    file_found size shown e.1 ≡ Ok x

-- WRITTEN. A page can be written if it has at most 24 entries, its names fit their fields and its addresses 32 bits
abbrev pub ItemFits : (n : ℕ) → Item Key (Laid n) → Type 0
ItemFits n (item e d) = (length e.0 ≤ name_size) × (address e.1 < 2 ^ 32) × (under n d < 2 ^ 32)

abbrev pub PageFits : (n : ℕ) → Page Key (Laid n) → Type 0
PageFits n (page d xs) = (length xs ≤ most_entries) × (under n d < 2 ^ 32) × All (ItemFits n) xs

-- as it is written it is laid, and fills its sector
abbrev pub PageWritten : Type 0
PageWritten = (n : ℕ) (p : Page Key (Laid n)) → PageFits n p → PageAt n (page_bytes (page_data n p)) p × (length (page_bytes (page_data n p)) ≡ sector_size)

-- a file can be written under a name if the name fits its field, the file has the sectors and tables of its length, and the addresses fit
pub record FileFits (name : Key) (x : Extent) : Type 0 where
  pub short : length name ≤ name_size
  pub fits : x.long ≤ longest
  pub parts : length x.parts ≡ 1 + last_sector x.long
  pub tabs : length x.tabs ≡ tables (last_sector x.long)
  pub small : (s : ℕ) → In s x.parts ⊎ In s x.tabs → address s < 2 ^ 32

-- its header is one as its type has it
abbrev pub HeaderTyped : Type 0
HeaderTyped = (name : Key) (x : Extent) → FileFits name x → IsHeader (header_of name x)

-- the first sector begins with the header, and the tables have their words in use
pub record HeaderAt (shown : ℕ → Contents) (s : ℕ) (name : Key) (x : Extent) : Type 0 where
  pub first : slice_index_or x.parts 0 0 ≡ s
  pub head : take header_size (shown s) ≡ header_bytes (header_of name x)
  pub far : (k j : ℕ) → j < table_sectors → near_sectors + table_sectors * k + j < length x.parts →
      word (shown (slice_index x.tabs k)) (word_size * j) ≡ address (slice_index x.parts (near_sectors + table_sectors * k + j))

-- then the file is laid
abbrev pub HeadWritten : Type 0
HeadWritten = (shown : ℕ → Contents) (s : ℕ) (name : Key) (x : Extent) → FileFits name x → HeaderAt shown s name x → FileAt shown s x
