-- When the contents of a disk's sectors hold a catalog. Read are only pages, first sectors before the data and the used entries of
-- extension tables.
use Rattle.std.specs.Prelude.{◌≡◌, ℕ, zero, suc, ◌+◌, ◌-◌, ◌*◌, ◌<◌, ◌≤◌, true, List, [], ◌∷◌, ◌++◌, length, replicate, slice_index, slice_index_or}
use Rattle.numbers.specs.Names.{Key, name_size, good_name, name_field}
use Rattle.numbers.specs.Order.{cmp}
use Rattle.numbers.specs.Lengths.{last_sector, last_bytes, tables, longest, near_sectors, most_tables, table_sectors}
use Rattle.numbers.specs.Sectors.{address}
use Rattle.layout.specs.Words.{word_size, word, part}
use Rattle.layout.specs.Entries.{page_mark, page_mark_at, count_at, first_at, zeros_at, entries_at, entry_at, file_at, below_at}
use Rattle.layout.specs.Headers.{file_mark, mark_at, last_at, used_at, tables_at, near_at}
use Rattle.tree.specs.Tree.{Entry, Item, item, Page, page, All, Good}
use Rattle.disk.specs.Meaning.{Contents, In}
use Rattle.catalog.specs.Catalogs.{Laid, Extent, Catalog, plain_tree, entries, page_sectors, file_sectors, Distinct}

-- the root page's sector
abbrev pub root_sector : ℕ
root_sector = 1

-- the address of the page that hangs below; below a leaf there is none
abbrev pub under : (n : ℕ) → Laid n → ℕ
under zero t = 0
under (suc n) t = address t.0

-- entries i and up of a page: name, address of the file's first sector, address p
abbrev pub ItemsAt : (n : ℕ) → Contents → ℕ → List (Item Key (Laid n)) → Type 0
ItemsAt n c i [] = Unit {0}
ItemsAt n c i (item e d ∷ xs) =
    (part c (entry_at i) name_size ≡ name_field e.0) × (word c (entry_at i + file_at) ≡ address e.1) × (word c (entry_at i + below_at) ≡ under n d) × ItemsAt n c (suc i) xs

-- a directory page: mark, number of entries, p0, zeros, entries
abbrev pub PageAt : (n : ℕ) → Contents → Page Key (Laid n) → Type 0
PageAt n c (page d xs) =
    (word c page_mark_at ≡ page_mark) × (word c count_at ≡ length xs) × (word c first_at ≡ under n d)
    × (part c zeros_at (entries_at - zeros_at) ≡ replicate (entries_at - zeros_at) 0) × ItemsAt n c 0 xs

-- each child of a page is as P says
abbrev pub Below : {S : Type 0} → (S → Type 0) → List (Item Key S) → Type 0
Below P [] = Unit {0}
Below P (item e d ∷ xs) = P d × Below P xs

abbrev pub Children : {S : Type 0} → (S → Type 0) → Page Key S → Type 0
Children P (page c xs) = P c × Below P xs

-- the pages of n levels
abbrev pub LaidAt : (ℕ → Contents) → (n : ℕ) → Laid n → Type 0
LaidAt shown zero t = Unit {0}
LaidAt shown (suc n) t = PageAt n (shown t.0) t.1 × Children (LaidAt shown n) t.1

-- the sectors of a file, reached from its first sector s
pub record Reaches (shown : ℕ → Contents) (s : ℕ) (x : Extent) : Type 0 where
  pub first : slice_index_or x.parts 0 0 ≡ s
  pub parts : length x.parts ≡ 1 + last_sector x.long
  pub tabs : length x.tabs ≡ tables (last_sector x.long)
  -- twelve extension addresses and sixty-four sector addresses; past the end they are 0
  pub extensions : (k : ℕ) → k < most_tables → word (shown s) (tables_at + word_size * k) ≡ address (slice_index x.tabs k)
  pub near : (i : ℕ) → i < near_sectors → word (shown s) (near_at + word_size * i) ≡ address (slice_index x.parts i)
  -- table k has the addresses of file sectors 64 + 256 × k and up; past the end they are left free
  pub far : (k j : ℕ) → j < table_sectors → near_sectors + table_sectors * k + j < length x.parts →
      word (shown (slice_index x.tabs k)) (word_size * j) ≡ address (slice_index x.parts (near_sectors + table_sectors * k + j))

-- a file at its first sector s
pub record FileAt (shown : ℕ → Contents) (s : ℕ) (x : Extent) : Type 0 where
  pub fits : x.long ≤ longest
  pub mark : word (shown s) mark_at ≡ file_mark
  pub last : word (shown s) last_at ≡ last_sector x.long
  pub used : word (shown s) used_at ≡ last_bytes x.long
  pub reaches : Reaches shown s x

-- the files of the entries, one by one
abbrev pub FilesAt : (ℕ → Contents) → List (Entry Key) → List Extent → Type 0
FilesAt shown [] [] = Unit {0}
FilesAt shown [] (x ∷ xs) = ⊥
FilesAt shown (e ∷ es) [] = ⊥
FilesAt shown (e ∷ es) (x ∷ xs) = FileAt shown e.1 x × FilesAt shown es xs

-- the contents of a disk of that size hold exactly this catalog
pub record Lays (size : ℕ) (shown : ℕ → Contents) (c : Catalog) : Type 0 where
  pub root : c.root.0 ≡ root_sector
  -- names rise; at most four levels; entries in a page
  pub good : Good cmp (plain_tree c)
  pub names : All (λ (e : Entry Key). good_name e.0 ≡ true) (entries c)
  pub pages : LaidAt shown (suc c.over) c.root
  pub files : FilesAt shown (entries c) c.files
  -- each sector has one use
  pub once : Distinct (page_sectors c ++ file_sectors c)
  pub within : (s : ℕ) → In s (page_sectors c ++ file_sectors c) → (1 ≤ s) × (s < size)
