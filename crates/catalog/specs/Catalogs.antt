-- What a volume holds: the directory with the sector of each page, and each file with its sectors.
use Rattle.std.specs.Prelude.{◌≡◌, ℕ, zero, suc, ◌+◌, ◌-◌, ◌<◌, ◌≤◌, Bool, false, cond, ◌||◌, List, [], ◌∷◌, ◌++◌, map, length, ◌==◌, slice_index}
use Rattle.numbers.specs.Names.{Key}
use Rattle.numbers.specs.Lengths.{place}
use Rattle.tree.specs.Tree.{Entry, Item, item, Page, page, Sub, Tree, to_list}
use Rattle.tree.specs.Stored.{map_page}
use Rattle.disk.specs.Meaning.{Contents, In}

-- CATALOG. n levels of pages, each with its sector
abbrev pub Laid : ℕ → Type 0
Laid zero = Unit {0}
Laid (suc n) = ℕ × Page Key (Laid n)

-- a file: its length, its file sectors (the first of them its first sector) and its extension tables
pub record Extent : Type 0 where
  pub long : ℕ
  pub parts : List ℕ
  pub tabs : List ℕ

-- the directory, with `over` levels below its root, and the files of its entries in the order of names
pub record Catalog : Type 0 where
  pub over : ℕ
  pub root : Laid (suc over)
  pub files : List Extent

-- the plain tree, without the sectors of pages, and its entries in order; an entry leads to its file's first sector
abbrev pub bare : (n : ℕ) → Laid n → Sub Key n
bare zero t = tt
bare (suc n) t = map_page (bare n) t.1

abbrev pub plain_tree : Catalog → Tree Key
plain_tree c = record { over = c.over; root = bare (suc c.over) c.root }

abbrev pub entries : Catalog → List (Entry Key)
entries c = to_list (plain_tree c)

-- SECTORS of the directory
abbrev pub sectors_items : {S : Type 0} → (S → List ℕ) → List (Item Key S) → List ℕ
sectors_items f [] = []
sectors_items f (item e d ∷ xs) = f d ++ sectors_items f xs

abbrev pub sectors_page : {S : Type 0} → (S → List ℕ) → Page Key S → List ℕ
sectors_page f (page c xs) = f c ++ sectors_items f xs

abbrev pub sectors_laid : (n : ℕ) → Laid n → List ℕ
sectors_laid zero t = []
sectors_laid (suc n) t = t.0 ∷ sectors_page (sectors_laid n) t.1

abbrev pub page_sectors : Catalog → List ℕ
page_sectors c = sectors_laid (suc c.over) c.root

-- and of the files
abbrev pub extents_sectors : List Extent → List ℕ
extents_sectors [] = []
extents_sectors (x ∷ xs) = x.parts ++ (x.tabs ++ extents_sectors xs)

abbrev pub file_sectors : Catalog → List ℕ
file_sectors c = extents_sectors c.files

-- no number stands twice
abbrev pub Distinct : List ℕ → Type 0
Distinct [] = Unit {0}
Distinct (x ∷ xs) = (In x xs → ⊥) × Distinct xs

-- n numbers from low up
unfoldable pub range : ℕ → ℕ → List ℕ
range low zero = []
range low (suc n) = low ∷ range (suc low) n

abbrev pub member : ℕ → List ℕ → Bool
member n [] = false
member n (x ∷ xs) = n == x || member n xs

-- those of a list that another has not
abbrev pub outside : List ℕ → List ℕ → List ℕ
outside used [] = []
outside used (x ∷ xs) = cond (member x used) (outside used xs) (x ∷ outside used xs)

-- the free sectors: those from 1 up that are neither the directory's nor a file's
abbrev pub free_sectors : ℕ → Catalog → List ℕ
free_sectors size c = outside (page_sectors c ++ file_sectors c) (range 1 (size - 1))

-- every sector from 1 up is the directory's, one file's or free, and only one of these; they add up to N − 1
pub record Divided (size : ℕ) (c : Catalog) (free : List ℕ) : Type 0 where
  pub one : (s : ℕ) → 1 ≤ s → s < size → In s (page_sectors c ++ (file_sectors c ++ free))
  pub only : Distinct (page_sectors c ++ (file_sectors c ++ free))
  pub inside : (s : ℕ) → In s (page_sectors c ++ (file_sectors c ++ free)) → (1 ≤ s) × (s < size)
  pub sum : length (page_sectors c) + length (file_sectors c) + length free ≡ size - 1

-- BYTES of a file: byte p lies in file sector (p + 352) div 1024 at offset (p + 352) mod 1024
abbrev pub byte_at : (ℕ → Contents) → Extent → ℕ → ℕ
byte_at shown x p = slice_index (shown (slice_index x.parts (place p).0)) (place p).1

unfoldable pub bytes_of : (ℕ → Contents) → Extent → List ℕ
bytes_of shown x = map (byte_at shown x) (range 0 x.long)

-- LISTING. A line of it: a name, the first sector and the length of its file
pub record Row : Type 0 where
  pub name : Key
  pub first : ℕ
  pub long : ℕ

abbrev pub rows_of : List (Entry Key) → List Extent → List Row
rows_of [] xs = []
rows_of (e ∷ es) [] = []
rows_of (e ∷ es) (x ∷ xs) = record { name = e.0; first = e.1; long = x.long } ∷ rows_of es xs

abbrev pub rows : Catalog → List Row
rows c = rows_of (entries c) c.files

-- a table of records with these laid over its first ones, as far as it reaches
abbrev pub overlaid : {A : Type 0} → List A → List A → List A
overlaid [] ys = ys
overlaid (x ∷ xs) [] = []
overlaid (x ∷ xs) (y ∷ ys) = x ∷ overlaid xs ys
