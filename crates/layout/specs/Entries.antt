-- The fields of a directory page as they stand in its sector.
use Rattle.std.specs.Prelude.{◌≡◌, ℕ, ◌+◌, ◌-◌, ◌*◌, ◌/◌, ◌^◌, ◌<◌, ◌≤◌, Bool, true, false, cond, not, ◌&&◌, List, [], ◌∷◌, ◌++◌, length, Ok, Err, Result, ◌==◌, nat_eq, nat_le}
use Rattle.std.specs.List.{AllByRecursion}
use Rattle.numbers.specs.declared.sector.Address.{Address}
use Rattle.layout.specs.declared.entry.Entry.{Entry}
use Rattle.layout.specs.declared.entry.StoredEntry.{StoredEntry}
use Rattle.layout.specs.declared.entry.PageHead.{PageHead}
use Rattle.layout.specs.declared.entry.PageKind.{PageKind}
use Rattle.layout.specs.declared.entry.PageKind.TheVariants.{Root, Other}
use Rattle.layout.specs.declared.entry.PageFault.{PageFault}
use Rattle.layout.specs.declared.entry.PageFault.TheVariants.{Mark, RootCount, ParentCount, OtherCount, BadName, BadLink}
use Rattle.layout.specs.Words.{Contents, word_size, word, stored, stored_all, part, written, numbers, addresses_in}
use Rattle.numbers.specs.Sectors.{address_step, address, leads, sector_at, as_due}
pub use Rattle.numbers.specs.Sectors.{link_address}
use Rattle.numbers.specs.Names.{name_size, every, is_name_field}

-- the mark of a directory page, and where its fields stand; up to the entries the rest is 0
abbrev pub page_mark : ℕ
page_mark = 0x9B1EA38D

abbrev pub page_mark_at : ℕ
page_mark_at = 0

abbrev pub count_at : ℕ
count_at = 4

abbrev pub first_at : ℕ
first_at = 8

abbrev pub zeros_at : ℕ
zeros_at = 12

abbrev pub entries_at : ℕ
entries_at = 64

-- the bytes of an entry, and where its addresses stand behind the name
abbrev pub entry_size : ℕ
entry_size = 40

abbrev pub file_at : ℕ
file_at = name_size

abbrev pub below_at : ℕ
below_at = file_at + word_size

-- the most entries that a page stores, and the fewest of a page that is not the root
abbrev pub most_entries : ℕ
most_entries = 24

abbrev pub least_entries : ℕ
least_entries = 12

-- the most entries that a page holds while it is edited
abbrev pub most_held : ℕ
most_held = 25

-- the mark and the zeros are asked first
abbrev pub head_in : Contents → Result PageHead PageFault
head_in c =
    cond (word c page_mark_at == page_mark && every (λ b. nat_eq b 0) (part c zeros_at (entries_at - zeros_at)))
    (Ok (record { count = word c count_at; first = record { 0 = word c first_at } })) (Err Mark)

-- a page whose p0 is 0 is a leaf
abbrev pub is_leaf : PageHead → Bool
is_leaf h = h.first.0 == 0

-- the root may be empty, one with children has an entry; another page is at least half full
abbrev pub least_of : PageKind → Bool → ℕ
least_of Root true = 0
least_of Root false = 1
least_of Other true = least_entries
least_of Other false = least_entries

abbrev pub count_fits : PageKind → Bool → ℕ → Bool
count_fits kind leaf m = nat_le (least_of kind leaf) m && nat_le m most_entries

abbrev pub count_fault : PageKind → Bool → PageFault
count_fault Root true = RootCount
count_fault Root false = ParentCount
count_fault Other true = OtherCount
count_fault Other false = OtherCount

-- an entry as it stands from byte i on, and entry i of the page
abbrev pub entry_at : ℕ → ℕ
entry_at i = entries_at + entry_size * i

abbrev pub stored_at : Contents → ℕ → StoredEntry
stored_at c i =
    record {
      name = record { bytes = part c i name_size };
      file = record { 0 = word c (i + file_at) };
      below = record { 0 = word c (i + below_at) };
    }

abbrev pub stored_in : Contents → ℕ → StoredEntry
stored_in c i = stored_at c (entry_at i)

-- its name is good, its file is a sector of the disk, and so is the page below unless the page is a leaf
abbrev pub entry_of : ℕ → StoredEntry → Entry
entry_of size s = record { name = s.name; file = record { 0 = s.file.0 / address_step }; below = sector_at size s.below.0 }

abbrev pub check_entry : ℕ → Bool → StoredEntry → Result Entry PageFault
check_entry size leaf s =
    cond (is_name_field s.name.bytes) (cond (leads size s.file.0 && as_due size (not leaf) s.below.0) (Ok (entry_of size s)) (Err BadLink)) (Err BadName)

-- an entry as it is stored, and its bytes
abbrev pub stored_form : Entry → StoredEntry
stored_form e = record { name = e.name; file = record { 0 = address e.file.0 }; below = record { 0 = link_address e.below } }

abbrev pub stored_entry_bytes : StoredEntry → List ℕ
stored_entry_bytes s = s.name.bytes ++ (stored s.file.0 ++ stored s.below.0)

abbrev pub entry_bytes : Entry → List ℕ
entry_bytes e = stored_entry_bytes (stored_form e)

abbrev pub all_entry_bytes : List Entry → List ℕ
all_entry_bytes [] = []
all_entry_bytes (e ∷ es) = entry_bytes e ++ all_entry_bytes es

-- what was written from byte i on is read again there: a name or other bytes, addresses, an entry
pub record StoredValues : Type 0 where
  pub bytes : (c : Contents) (i n : ℕ) (bs : List ℕ) → length bs ≡ n → i + n ≤ length c → part (written c i bs) i n ≡ bs
  pub addresses : (c : Contents) (i n : ℕ) (list : List Address) → length list ≡ n → AllByRecursion (λ w. w < 2 ^ 32) (numbers list) → i + word_size * n ≤ length c → addresses_in (written c i (stored_all (numbers list))) i n ≡ list
  pub entry : (c : Contents) (i : ℕ) (s : StoredEntry) → length s.name.bytes ≡ name_size → s.file.0 < 2 ^ 32 → s.below.0 < 2 ^ 32 → i + entry_size ≤ length c → stored_at (written c i (stored_entry_bytes s)) i ≡ s
