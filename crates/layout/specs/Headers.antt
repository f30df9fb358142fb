-- A file's first sector, and its extension tables.
use Rattle.std.specs.Prelude.{◌≡◌, ℕ, ◌+◌, ◌^◌, ◌<◌, ◌≤◌, Bool, true, cond, ◌&&◌, List, ◌++◌, length, drop, replicate, Ok, Err, Result, ◌==◌, slice_index, slice_set}
use Rattle.std.specs.List.{AllByRecursion}
use Rattle.numbers.specs.declared.name.Name.{Name}
use Rattle.layout.specs.declared.header.Header.{Header}
use Rattle.layout.specs.declared.header.HeaderFault.{HeaderFault}
use Rattle.layout.specs.declared.header.HeaderFault.TheVariants.{Mark, End, Link}
use Rattle.layout.specs.Words.{Contents, Bytes, sector_size, word, stored, stored_all, part, written}
pub use Rattle.layout.specs.Words.{numbers, addresses_in}
use Rattle.numbers.specs.Sectors.{address, due_from}
use Rattle.numbers.specs.Names.{name_size}
use Rattle.numbers.specs.Lengths.{near_sectors, most_tables, longest, last_sector, last_bytes, length_of, good_end, tables}

-- the mark of a file's first sector, and where its fields stand
abbrev pub file_mark : ℕ
file_mark = 0x9BA71D86

abbrev pub mark_at : ℕ
mark_at = 0

abbrev pub name_at : ℕ
name_at = 4

abbrev pub last_at : ℕ
last_at = 36

abbrev pub used_at : ℕ
used_at = 40

abbrev pub date_at : ℕ
date_at = 44

abbrev pub tables_at : ℕ
tables_at = 48

abbrev pub near_at : ℕ
near_at = 96

-- the bytes of a first sector before the data
abbrev pub header_bytes : Header → List ℕ
header_bytes h =
    stored file_mark ++ (h.name.bytes ++ (stored (last_sector h.length.0) ++ (stored (last_bytes h.length.0) ++ (stored h.date
    ++ (stored_all (numbers h.tables) ++ stored_all (numbers h.sectors))))))

-- the header of an empty file: no tables, and of its sectors only the first
abbrev pub empty_header : Name → ℕ → Header
empty_header name own =
    record {
      name = name;
      length = record { 0 = 0 };
      date = 0;
      tables = replicate most_tables (record { 0 = 0 });
      sectors = slice_set (replicate near_sectors (record { 0 = 0 })) 0 (record { 0 = address own });
    }

-- the fields of a first sector
abbrev pub fields_in : Contents → Header
fields_in c =
    record {
      name = record { bytes = part c name_at name_size };
      length = record { 0 = length_of (word c last_at) (word c used_at) };
      date = word c date_at;
      tables = addresses_in c tables_at most_tables;
      sectors = addresses_in c near_at near_sectors;
    }

-- the mark and the end are asked first
abbrev pub read_header : Contents → Result Header HeaderFault
read_header c = cond (word c mark_at == file_mark) (cond (good_end (word c last_at) (word c used_at)) (Ok (fields_in c)) (Err End)) (Err Mark)

-- sector address 0 is the file's own, those up to the last file sector lead to sectors, and so do those of its tables; the others are 0
abbrev pub links_due : ℕ → ℕ → Header → Bool
links_due own size h =
    let a = last_sector h.length.0 in
    (slice_index (numbers h.sectors) 0 == address own) && (due_from size (a + 1) 1 (drop 1 (numbers h.sectors)) && due_from size (tables a) 0 (numbers h.tables))

abbrev pub linked : ℕ → ℕ → Result Header HeaderFault → Result Header HeaderFault
linked own size (Ok h) = cond (links_due own size h) (Ok h) (Err Link)
linked own size (Err f) = Err f

-- the header of the file whose first sector is own, on a disk of size sectors
abbrev pub header_in : ℕ → ℕ → Contents → Result Header HeaderFault
header_in own size c = linked own size (read_header c)

-- a header as its type has it: arrays of their lengths, numbers of 32 bits
pub record IsHeader (h : Header) : Type 0 where
  pub name : length h.name.bytes ≡ name_size
  pub date : h.date < 2 ^ 32
  pub tables : (length h.tables ≡ most_tables) × AllByRecursion (λ w. w < 2 ^ 32) (numbers h.tables)
  pub sectors : (length h.sectors ≡ near_sectors) × AllByRecursion (λ w. w < 2 ^ 32) (numbers h.sectors)

-- first sectors and headers are one to one; the data are left as they are
pub record FirstSectors : Type 0 where
  -- a header that was written is read again
  pub back : (own size : ℕ) (c : Contents) (h : Header) → IsHeader h → h.length.0 ≤ longest → links_due own size h ≡ true → header_in own size (written c 0 (header_bytes h)) ≡ Ok h
  -- a sector is read exactly if it has the form, and the header that is read is the one that stands there
  pub only : (own size : ℕ) (c : Contents) (h : Header) → length c ≡ sector_size → Bytes c → header_in own size c ≡ Ok h → IsHeader h × (h.length.0 ≤ longest) × (links_due own size h ≡ true) × (c ≡ written c 0 (header_bytes h))
  -- the links of an empty file are as due
  pub empty : (own size : ℕ) (name : Name) → links_due own size (empty_header name own) ≡ true
  -- a header that was read can be written and read again
  pub again : (own size : ℕ) (c d : Contents) (h : Header) → length c ≡ sector_size → Bytes c → header_in own size c ≡ Ok h → header_in own size (written d 0 (header_bytes h)) ≡ Ok h
