-- The length of a file, and the sectors that hold it.
use Rattle.std.specs.Prelude.{◌≡◌, ℕ, ◌+◌, ◌-◌, ◌*◌, ◌/◌, ◌%◌, ◌<◌, ◌≤◌, Bool, true, cond, ◌&&◌, ◌==◌, nat_le, nat_lt}

-- the bytes of a sector
abbrev pub sector_size : ℕ
sector_size = 1024

-- the bytes before the data in a file's first sector
abbrev pub header_size : ℕ
header_size = 352

-- the addresses in the first sector of file sectors and of extension tables, and those in a table
abbrev pub near_sectors : ℕ
near_sectors = 64

abbrev pub most_tables : ℕ
most_tables = 12

abbrev pub table_sectors : ℕ
table_sectors = 256

-- the longest file, and its last file sector
abbrev pub longest : ℕ
longest = 3210912

abbrev pub last_of_longest : ℕ
last_of_longest = 3135

-- of a length: a, the last file sector, and b, the bytes used in it
abbrev pub last_sector : ℕ → ℕ
last_sector l = (l + header_size - 1) / sector_size

abbrev pub last_bytes : ℕ → ℕ
last_bytes l = l + header_size - sector_size * last_sector l

-- and back
abbrev pub length_of : ℕ → ℕ → ℕ
length_of a b = sector_size * a + b - header_size

-- are these an a and a b? The header takes part of the first sector
abbrev pub good_end : ℕ → ℕ → Bool
good_end a b = nat_le a last_of_longest && (nat_le (cond (a == 0) header_size 1) b && nat_le b sector_size)

-- byte p: its file sector and its offset there
abbrev pub place : ℕ → ℕ × ℕ
place p = ((p + header_size) / sector_size, (p + header_size) % sector_size)

-- the extension tables of a file whose last file sector is a
abbrev pub tables : ℕ → ℕ
tables a = cond (nat_lt a near_sectors) 0 ((a - near_sectors) / table_sectors + 1)

-- all sectors of a file
abbrev pub sectors : ℕ → ℕ
sectors l = 1 + last_sector l + tables (last_sector l)

-- what holds of lengths
pub record Lengths : Type 0 where
  -- b is from 1 to 1,024, from 352 up in the first sector
  pub used : (l : ℕ) → (1 ≤ last_bytes l) × (last_bytes l ≤ sector_size) × (last_sector l ≡ 0 → header_size ≤ last_bytes l)
  pub most : (l : ℕ) → l ≤ longest → (last_sector l ≤ last_of_longest) × (tables (last_sector l) ≤ most_tables)
  -- length and end are one to one
  pub back : (l : ℕ) → length_of (last_sector l) (last_bytes l) ≡ l
  pub good : (l : ℕ) → l ≤ longest → good_end (last_sector l) (last_bytes l) ≡ true
  pub only : (a b : ℕ) → good_end a b ≡ true → (length_of a b ≤ longest) × (last_sector (length_of a b) ≡ a) × (last_bytes (length_of a b) ≡ b)
  -- a longer file has no fewer sectors and tables
  pub grows : (l m : ℕ) → l ≤ m → (last_sector l ≤ last_sector m) × (tables (last_sector l) ≤ tables (last_sector m))
  -- a byte of the file lies in one of its sectors
  pub within : (p l : ℕ) → p < l → ((place p).0 ≤ last_sector l) × ((place p).1 < sector_size)
  -- in the last one, before its end
  pub before : (p l : ℕ) → p < l → (place p).0 ≡ last_sector l → (place p).1 < last_bytes l

-- a, b and all sectors of a length
pub record Ends (l a b n : ℕ) : Type 0 where
  pub last : last_sector l ≡ a
  pub bytes : last_bytes l ≡ b
  pub all : sectors l ≡ n

-- worked figures
pub record Figures : Type 0 where
  pub empty : Ends 0 0 352 1
  pub one_full : Ends 672 0 1024 1
  pub two_begun : Ends 673 1 1 2
  pub near_full : Ends 65184 63 1024 64
  pub table_begun : Ends 65185 64 1 66
  pub full : Ends 3210912 3135 1024 3148
