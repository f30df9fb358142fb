-- Extension tables: sectors of 256 addresses, for the file sectors that the first sector has none for.
use Rattle.std.specs.Prelude.{◌≡◌, ℕ, ◌+◌, ◌-◌, ◌*◌, ◌/◌, ◌%◌, ◌^◌, ◌<◌, ◌≤◌, Bool, ◌&&◌, length, nat_le}
use Rattle.std.specs.List.{AllByRecursion}
use Rattle.layout.specs.declared.table.Table.{Table}
use Rattle.layout.specs.Words.{Contents, Bytes, sector_size, stored_all}
use Rattle.numbers.specs.Lengths.{near_sectors, table_sectors, last_of_longest, tables}
use Rattle.layout.specs.Headers.{numbers, addresses_in}

-- the sector of a table, and the table in a sector
abbrev pub table_bytes : Table → Contents
table_bytes t = stored_all (numbers t.sectors)

abbrev pub table_in : Contents → Table
table_in c = record { sectors = addresses_in c 0 table_sectors }

-- is file sector i one whose address stands in a table? Which table, and which entry
abbrev pub in_table : ℕ → Bool
in_table i = nat_le near_sectors i && nat_le i last_of_longest

abbrev pub table_place : ℕ → ℕ × ℕ
table_place i = ((i - near_sectors) / table_sectors, (i - near_sectors) % table_sectors)

-- what holds of extension tables
pub record ExtensionTables : Type 0 where
  -- tables and sectors are one to one
  pub back : (t : Table) → length t.sectors ≡ table_sectors → AllByRecursion (λ w. w < 2 ^ 32) (numbers t.sectors) → table_in (table_bytes t) ≡ t
  pub only : (c : Contents) → length c ≡ sector_size → Bytes c → table_bytes (table_in c) ≡ c
  -- table k is for file sectors 64 + 256 k and up; a file that has file sector i has its table
  pub places : (i a : ℕ) → near_sectors ≤ i → i ≤ a → (near_sectors + table_sectors * (table_place i).0 + (table_place i).1 ≡ i) × ((table_place i).1 < table_sectors) × ((table_place i).0 < tables a)
