-- Pages and first sectors of a catalog as they are written.
use Rattle.std.specs.Prelude.{ℕ, zero, suc, ◌-◌, List, [], ◌∷◌, ◌++◌, map, length, take, replicate, Some, None, Option}
use Rattle.numbers.specs.declared.sector.Sector.{Sector}
use Rattle.numbers.specs.declared.sector.Address.{Address}
use Rattle.numbers.specs.Names.{Key, name_field}
use Rattle.numbers.specs.Lengths.{near_sectors, most_tables}
use Rattle.numbers.specs.Sectors.{address}
use Rattle.layout.specs.declared.entry.Entry.{Entry}
use Rattle.layout.specs.declared.header.Header.{Header}
use Rattle.layout.specs.Pages.{PageData}
use Rattle.tree.specs.Tree.{Item, item, Page, page}
use Rattle.catalog.specs.Catalogs.{Laid, Extent}

-- the sector of the page that hangs below; below a leaf there is none
abbrev pub sector_under : (n : ℕ) → Laid n → Option Sector
sector_under zero t = None
sector_under (suc n) t = Some (record { 0 = t.0 })

-- the entries of a page, and the page, as the format has them
abbrev pub entries_data : (n : ℕ) → List (Item Key (Laid n)) → List Entry
entries_data n [] = []
entries_data n (item e d ∷ xs) = record { name = record { bytes = name_field e.0 }; file = record { 0 = e.1 }; below = sector_under n d } ∷ entries_data n xs

abbrev pub page_data : (n : ℕ) → Page Key (Laid n) → PageData
page_data n (page d xs) = record { first = sector_under n d; rows = entries_data n xs }

-- a list of addresses, 0 past the last sector
abbrev pub addresses : ℕ → List ℕ → List Address
addresses n list = map (λ (s : ℕ). record { 0 = address s }) (list ++ replicate (n - length list) 0)

-- the header of a file under a name, its date 0
abbrev pub header_of : Key → Extent → Header
header_of name x =
    record {
      name = record { bytes = name_field name };
      length = record { 0 = x.long };
      date = 0;
      tables = addresses most_tables x.tabs;
      sectors = addresses near_sectors (take near_sectors x.parts);
    }
