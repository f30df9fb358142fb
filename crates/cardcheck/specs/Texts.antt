-- What is printed of a card.
use Rattle.std.specs.Prelude.{ℕ, Bool, true, false, List, ◌++◌, Some, None, Option, codes, decimal, flat_map, vec_items}
use Rattle.numbers.specs.Names.{name_in}
use Rattle.numbers.specs.declared.sector.Sector.{Sector}
use Rattle.catalog.specs.Faults.{layout_sector, volume_number}
use Rattle.catalog.specs.Texts.{volume_fault_text}
use Rattle.catalog.specs.declared.fault.VolumeFault.{VolumeFault}
use Rattle.catalog.specs.declared.fault.VolumeFault.TheVariants.{Disk, Layout}
use Rattle.survey.specs.declared.row.FileRow.{FileRow}
use Rattle.cardcheck.specs.declared.report.Report.{Report}
use Rattle.cardcheck.specs.declared.report.Report.TheVariants.{Sound, Broken}

-- numbers, each behind a comma
abbrev pub comma : ℕ → List ℕ
comma n = codes "," ++ decimal n

-- a file: "file,Hall.IR,1000"
abbrev pub row_text : FileRow → List ℕ
row_text r = codes "file," ++ (name_in r.name.bytes ++ comma r.length.0)

-- the sector that held what was asked; 0 where none did
abbrev pub sector_or_zero : Option Sector → ℕ
sector_or_zero None = 0
sector_or_zero (Some s) = s.0

abbrev pub fault_sector : VolumeFault → ℕ
fault_sector (Disk f) = f.sector
fault_sector (Layout e) = sector_or_zero (layout_sector e)

abbrev pub file_line : FileRow → List ℕ
file_line r = row_text r ++ codes "\n"

-- a sound card: each file with its newline, then "ok" with the numbers of names, pages, file sectors and free sectors; another: "no" with the
-- number and the sector of the first no, and what it means on a further line
abbrev pub report_text : Report → List ℕ
report_text (Sound files c) =
    flat_map file_line (vec_items files)
    ++ (codes "ok" ++ (comma c.names ++ (comma c.pages ++ (comma c.file_sectors ++ comma c.free))))
report_text (Broken f) = codes "no" ++ (comma (volume_number f) ++ (comma (fault_sector f) ++ (codes "\n" ++ volume_fault_text f)))

-- the status is a good one just where this is so
abbrev pub is_sound : Report → Bool
is_sound (Sound files c) = true
is_sound (Broken f) = false
