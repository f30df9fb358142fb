-- The lines of a listing as a table holds them, and the sectors that a map has.
use Rattle.std.specs.Prelude.{ℕ, Bool, false, List, map, replicate, slice_index_or, count_by}
use Rattle.numbers.specs.Names.{name_field}
use Rattle.catalog.specs.Catalogs.{Row}
use Rattle.catalog.specs.Questions.{most_sectors}
use Rattle.survey.specs.declared.row.FileRow.{FileRow}

-- a line: its name as it is stored, the first sector and the length of its file
abbrev pub line : Row → FileRow
line r = record { name = record { bytes = name_field r.name }; first = record { 0 = r.first }; length = record { 0 = r.long } }

abbrev pub lines : List Row → List FileRow
lines rs = map line rs

-- a map is a row of marks, one for each sector. Is sector n met?
abbrev pub is_met : List Bool → ℕ → Bool
is_met marks n = slice_index_or marks n false

-- how many are
abbrev pub met_count : List Bool → ℕ
met_count marks = count_by (λ (b : Bool). b) marks

-- none is
unfoldable pub none_met : List Bool
none_met = replicate most_sectors false
