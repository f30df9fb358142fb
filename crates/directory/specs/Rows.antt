-- The rows of a page with one put in, taken out or replaced.
use Rattle.std.specs.Prelude.{◌≡◌, ℕ, ◌<◌, ◌≤◌, List, [], ◌∷◌, ◌++◌, length, slice_index_or, slice_set}
use Rattle.std.specs.List.{insert, remove}
use Rattle.numbers.specs.declared.name.Name.{Name}
use Rattle.numbers.specs.declared.sector.Sector.{Sector}
use Rattle.layout.specs.declared.entry.Entry.{Entry}
use Rattle.layout.specs.Pages.{PageData}
-- the most entries that a page holds while it is edited: 25
pub use Rattle.layout.specs.Entries.{most_held}

-- one row more can be put in as row i
abbrev pub HasRoom : List Entry → ℕ → Type 0
HasRoom rows i = (length rows < most_held) × (i ≤ length rows)

-- e is row i
abbrev pub IsRow : List Entry → ℕ → Entry → Type 0
IsRow rows i e = (i < length rows) × (e ≡ slice_index_or rows i e)

-- e is the last row, and these are the others
abbrev pub IsLast : List Entry → List Entry → Entry → Type 0
IsLast rows others e = rows ≡ others ++ e ∷ []

-- a page with e put in as row i
abbrev pub put_in : PageData → ℕ → Entry → PageData
put_in p i e = record { first = p.first; rows = insert p.rows i e }

-- a page without row i
abbrev pub without : PageData → ℕ → PageData
without p i = record { first = p.first; rows = remove p.rows i }

-- a page whose row i, e, has another name and file; the child stays
abbrev pub replaced : PageData → ℕ → Entry → Name → Sector → PageData
replaced p i e name file = record { first = p.first; rows = slice_set p.rows i (record { name = name; file = file; below = e.below }) }
