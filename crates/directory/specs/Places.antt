-- Where a name stands among rows whose names rise.
use Rattle.std.specs.Prelude.{◌≡◌, ℕ, ◌≤◌, Bool, List, [], ◌∷◌, length, take, drop, Ok, Err, Result}
use Rattle.std.specs.List.{AllByRecursion}
use Rattle.std.specs.Ordering.{is_le}
use Rattle.numbers.specs.Names.{Key}
use Rattle.numbers.specs.Order.{cmp, below, same, above}
use Rattle.layout.specs.declared.entry.Entry.{Entry}

-- the name is not above this row
abbrev pub reaches : Key → Entry → Bool
reaches k e = is_le (cmp k e.name.bytes)

-- the name is above every one of these rows
abbrev pub OverAll : Key → List Entry → Type 0
OverAll k rows = AllByRecursion (λ (e : Entry). cmp k e.name.bytes ≡ above) rows

-- the first of these rows has the name
abbrev pub NextHas : Key → List Entry → Type 0
NextHas k [] = ⊥
NextHas k (e ∷ es) = cmp k e.name.bytes ≡ same

-- the name is below the first of these rows, if there is one
abbrev pub UnderNext : Key → List Entry → Type 0
UnderNext k [] = Unit {0}
UnderNext k (e ∷ es) = cmp k e.name.bytes ≡ below

-- i rows are below the name, and the next one has it; or the next one is above it, or there is none
abbrev pub Stands : Key → List Entry → Result ℕ ℕ → Type 0
Stands k rows (Ok i) = OverAll k (take i rows) × NextHas k (drop i rows)
Stands k rows (Err i) = (i ≤ length rows) × OverAll k (take i rows) × UnderNext k (drop i rows)
