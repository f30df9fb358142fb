-- The rows of two neighbours in a line with the entry between them, and the line shared out to two pages.
use Rattle.std.specs.Prelude.{◌≡◌, ℕ, ◌+◌, ◌-◌, ◌<◌, ◌≤◌, Bool, ◌&&◌, ◌||◌, List, ◌∷◌, ◌++◌, length, take, drop, Option, ◌==◌, nat_lt}
use Rattle.numbers.specs.declared.sector.Sector.{Sector}
use Rattle.layout.specs.declared.entry.Entry.{Entry}
use Rattle.layout.specs.Pages.{PageData}
use Rattle.layout.specs.Entries.{least_entries}
use Rattle.directory.specs.declared.share.Neighbours.{Neighbours}
-- what a page lends to a neighbour left with 11, and how many entries the left one of two neighbours ends with
pub use Rattle.tree.specs.Delete.{lent, share}

-- an entry over another child
abbrev pub over : Entry → Option Sector → Entry
over e child = record { name = e.name; file = e.file; below = child }

-- the entry between two neighbours comes down, over p0 of the right one
abbrev pub line : Neighbours → List Entry
line n = n.left.rows ++ over n.middle n.right.first ∷ n.right.rows

-- two neighbours and the entry between them as one page
abbrev pub joined : Neighbours → PageData
joined n = record { first = n.left.first; rows = line n }

-- a line cut in two: the left page has m rows, the next one rises, its child becomes p0 of the right page, and that has the others
pub record Cut (m : ℕ) (first : Option Sector) (all : List Entry) (n : Neighbours) : Type 0 where
  pub before : n.left ≡ record { first = first; rows = take m all }
  pub after : over n.middle n.right.first ∷ n.right.rows ≡ drop m all

-- two neighbours and the entry between them become others: the left one has m rows of their line, and the entry stays over the right one
pub record Shared (m : ℕ) (n n' : Neighbours) : Type 0 where
  pub cut : Cut m n.left.first (line n) n'
  pub child : n'.middle.below ≡ n.middle.below

-- a page left with so many entries turns to a neighbour
abbrev pub short : ℕ
short = least_entries - 1

-- one of two neighbours is left with 11 entries, and the other has more than 12
abbrev pub uneven : Neighbours → Bool
uneven n = let a = length n.left.rows in let b = length n.right.rows in (a == short && nat_lt least_entries b) || (nat_lt least_entries a && b == short)

-- what holds of lines and of pages that share them
pub record LineLaws : Type 0 where
  -- a cut loses nothing and adds nothing
  pub whole : (m : ℕ) (f : Option Sector) (all : List Entry) (n : Neighbours) → Cut m f all n → line n ≡ all
  -- the left page has m rows, and the right one the others but the one that rises
  pub sizes : (m : ℕ) (f : Option Sector) (all : List Entry) (n : Neighbours) → Cut m f all n → (length n.left.rows ≡ m) × (m + 1 + length n.right.rows ≡ length all)
  -- there is one way to cut a line at m
  pub only : (m : ℕ) (f : Option Sector) (all : List Entry) (n n' : Neighbours) → Cut m f all n → Cut m f all n' →
      (n.left ≡ n'.left) × (n.middle.name ≡ n'.middle.name) × (n.middle.file ≡ n'.middle.file) × (n.right ≡ n'.right)
  -- a page of 11 and a neighbour of c on its right, or on its left: 11 + k and c - k
  pub from_right : (n n' : Neighbours) → length n.left.rows ≡ 11 → 12 < length n.right.rows → Shared (share (length n.left.rows) (length n.right.rows)) n n' →
      (length n'.left.rows ≡ 11 + lent (length n.right.rows)) × (length n'.right.rows ≡ length n.right.rows - lent (length n.right.rows))
  pub from_left : (n n' : Neighbours) → 12 < length n.left.rows → length n.right.rows ≡ 11 → Shared (share (length n.left.rows) (length n.right.rows)) n n' →
      (length n'.left.rows ≡ length n.left.rows - lent (length n.left.rows)) × (length n'.right.rows ≡ 11 + lent (length n.left.rows))
  -- a neighbour of 13 gives 12 and 12, one of 24 gives 17 and 18
  pub of13 : (share 11 13 ≡ 12) × (share 13 11 ≡ 12)
  pub of24 : (share 11 24 ≡ 17) × (share 24 11 ≡ 18)
  -- 11 and 12 and the entry between them are 24
  pub together : (n : Neighbours) → length n.left.rows + length n.right.rows ≡ 23 → length (joined n).rows ≡ 24
  -- a page of 11 and a neighbour of 12 or more are evened out exactly if they are too many to be joined
  pub on_right : (n : Neighbours) → length n.left.rows ≡ 11 → 12 ≤ length n.right.rows → uneven n ≡ nat_lt 24 (length (joined n).rows)
  pub on_left : (n : Neighbours) → 12 ≤ length n.left.rows → length n.right.rows ≡ 11 → uneven n ≡ nat_lt 24 (length (joined n).rows)
