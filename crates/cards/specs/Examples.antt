-- How large an example is.
use Rattle.std.specs.Prelude.{ℕ}
use Rattle.cards.specs.declared.example.Example.{Example}
use Rattle.cards.specs.declared.example.Example.TheVariants.{Empty, TwoFiles, Odd, Long, TwoLevels, ThreeLevels, FourLevels}

abbrev pub example_sectors : Example → ℕ
example_sectors Empty = 10
example_sectors TwoFiles = 10
example_sectors Odd = 80
example_sectors Long = 330
example_sectors TwoLevels = 40
example_sectors ThreeLevels = 400
example_sectors FourLevels = 4800
