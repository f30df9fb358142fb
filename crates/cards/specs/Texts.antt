-- What a refusal and an example print.
use Rattle.std.specs.Prelude.{ℕ, List, ◌++◌, ◌≢◌, codes}
use Rattle.disk.specs.Texts.{fault_text}
use Rattle.cards.specs.declared.fault.CardFault.{CardFault}
use Rattle.cards.specs.declared.fault.CardFault.TheVariants.{Disk, Full, Room, Name}
use Rattle.cards.specs.declared.example.Example.{Example}
use Rattle.cards.specs.declared.example.Example.TheVariants.{Empty, TwoFiles, Odd, Long, TwoLevels, ThreeLevels, FourLevels}

abbrev pub card_fault_text : CardFault → List ℕ
card_fault_text (Disk f) = codes "the image did not answer: " ++ fault_text f
card_fault_text Full = codes "a page has more than 24 entries"
card_fault_text Room = codes "the bytes reach past the end of their sector"
card_fault_text Name = codes "a name is not a good one"

-- the name of an example
abbrev pub example_text : Example → List ℕ
example_text Empty = codes "empty"
example_text TwoFiles = codes "two-files"
example_text Odd = codes "odd"
example_text Long = codes "long"
example_text TwoLevels = codes "two-levels"
example_text ThreeLevels = codes "three-levels"
example_text FourLevels = codes "four-levels"

-- no example has this name
abbrev pub Unnamed : List ℕ → Type 0
Unnamed text = (e : Example) → example_text e ≢ text
