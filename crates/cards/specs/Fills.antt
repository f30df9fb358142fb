-- What becomes of a card.
use Rattle.std.specs.Prelude.{◌≡◌, ℕ, ◌+◌, ◌<◌, ◌≤◌, List}
use Rattle.disk.specs.declared.fault.Layer.TheVariants.{Image as is_image}
use Rattle.disk.specs.Faults.{outside}
use Rattle.disk.specs.Meaning.{Contents}
use Rattle.disk.specs.Sectors.{count, sector, written}
use Rattle.layout.specs.Words.{sector_size}
use Rattle.layout.specs.Entries.{most_entries}
use Rattle.cards.specs.declared.card.Card.{Card}
use Rattle.cards.specs.declared.fault.CardFault.{CardFault}
use Rattle.cards.specs.declared.fault.CardFault.TheVariants.{Disk, Full, Room}

-- its bytes, and what a sector of it holds
abbrev pub bytes_of : Card → List ℕ
bytes_of c = c.image.bytes.now

abbrev pub held : Card → ℕ → Contents
held c n = sector (bytes_of c) n

abbrev pub Unchanged : Card → Card → Type 0
Unchanged c c' = bytes_of c' ≡ bytes_of c

-- sector n is one of the card's, it holds these contents afterwards, and no other byte changed
pub record Filled (c : Card) (n : ℕ) (contents : Contents) (c' : Card) : Type 0 where
  pub inside : n < count (bytes_of c)
  pub after : bytes_of c' ≡ written (bytes_of c) n contents

-- the card has no sector n, and no byte changed
pub record Lacking (c : Card) (n : ℕ) (f : CardFault) (c' : Card) : Type 0 where
  pub beyond : count (bytes_of c) ≤ n
  pub says : f ≡ Disk (outside is_image n)
  pub same : Unchanged c c'

-- the page has too many entries for a sector, or the sector no room for so many bytes from there on; no byte changed
pub record TooFull (entries : ℕ) (c : Card) (f : CardFault) (c' : Card) : Type 0 where
  pub many : most_entries < entries
  pub says : f ≡ Full
  pub same : Unchanged c c'

pub record NoRoom (offset : ℕ) (size : ℕ) (c : Card) (f : CardFault) (c' : Card) : Type 0 where
  pub past : sector_size < offset + size
  pub says : f ≡ Room
  pub same : Unchanged c c'
