-- Sector numbers and stored addresses.
use Rattle.std.specs.Prelude.{◌≡◌, ℕ, suc, ◌*◌, ◌/◌, ◌%◌, ◌<◌, ◌≤◌, Bool, true, false, cond, ◌&&◌, List, [], ◌∷◌, Some, None, Option, ◌==◌, nat_le, nat_lt}
use Rattle.numbers.specs.declared.sector.Sector.{Sector}

-- a sector's stored address is this times its number; address 0 means none
abbrev pub address_step : ℕ
address_step = 29

abbrev pub address : ℕ → ℕ
address n = address_step * n

-- the address that stands for a sector or for none
abbrev pub link_address : Option Sector → ℕ
link_address None = 0
link_address (Some s) = address s.0

-- the first sector that an address may lead to: 0 is unused and 1 is the root page
abbrev pub first_linked : ℕ
first_linked = 2

-- on a disk of size sectors: does this number, as an address, lead to a sector?
abbrev pub leads : ℕ → ℕ → Bool
leads size w = w % address_step == 0 && (nat_le first_linked (w / address_step) && nat_lt (w / address_step) size)

-- the sector that it leads to
abbrev pub sector_at : ℕ → ℕ → Option Sector
sector_at size w = cond (leads size w) (Some (record { 0 = w / address_step })) None

-- an address leads to a sector where one is due, and is 0 elsewhere
abbrev pub as_due : ℕ → Bool → ℕ → Bool
as_due size true w = leads size w
as_due size false w = w == 0

-- entries i and up of a list of addresses, of which the first n are due
abbrev pub due_from : ℕ → ℕ → ℕ → List ℕ → Bool
due_from size n i [] = true
due_from size n i (w ∷ ws) = as_due size (nat_lt i n) w && due_from size n (suc i) ws

-- the turn from address to sector is exact both ways
pub record Addresses : Type 0 where
  pub leads_to : (size w : ℕ) (s : Sector) → sector_at size w ≡ Some s → (w ≡ address s.0) × (first_linked ≤ s.0) × (s.0 < size)
  pub led_to : (size : ℕ) (s : Sector) → first_linked ≤ s.0 → s.0 < size → sector_at size (address s.0) ≡ Some s
