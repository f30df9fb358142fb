-- Addresses and the sectors that they lead to.
use Rattle.std.proofs.Common.{◌≡◌, ℕ, ◌/◌, ◌<◌, ◌≤◌, Bool, true, cond, Some, None, ap, ◌∙◌, subst, arith}
use Rattle.std.proofs.lemmas.Bool.Decides.{nat_tests}
use Rattle.std.proofs.lemmas.Bool.{true_from_ne_false}
use Rattle.numbers.specs.declared.sector.Sector.{Sector}
use Rattle.numbers.specs.Sectors.{address, leads, sector_at, first_linked, address_step, Addresses}

pub leads-says : (size w : ℕ) → leads size w ≡ true → (w ≡ address (w / address_step)) × (first_linked ≤ w / address_step) × (w / address_step < size)
leads-says size w l = (grind (arith, nat_tests), grind (arith, nat_tests), grind (arith, nat_tests))

pub leads-from : (size n : ℕ) → first_linked ≤ n → n < size → leads size (address n) ≡ true
leads-from size n l h = grind (arith, nat_tests)

leads-to : (size w : ℕ) (s : Sector) → sector_at size w ≡ Some s → (w ≡ address s.0) × (first_linked ≤ s.0) × (s.0 < size)
leads-to size w s e =
    let l : leads size w ≡ true = true_from_ne_false (leads size w) (λ f. cc) in
    let f : record { 0 = w / address_step } ≡ s = cc in
    subst (λ (t : Sector). (w ≡ address t.0) × (first_linked ≤ t.0) × (t.0 < size)) f (leads-says size w l)

pub led-to : (size : ℕ) (s : Sector) → first_linked ≤ s.0 → s.0 < size → sector_at size (address s.0) ≡ Some s
led-to size s l h =
    let q : address s.0 / address_step ≡ s.0 = omega arith in
    ap (λ (x : Bool). cond x (Some (record { 0 = address s.0 / address_step })) None) (leads-from size s.0 l h) ∙ ap (λ (x : ℕ). Some (record { 0 = x })) q

pub addresses : Addresses
addresses = record { leads_to = leads-to; led_to = led-to }
