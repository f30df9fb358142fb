-- Lengths and ends of files.
use Rattle.std.proofs.Common.{◌≡◌, ℕ, ◌<◌, ◌≤◌, true, refl, arith}
use Rattle.std.proofs.lemmas.Bool.Decides.{nat_tests}
use Rattle.numbers.specs.Lengths.{sector_size, header_size, most_tables, longest, last_of_longest, last_sector, last_bytes, length_of, good_end, place, tables, Lengths, Figures}

pub used : (l : ℕ) → (1 ≤ last_bytes l) × (last_bytes l ≤ sector_size) × (last_sector l ≡ 0 → header_size ≤ last_bytes l)
used l = (omega arith, omega arith, λ e. omega arith)

tables-grow : (a b : ℕ) → a ≤ b → tables a ≤ tables b
tables-grow a b h = grind (arith, nat_tests)

pub most : (l : ℕ) → l ≤ longest → (last_sector l ≤ last_of_longest) × (tables (last_sector l) ≤ most_tables)
most l h = let a : last_sector l ≤ last_of_longest = omega arith in (a, tables-grow (last_sector l) last_of_longest a)

pub back : (l : ℕ) → length_of (last_sector l) (last_bytes l) ≡ l
back l = omega arith

pub good : (l : ℕ) → l ≤ longest → good_end (last_sector l) (last_bytes l) ≡ true
good l h = let m = most l h in let u = used l in grind (arith, nat_tests)

-- what a good end says
pub end-parts : (a b : ℕ) → good_end a b ≡ true → (a ≤ last_of_longest) × (1 ≤ b) × (b ≤ sector_size) × (a ≡ 0 → header_size ≤ b)
end-parts a b h = (grind (arith, nat_tests), grind (arith, nat_tests), grind (arith, nat_tests), λ e. grind (arith, nat_tests))

pub only : (a b : ℕ) → good_end a b ≡ true → (length_of a b ≤ longest) × (last_sector (length_of a b) ≡ a) × (last_bytes (length_of a b) ≡ b)
only a b h = let p = end-parts a b h in (omega arith, grind (arith, nat_tests), grind (arith, nat_tests))

grows : (l m : ℕ) → l ≤ m → (last_sector l ≤ last_sector m) × (tables (last_sector l) ≤ tables (last_sector m))
grows l m h = let a : last_sector l ≤ last_sector m = omega arith in (a, tables-grow (last_sector l) (last_sector m) a)

within : (p l : ℕ) → p < l → ((place p).0 ≤ last_sector l) × ((place p).1 < sector_size)
within p l h = (omega arith, omega arith)

before : (p l : ℕ) → p < l → (place p).0 ≡ last_sector l → (place p).1 < last_bytes l
before p l h e = omega arith

pub lengths : Lengths
lengths = record { used = used; most = most; back = back; good = good; only = only; grows = grows; within = within; before = before }

pub figures : Figures
figures =
    record {
      empty = record { last = refl; bytes = refl; all = refl };
      one_full = record { last = refl; bytes = refl; all = refl };
      two_begun = record { last = refl; bytes = refl; all = refl };
      near_full = record { last = refl; bytes = refl; all = refl };
      table_begun = record { last = refl; bytes = refl; all = refl };
      full = record { last = refl; bytes = refl; all = refl };
    }
