-- A sector as its bytes, and the numbers that are stored in it.
use Rattle.std.specs.Prelude.{◌≡◌, ℕ, zero, suc, ◌+◌, ◌*◌, ◌/◌, ◌%◌, ◌^◌, ◌<◌, ◌≤◌, ◌⊎◌, List, [], ◌∷◌, ◌++◌, map, length, take, drop, replicate, slice_index}
use Rattle.std.specs.List.{AllByRecursion}
use Rattle.numbers.specs.declared.sector.Address.{Address}
pub use Rattle.numbers.specs.Lengths.{sector_size}

abbrev pub Contents : Type 0
Contents = List ℕ

-- the bytes of a stored number
abbrev pub word_size : ℕ
word_size = 4

-- a new sector: every byte is 0
unfoldable pub blank : Contents
blank = replicate sector_size 0

-- the number stored from byte i on: 32 bits, no sign, least byte first
abbrev pub word : Contents → ℕ → ℕ
word c i = slice_index c i + 256 * slice_index c (i + 1) + 65536 * slice_index c (i + 2) + 16777216 * slice_index c (i + 3)

-- the bytes of a number
abbrev pub stored : ℕ → List ℕ
stored w = w % 256 ∷ w / 256 % 256 ∷ w / 65536 % 256 ∷ w / 16777216 % 256 ∷ []

-- n numbers from byte i on, and the bytes of several
abbrev pub words : Contents → ℕ → ℕ → List ℕ
words c i zero = []
words c i (suc n) = word c i ∷ words c (i + word_size) n

abbrev pub stored_all : List ℕ → List ℕ
stored_all [] = []
stored_all (w ∷ ws) = stored w ++ stored_all ws

-- addresses as stored numbers, and back
abbrev pub numbers : List Address → List ℕ
numbers list = map (λ (a : Address). a.0) list

abbrev pub addresses_in : Contents → ℕ → ℕ → List Address
addresses_in c i n = map (λ (w : ℕ). record { 0 = w }) (words c i n)

-- n bytes from byte i on
abbrev pub part : Contents → ℕ → ℕ → List ℕ
part c i n = take n (drop i c)

-- the sector after these bytes are written from byte i on: every other byte is as it was
abbrev pub written : Contents → ℕ → List ℕ → Contents
written c i bs = take i c ++ (bs ++ drop (i + length bs) c)

-- every byte fits 8 bits
abbrev pub Bytes : Contents → Type 0
Bytes c = AllByRecursion (λ b. b < 256) c

-- what holds of stored numbers
pub record StoredNumbers : Type 0 where
  -- a number that was put is got again
  pub back : (c : Contents) (i v : ℕ) → i + word_size ≤ length c → v < 2 ^ 32 → word (written c i (stored v)) i ≡ v
  -- every other byte is as it was
  pub others : (c : Contents) (i v k : ℕ) → i + word_size ≤ length c → (k < i) ⊎ (i + word_size ≤ k) → slice_index (written c i (stored v)) k ≡ slice_index c k
  -- a number that was got has the bytes that it was got from
  pub whole : (c : Contents) (i : ℕ) → Bytes c → i + word_size ≤ length c → stored (word c i) ≡ part c i word_size
