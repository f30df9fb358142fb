-- Names of files, and the field of a sector that holds one.
use Rattle.std.specs.Prelude.{◌≡◌, ℕ, zero, suc, ◌-◌, Bool, true, false, ◌&&◌, ◌||◌, List, [], ◌∷◌, ◌++◌, length, replicate, ◌==◌, nat_le}
use Rattle.std.specs.Str.{bytes_eq}
pub use Rattle.std.specs.List.{list_all as every}

-- the bytes of a name
abbrev pub Key : Type 0
Key = List ℕ

-- the longest name, and the bytes of the field that holds one
abbrev pub longest_name : ℕ
longest_name = 31

abbrev pub name_size : ℕ
name_size = 32

abbrev pub between : ℕ → ℕ → ℕ → Bool
between low high b = nat_le low b && nat_le b high

-- 'A' to 'Z' and 'a' to 'z'
abbrev pub letter : ℕ → Bool
letter b = between 65 90 b || between 97 122 b

-- also '0' to '9' and '.'
abbrev pub letter_digit_dot : ℕ → Bool
letter_digit_dot b = letter b || (between 48 57 b || b == 46)

-- 1 to 31 bytes, a letter first, then letters, digits or dots
abbrev pub good_name : Key → Bool
good_name [] = false
good_name (b ∷ bs) = letter b && (every letter_digit_dot bs && nat_le (length (b ∷ bs)) longest_name)

-- a name as it is stored: zero-filled to 32 bytes
abbrev pub name_field : Key → List ℕ
name_field k = k ++ replicate (name_size - length k) 0

-- the name in a field: its bytes before the first 0
abbrev pub name_in : List ℕ → Key
name_in [] = []
name_in (zero ∷ bs) = []
name_in (suc b ∷ bs) = suc b ∷ name_in bs

-- does the field hold a good name, zero-filled?
abbrev pub is_name_field : List ℕ → Bool
is_name_field f = good_name (name_in f) && bytes_eq (name_field (name_in f)) f

-- what holds of name fields
pub record NameFields : Type 0 where
  -- a good name is found again in its field, which is as long as a field and has the form
  pub found : (k : Key) → good_name k ≡ true → name_in (name_field k) ≡ k
  pub sized : (k : Key) → good_name k ≡ true → length (name_field k) ≡ name_size
  pub formed : (k : Key) → good_name k ≡ true → is_name_field (name_field k) ≡ true
  -- a field of the form is that of a good name
  pub only : (f : List ℕ) → is_name_field f ≡ true → (good_name (name_in f) ≡ true) × (name_field (name_in f) ≡ f)
