-- What a disk is to whoever uses it.
use Rattle.std.specs.Prelude.{◌≡◌, ℕ, ◌<◌, Bool, true, ◌⊎◌, List, [], ◌∷◌, length, slice_index}

-- the contents of a sector
abbrev pub Contents : Type 0
Contents = List ℕ

-- a whole sector: 1,024 bytes, each below 256
pub record Whole (x : Contents) : Type 0 where
  pub long : length x ≡ 1024
  pub bytes : (i : ℕ) → slice_index x i < 256

-- size: the number N of sectors. live: whether the disk answers. calm: it promises to answer (see Calm in Rules).
-- shown: what each sector shows. may: the contents that a power stop may leave in each sector, as a list of them.
pub record Meaning : Type 0 where
  pub size : ℕ
  pub live : Bool
  pub calm : Bool
  pub shown : ℕ → Contents
  pub may : ℕ → List Contents

-- x is among xs
abbrev pub In : {A : Type 0} → A → List A → Type 0
In x [] = ⊥
In x (y ∷ ys) = (x ≡ y) ⊎ In x ys

-- what holds of every disk
pub record Sound (m : Meaning) : Type 0 where
  -- a live disk's sets have the shown contents
  pub shows : m.live ≡ true → (k : ℕ) → k < m.size → In (m.shown k) (m.may k)
  -- no set is empty
  pub some : (k : ℕ) → k < m.size → (x : Contents) × In x (m.may k)
  -- members are whole sectors
  pub whole : (k : ℕ) (x : Contents) → k < m.size → In x (m.may k) → Whole x
