-- Kept sectors, as a list of rows.
use Rattle.std.specs.Prelude.{◌≡◌, ℕ, ◌+◌, cond, List, length, is_some, Some, None, Option, option_map, find, All, AllPairs, ◌==◌, ◌≢◌}
use Rattle.disk.specs.Meaning.{Contents, Whole}
use Rattle.layers.specs.declared.kept.Kept.{Kept}

-- what these rows keep of sector n
abbrev pub at : List Kept → ℕ → Option Contents
at rows n = option_map (λ (k : Kept). k.bytes) (find (λ (k : Kept). k.sector == n) rows)

-- no sector stands twice, and each row has a whole sector
pub record Tidy (rows : List Kept) : Type 0 where
  pub once : AllPairs (λ (a : Kept) (b : Kept). a.sector ≢ b.sector) rows
  pub whole : All (λ (k : Kept). Whole k.bytes) rows

-- now sector n is kept as x, and all others as they were; that is one row more, unless it was kept before
pub record With (s : List Kept) (n : ℕ) (x : Contents) (s' : List Kept) : Type 0 where
  pub kept : (k : ℕ) → at s' k ≡ cond (n == k) (Some x) (at s k)
  pub count : length s' ≡ cond (is_some (at s n)) (length s) (length s + 1)

-- now sector n is not kept, and all others are as they were; that is one row fewer
pub record Without (s : List Kept) (n : ℕ) (s' : List Kept) : Type 0 where
  pub gone : at s' n ≡ None
  pub others : (k : ℕ) → (k ≢ n) → at s' k ≡ at s k
  pub count : length s' + 1 ≡ length s
