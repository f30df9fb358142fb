-- What a plan allows a power stop to leave in a sector: what was settled last, or what was put later.
use Rattle.std.specs.Prelude.{ℕ, zero, suc, ◌+◌, Bool, false, cond, ◌||◌, List, [], ◌∷◌, ◌==◌}
use Rattle.std.specs.Str.{bytes_eq}
use Rattle.disk.specs.Meaning.{Contents}
use Rattle.plan.specs.declared.step.Step.{Step}
use Rattle.plan.specs.declared.step.Step.TheVariants.{Put, Settle}

-- the newest alone
abbrev pub newest : List Contents → List Contents
newest [] = []
newest (x ∷ xs) = x ∷ []

-- what is allowed in sector k after one step more, the newest first: a put adds to its sector, a settle leaves the newest
abbrev pub after : ℕ → List Contents → Step → List Contents
after k xs (Put n x) = cond (n == k) (x ∷ xs) xs
after k xs Settle = newest xs

-- and after these steps
abbrev pub leaves : ℕ → List Contents → List Step → List Contents
leaves k xs [] = xs
leaves k xs (s ∷ ss) = leaves k (after k xs s) ss

-- whether x is among these
abbrev pub among : Contents → List Contents → Bool
among x [] = false
among x (y ∷ ys) = bytes_eq y x || among x ys

-- how many of the first n sectors fail a test
abbrev pub failing : ℕ → (ℕ → Bool) → ℕ
failing zero test = 0
failing (suc n) test = failing n test + cond (test n) 0 1
