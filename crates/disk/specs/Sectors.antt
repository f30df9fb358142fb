-- A disk that lies whole in bytes.
use Rattle.std.specs.Prelude.{◌≡◌, ℕ, ◌+◌, ◌*◌, ◌/◌, ◌%◌, true, cond, List, [], ◌∷◌, ◌++◌, map, length, take, drop, Ok, Err, nat_lt}
use Rattle.disk.specs.declared.fault.Cause.TheVariants.{Outside}
use Rattle.disk.specs.declared.fault.Layer.TheVariants.{Image as is_image}
use Rattle.disk.specs.Faults.{outside}
use Rattle.disk.specs.Meaning.{Contents, Meaning}
use Rattle.disk.specs.Rules.{Answer, Request}
use Rattle.disk.specs.Rules.Request.{getting, putting, settling, restarting}

-- how many whole sectors lie in these bytes
abbrev pub count : List ℕ → ℕ
count bytes = length bytes / 1024

-- sector k of these bytes; what lies in memory is below 256, which the type of a list does not say
unfoldable pub sector : List ℕ → ℕ → Contents
sector bytes k = map (λ b. b % 256) (take 1024 (drop (1024 * k) bytes))

-- a disk over these bytes: live and calm, and each set has the shown contents alone
abbrev pub over : List ℕ → Meaning
over bytes = record { size = count bytes; live = true; calm = true; shown = sector bytes; may = λ k. sector bytes k ∷ [] }

-- these bytes with x in the place of sector n, and nothing else changed
unfoldable pub written : List ℕ → ℕ → Contents → List ℕ
written bytes n x = take (1024 * n) bytes ++ (x ++ drop (1024 * n + 1024) bytes)

-- what a get or put of sector n answers
abbrev pub reached : List ℕ → ℕ → Answer
reached bytes n = cond (nat_lt n (count bytes)) (Ok tt) (Err (outside is_image n))

abbrev pub answered : List ℕ → Request → Answer
answered bytes (getting n) = reached bytes n
answered bytes (putting n x) = reached bytes n
answered bytes settling = Ok tt
answered bytes restarting = Ok tt

-- the bytes after a request
abbrev pub left : List ℕ → Request → List ℕ
left bytes (getting n) = bytes
left bytes (putting n x) = cond (nat_lt n (count bytes)) (written bytes n x) bytes
left bytes settling = bytes
left bytes restarting = bytes

abbrev pub NeverGone : Answer → Type 0
NeverGone (Ok _) = Unit {0}
NeverGone (Err f) = f.cause ≡ Outside

-- what an image does: bytes are those lent to it before, bytes' after
pub record ImageDoes (bytes : List ℕ) (q : Request) (r : Answer) (bytes' : List ℕ) : Type 0 where
  pub answers : r ≡ answered bytes q
  pub leaves : bytes' ≡ left bytes q
  pub never_gone : NeverGone r
  -- what lies after the last whole sector is untouched
  pub tail : drop (1024 * count bytes) bytes' ≡ drop (1024 * count bytes) bytes
