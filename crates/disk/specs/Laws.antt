-- What follows from the rules for any disk: which answer a call must give, and what an accepted put leaves.
use Rattle.std.specs.Prelude.{◌≡◌, ℕ, ◌<◌, ◌≤◌, false, Ok, Err}
use Rattle.disk.specs.declared.fault.Cause.{Cause}
use Rattle.disk.specs.declared.fault.Cause.TheVariants.{Outside, Gone}
use Rattle.disk.specs.declared.fault.DiskFault.{DiskFault}
use Rattle.disk.specs.Meaning.{Contents, Meaning, In}
use Rattle.disk.specs.Rules.{Answer, Gets, Puts, Settles}

-- the answer is a refusal of this cause
abbrev pub Says : Cause → Answer → Type 0
Says c (Ok _) = ⊥
Says c (Err f) = f.cause ≡ c

pub record Follows : Type 0 where
  -- a get or put past the last sector answers outside, live or not
  pub get_outside : (m m' : Meaning) (n : ℕ) (old new : Contents) (r : Answer) → Gets m n old r m' new → m.size ≤ n → Says Outside r
  pub put_outside : (m m' : Meaning) (n : ℕ) (x : Contents) (r : Answer) → Puts m n x r m' → m.size ≤ n → Says Outside r
  -- not live, any other get or put, and a settle, answer gone
  pub get_gone : (m m' : Meaning) (n : ℕ) (old new : Contents) (r : Answer) → Gets m n old r m' new → n < m.size → m.live ≡ false → Says Gone r
  pub put_gone : (m m' : Meaning) (n : ℕ) (x : Contents) (r : Answer) → Puts m n x r m' → n < m.size → m.live ≡ false → Says Gone r
  pub settle_gone : (m m' : Meaning) (r : Answer) → Settles m r m' → m.live ≡ false → Says Gone r
  -- a get that is refused leaves its buffer untouched
  pub untouched : (m m' : Meaning) (n : ℕ) (old new : Contents) (f : DiskFault) → Gets m n old (Err f) m' new → new ≡ old
  -- the bytes of an accepted put are in the set of its sector
  pub added : (m m' : Meaning) (n : ℕ) (x : Contents) → Puts m n x (Ok tt) m' → In x (m'.may n)
