-- A disk that is only read: d is the disk before and d' after, m and m' what it means.
use Rattle.std.specs.Prelude.{◌≡◌, ℕ, true}
use Rattle.disk.specs.Meaning.{Meaning}
use Rattle.disk.specs.Rules.{Answer, Request, Shows, Fewer}
use Rattle.disk.specs.Rules.Request.{getting}

-- nothing but gets was asked, whatever they answered
pub data Reads {D : Type 0} (does : D → Request → Answer → D → Type 0) : D → D → Type 0 where
  none : {d : D} → Reads does d d
  more : {d d₁ d' : D} {n : ℕ} {r : Answer} → Reads does d d₁ → does d₁ (getting n) r d' → Reads does d d'

-- what that leaves of what it means: its size, what is shown, no more for a power stop to leave, and a calm disk calm
pub record ReadOnly (m m' : Meaning) : Type 0 where
  pub size : m'.size ≡ m.size
  pub shows : Shows m m'
  pub fewer : Fewer m m'
  pub calm : m.calm ≡ true → m'.calm ≡ true
