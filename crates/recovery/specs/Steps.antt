-- What each call of a disk does to the picks, whatever it answers.
use Rattle.std.specs.Prelude.{◌≡◌, ℕ, ◌<◌, ◌⊎◌}
use Rattle.disk.specs.Meaning.{Contents, Meaning, In}
use Rattle.disk.specs.Rules.{Answer, Fewer, Gets, Puts, Settles, Restarts}
use Rattle.catalog.specs.Catalogs.{Catalog}
use Rattle.promise.specs.Ledger.{Ledger}
use Rattle.recovery.specs.Picks.{Picks, NonEmpty, with_sector, Steady, Recoverable}

-- no set gains a member
pub record Less (m m' : Meaning) : Type 0 where
  pub size : m'.size ≡ m.size
  pub fewer : Fewer m m'

-- no set gains a member, but that of the sector k may gain b
pub record Plus (k : ℕ) (b : Contents) (m m' : Meaning) : Type 0 where
  pub size : m'.size ≡ m.size
  pub inside : k < m.size
  pub adds : (n : ℕ) (x : Contents) → n < m.size → In x (m'.may n) → In x (m.may n) ⊎ ((n ≡ k) × (x ≡ b))

-- every call is such a step, whatever it answers
pub record AreSteps : Type 0 where
  pub gets : (m m' : Meaning) (n : ℕ) (old new : Contents) (r : Answer) → Gets m n old r m' new → Less m m'
  pub puts : (m m' : Meaning) (n : ℕ) (b : Contents) (r : Answer) → Puts m n b r m' → Less m m' ⊎ Plus n b m m'
  pub settles : (m m' : Meaning) (r : Answer) → Settles m r m' → Less m m'
  pub restarts : (m m' : Meaning) (r : Answer) → Restarts m r m' → Less m m'

-- s is a pick of m with b in the sector k
pub record Over (m : Meaning) (k : ℕ) (b : Contents) (s : ℕ → Contents) : Type 0 where
  pub old : ℕ → Contents
  pub picks : Picks m old
  pub is : s ≡ with_sector old k b

-- after a put of b to k, a power stop leaves what it might have left before, or that with b in the sector k
abbrev pub OnePut : Type 0
OnePut = (m m' : Meaning) (k : ℕ) (b : Contents) → NonEmpty m → Plus k b m m' → (s : ℕ → Contents) → Picks m' s → Picks m s ⊎ Over m k b s

-- a step without a gain keeps a disk steady, and recoverable
abbrev pub LessSteady : Type 0
LessSteady = (l : Ledger) (c : Catalog) (m m' : Meaning) → Less m m' → Steady l c m → Steady l c m'

abbrev pub LessRecoverable : Type 0
LessRecoverable = (l : Ledger) (m m' : Meaning) → Less m m' → Recoverable l m → Recoverable l m'
