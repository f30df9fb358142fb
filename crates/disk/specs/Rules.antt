-- The rules of a disk, call by call. m is its meaning before a call and m' after it, r the answer, n the sector asked for.
use Rattle.std.specs.Prelude.{◌≡◌, ℕ, ◌<◌, ◌≤◌, Bool, true, false, ◌⊎◌, Ok, Err, Result, ◌≢◌}
use Rattle.disk.specs.declared.fault.Cause.{Cause}
use Rattle.disk.specs.declared.fault.Cause.TheVariants.{Outside, Gone}
use Rattle.disk.specs.declared.fault.DiskFault.{DiskFault}
use Rattle.disk.specs.Meaning.{Contents, Meaning, In, Sound}

-- what a get, put, settle or restart answers
abbrev pub Answer : Type 0
Answer = Result Unit DiskFault

-- what a disk can be asked to do
pub data Request : Type 0 where
  getting : ℕ → Request
  putting : ℕ → Contents → Request
  settling : Request
  restarting : Request

-- no sector's shown contents change
abbrev pub Shows : Meaning → Meaning → Type 0
Shows m m' = (k : ℕ) → k < m.size → m'.shown k ≡ m.shown k

-- no set gains a member; it may lose some
abbrev pub Fewer : Meaning → Meaning → Type 0
Fewer m m' = (k : ℕ) (x : Contents) → k < m.size → In x (m'.may k) → In x (m.may k)

-- each set has the shown contents and nothing else
abbrev pub Settled : Meaning → Type 0
Settled m = (k : ℕ) (x : Contents) → k < m.size → In x (m.may k) → x ≡ m.shown k

-- a get or put that is refused as outside: there is no sector n, live or not; the fault names n; nothing changes
pub record IsOutside (m : Meaning) (n : ℕ) (f : DiskFault) (m' : Meaning) : Type 0 where
  pub beyond : m.size ≤ n
  pub sector : f.sector ≡ n
  pub same : m' ≡ m

-- a get or put that is refused as gone: there is a sector n, and the disk is no longer live
pub record IsGone (m : Meaning) (n : ℕ) (m' : Meaning) : Type 0 where
  pub inside : n < m.size
  pub lost : m'.live ≡ false

-- what a refusal of a get or put says, by its cause
abbrev pub Refuses : Cause → Meaning → ℕ → DiskFault → Meaning → Type 0
Refuses Outside m n f m' = IsOutside m n f m'
Refuses Gone m n f m' = IsGone m n m'

-- what a refusal of a settle or restart says, by its cause: it is never outside; gone, the disk is no longer live
abbrev pub Stops : Cause → Meaning → Type 0
Stops Outside m' = ⊥
Stops Gone m' = m'.live ≡ false

-- a calm disk stays calm, and accepts a call where that is due
pub record Calm (m : Meaning) (due : Type 0) (r : Answer) (m' : Meaning) : Type 0 where
  pub stays : m.calm ≡ true → m'.calm ≡ true
  pub accepts : m.calm ≡ true → due → r ≡ Ok tt

-- SIZE and LIVE, which change nothing

pub record Sizes (m : Meaning) (r : ℕ) (m' : Meaning) : Type 0 where
  pub is : r ≡ m.size
  pub same : m' ≡ m
  pub sound : Sound m

pub record Lives (m : Meaning) (r : Bool) (m' : Meaning) : Type 0 where
  pub is : r ≡ m.live
  pub same : m' ≡ m
  pub sound : Sound m

-- GET into a buffer, which held old and now holds new

pub record Got (m : Meaning) (n : ℕ) (m' : Meaning) (new : Contents) : Type 0 where
  pub inside : n < m.size
  pub was : m.live ≡ true
  pub live : m'.live ≡ true
  pub filled : new ≡ m.shown n

pub record NotGot (m : Meaning) (n : ℕ) (old : Contents) (f : DiskFault) (m' : Meaning) (new : Contents) : Type 0 where
  pub why : Refuses f.cause m n f m'
  pub untouched : new ≡ old

abbrev pub GetAnswers : Meaning → ℕ → Contents → Answer → Meaning → Contents → Type 0
GetAnswers m n old (Ok _) m' new = Got m n m' new
GetAnswers m n old (Err f) m' new = NotGot m n old f m' new

pub record Gets (m : Meaning) (n : ℕ) (old : Contents) (r : Answer) (m' : Meaning) (new : Contents) : Type 0 where
  pub answer : GetAnswers m n old r m' new
  pub size : m'.size ≡ m.size
  pub shows : Shows m m'
  pub fewer : Fewer m m'
  pub calm : Calm m ((m.live ≡ true) × (n < m.size)) r m'
  pub sound : Sound m'

-- PUT of bytes

pub record Taken (m : Meaning) (n : ℕ) (bytes : Contents) (m' : Meaning) : Type 0 where
  pub inside : n < m.size
  pub was : m.live ≡ true
  pub live : m'.live ≡ true
  pub shown : m'.shown n ≡ bytes

abbrev pub PutAnswers : Meaning → ℕ → Contents → Answer → Meaning → Type 0
PutAnswers m n bytes (Ok _) m' = Taken m n bytes m'
PutAnswers m n bytes (Err f) m' = Refuses f.cause m n f m'

pub record Puts (m : Meaning) (n : ℕ) (bytes : Contents) (r : Answer) (m' : Meaning) : Type 0 where
  pub answer : PutAnswers m n bytes r m'
  pub size : m'.size ≡ m.size
  -- accepted or not, only sector n may show something else
  pub others : (k : ℕ) → k < m.size → (k ≢ n) → m'.shown k ≡ m.shown k
  -- accepted or not, a set gains at most these bytes, at sector n and of a live disk
  pub adds : (k : ℕ) (x : Contents) → k < m.size → In x (m'.may k) → In x (m.may k) ⊎ ((k ≡ n) × (x ≡ bytes) × (m.live ≡ true))
  pub calm : Calm m ((m.live ≡ true) × (n < m.size)) r m'
  pub sound : Sound m'

-- SETTLE

pub record IsSettled (m m' : Meaning) : Type 0 where
  pub was : m.live ≡ true
  pub live : m'.live ≡ true
  pub settled : Settled m'

abbrev pub SettleAnswers : Meaning → Answer → Meaning → Type 0
SettleAnswers m (Ok _) m' = IsSettled m m'
SettleAnswers m (Err f) m' = Stops f.cause m'

pub record Settles (m : Meaning) (r : Answer) (m' : Meaning) : Type 0 where
  pub answer : SettleAnswers m r m'
  pub size : m'.size ≡ m.size
  pub shows : Shows m m'
  pub fewer : Fewer m m'
  pub calm : Calm m (m.live ≡ true) r m'
  pub sound : Sound m'

-- RESTART

pub record IsRestarted (m m' : Meaning) : Type 0 where
  pub live : m'.live ≡ true
  -- a member of each set is what is shown, and the whole set
  pub picks : (k : ℕ) → k < m.size → In (m'.shown k) (m.may k)
  pub settled : Settled m'

abbrev pub RestartAnswers : Meaning → Answer → Meaning → Type 0
RestartAnswers m (Ok _) m' = IsRestarted m m'
RestartAnswers m (Err f) m' = Stops f.cause m'

pub record Restarts (m : Meaning) (r : Answer) (m' : Meaning) : Type 0 where
  pub answer : RestartAnswers m r m'
  pub size : m'.size ≡ m.size
  pub fewer : Fewer m m'
  pub calm : Calm m (Unit {0}) r m'
  pub sound : Sound m'
