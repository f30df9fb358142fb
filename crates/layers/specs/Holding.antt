-- What a hold means and does. s and s' are the rows that it keeps before a request and after it, d and d' the disk below.
use Rattle.std.specs.Prelude.{◌≡◌, ℕ, ◌<◌, ◌≤◌, true, false, ◌⊎◌, List, [], ◌∷◌, length, is_some, Some, None, Ok, Err, Option}
use Rattle.disk.specs.declared.fault.Cause.{Cause}
use Rattle.disk.specs.declared.fault.Cause.TheVariants.{Outside, Gone}
use Rattle.disk.specs.declared.fault.DiskFault.{DiskFault}
use Rattle.disk.specs.declared.fault.Layer.TheVariants.{Hold as is_hold}
use Rattle.disk.specs.Faults.{outside, gone}
use Rattle.disk.specs.Meaning.{Contents, Meaning, Sound}
use Rattle.disk.specs.Rules.{Answer, Request, Shows, Fewer, Calm, Stops}
use Rattle.disk.specs.Rules.Request.{getting, putting, settling, restarting}
use Rattle.layers.specs.declared.kept.Kept.{Kept}
use Rattle.layers.specs.Layered.{Itself, HandsOn}
use Rattle.layers.specs.Rows.{at, With, Without}

-- the kept contents are shown, else those below; and they are one member more of the set
abbrev pub kept_or : Option Contents → Contents → Contents
kept_or (Some x) below = x
kept_or None below = below

abbrev pub and_kept : Option Contents → List Contents → List Contents
and_kept (Some x) below = x ∷ below
and_kept None below = below

-- what a hold means over a disk that means m, where `kept` tells what it keeps of each sector
abbrev pub held : (ℕ → Option Contents) → Meaning → Meaning
held kept m = record {
  size = m.size;
  live = m.live;
  calm = m.calm;
  shown = λ k. kept_or (kept k) (m.shown k);
  may = λ k. and_kept (kept k) (m.may k);
}

-- after row y was put down and below told this: accepted, it is kept no more;
-- gone, that is the answer of the hold, and all stays kept;
-- outside (which no sector meets that was put through a hold, since N is fixed), it is kept no more
abbrev pub Refused : Cause → DiskFault → Kept → List Kept → Answer → List Kept → Type 0
Refused Outside f y s r s' = (r ≡ Ok tt) × Without s y.sector s'
Refused Gone f y s r s' = (r ≡ Err f) × (s' ≡ s)

abbrev pub Follows : Answer → Kept → List Kept → Answer → List Kept → Type 0
Follows (Ok _) y s r s' = (r ≡ Ok tt) × Without s y.sector s'
Follows (Err f) y s r s' = Refused f.cause f y s r s'

-- after a put of sector n: accepted, it is kept; else all is as it was
abbrev pub Adds : Answer → List Kept → ℕ → Contents → List Kept → Type 0
Adds (Ok _) s n x s' = With s n x s'
Adds (Err _) s n x s' = s' ≡ s

-- the disk below does as it says
module _ {D : Type 0} (does : D → Request → Answer → D → Type 0) where
  -- one kept sector is put down; which one is left free
  pub record Down (s : List Kept) (d : D) (r : Answer) (s' : List Kept) (d' : D) : Type 0 where
    pub row : Kept
    pub told : Answer
    pub kept : at s row.sector ≡ Some row.bytes
    pub asked : does d (putting row.sector row.bytes) told d'
    pub follows : Follows told row s r s'

  -- some kept sectors are put down, one after the other, and none of them is gone
  pub data Downs : List Kept → D → List Kept → D → Type 0 where
    none : {s : List Kept} {d : D} → Downs s d s d
    more : {s s₁ s' : List Kept} {d d₁ d' : D} → Downs s d s₁ d₁ → Down s₁ d₁ (Ok tt) s' d' → Downs s d s' d'

  -- GET of a sector that is there: kept, it is not asked below; else it is
  abbrev pub Reads : Option Contents → ℕ → List Kept → D → Answer → List Kept → D → Type 0
  Reads (Some x) n s d r s' d' = (r ≡ Ok tt) × (s' ≡ s) × (d' ≡ d)
  Reads None n s d r s' d' = HandsOn does (getting n) s d r s' d'

  -- PUT of a sector that is there
  pub record Keeps (n : ℕ) (x : Contents) (s : List Kept) (d : D) (r : Answer) (s' : List Kept) (d' : D) : Type 0 where
    -- where it is kept already, or there is room, nothing is asked below
    pub room : (is_some (at s n) ≡ true) ⊎ (length s < 16) → (r ≡ Ok tt) × With s n x s' × (d' ≡ d)
    -- else one kept sector is put down first, and nothing else is asked below
    pub full : at s n ≡ None → 16 ≤ length s → (s₁ : List Kept) × Down s d r s₁ d' × Adds r s₁ n x s'

  -- SETTLE of a live hold: all is put down, the disk below is settled, and nothing is kept; or a put is gone on the way
  abbrev pub Empties : List Kept → D → Answer → List Kept → D → Type 0
  Empties s d r s' d' =
      ((d₁ : D) × Downs s d s' d₁ × (s' ≡ []) × does d₁ settling r d')
      ⊎ ((s₁ : List Kept) × (d₁ : D) × (f : DiskFault) × (r ≡ Err f) × Downs s d s₁ d₁ × Down s₁ d₁ (Err f) s' d')

  -- the disk below means m before the request
  module _ (m : Meaning) where
    -- a get or put: past the last sector, or not live, the hold answers by itself
    pub record Reaches (n : ℕ) (inside : Type 0) (s : List Kept) (d : D) (r : Answer) (s' : List Kept) (d' : D) : Type 0 where
      pub beyond : m.size ≤ n → Itself (outside is_hold n) s d r s' d'
      pub not_live : n < m.size → m.live ≡ false → Itself (gone is_hold n) s d r s' d'
      pub is_live : n < m.size → m.live ≡ true → inside

    pub record Settling (s : List Kept) (d : D) (r : Answer) (s' : List Kept) (d' : D) : Type 0 where
      pub not_live : m.live ≡ false → Itself (gone is_hold 0) s d r s' d'
      pub is_live : m.live ≡ true → Empties s d r s' d'

    abbrev pub HoldDoes : List Kept → D → Request → Answer → List Kept → D → Type 0
    HoldDoes s d (getting n) r s' d' = Reaches n (Reads (at s n) n s d r s' d') s d r s' d'
    HoldDoes s d (putting n x) r s' d' = Reaches n (Keeps n x s d r s' d') s d r s' d'
    HoldDoes s d settling r s' d' = Settling s d r s' d'
    HoldDoes s d restarting r s' d' = (s' ≡ []) × does d restarting r d'

-- inner: what it means that kept sectors are put down. Nothing that is shown changes, and no set gains a member.
abbrev pub SpillAnswers : Meaning → Answer → Meaning → Type 0
SpillAnswers m (Ok _) m' = (m.live ≡ true) × (m'.live ≡ true)
SpillAnswers m (Err f) m' = Stops f.cause m'

pub record Spills (m : Meaning) (r : Answer) (m' : Meaning) : Type 0 where
  pub answer : SpillAnswers m r m'
  pub size : m'.size ≡ m.size
  pub shows : Shows m m'
  pub fewer : Fewer m m'
  pub calm : Calm m (m.live ≡ true) r m'
  pub sound : Sound m'

-- inner: fewer rows are kept after an accepted one
abbrev pub Shrinks : ℕ → Answer → ℕ → Type 0
Shrinks a (Ok _) b = b < a
Shrinks a (Err _) b = Unit {0}

-- inner: all was put down, or one put is gone
module _ {D : Type 0} (does : D → Request → Answer → D → Type 0) where
  abbrev pub AllDown : List Kept → D → Answer → List Kept → D → Type 0
  AllDown s d (Ok _) s' d' = Downs does s d s' d' × (s' ≡ [])
  AllDown s d (Err f) s' d' = (s₁ : List Kept) × (d₁ : D) × Downs does s d s₁ d₁ × Down does s₁ d₁ (Err f) s' d'
