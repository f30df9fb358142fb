-- A power stop after a run of a plan, and what it left: m is what the disk means before and m' after, d and d' the disk itself.
use Rattle.std.specs.Prelude.{◌≡◌, ℕ, ◌<◌, Bool, true, false, ◌⊎◌, List, [], ◌∷◌, take, is_ok, Ok, Err, Result}
use Rattle.disk.specs.declared.fault.DiskFault.{DiskFault}
use Rattle.disk.specs.Meaning.{Meaning, Sound}
use Rattle.disk.specs.Rules.{Answer, Request, Shows, Fewer}
use Rattle.disk.specs.Rules.Request.{restarting}
use Rattle.plan.specs.Plans.{blank}
use Rattle.plan.specs.declared.step.Step.{Step}
use Rattle.trial.specs.declared.stop.Report.{Report}
use Rattle.trial.specs.Endings.{Ending, reach}
use Rattle.trial.specs.Leaves.{leaves, among, failing}
use Rattle.trial.specs.Runs.{Ended, Fresh}

-- how many sectors show what these steps do not allow in a sector that was blank
abbrev pub wrong : Meaning → List Step → ℕ
wrong m ss = failing m.size (λ k. among (m.shown k) (leaves k (blank ∷ []) ss))

-- inner: sector k is read and judged
abbrev pub LookAnswers : Meaning → List Step → ℕ → Result Bool DiskFault → Meaning → Type 0
LookAnswers m ss k (Ok b) m' = (m'.live ≡ true) × (b ≡ among (m.shown k) (leaves k (blank ∷ []) ss))
LookAnswers m ss k (Err f) m' = k < m.size → m'.live ≡ false

pub record Looks (m : Meaning) (ss : List Step) (k : ℕ) (r : Result Bool DiskFault) (m' : Meaning) : Type 0 where
  pub answer : LookAnswers m ss k r m'
  pub size : m'.size ≡ m.size
  pub shows : Shows m m'
  pub fewer : Fewer m m'
  pub calm : m.calm ≡ true → m'.calm ≡ true
  pub accepts : m.calm ≡ true → m.live ≡ true → k < m.size → is_ok r ≡ true
  pub sound : Sound m'

-- inner: all sectors are read and judged
abbrev pub CountAnswers : Meaning → List Step → Result ℕ DiskFault → Meaning → Type 0
CountAnswers m ss (Ok n) m' = n ≡ wrong m ss
CountAnswers m ss (Err f) m' = m'.live ≡ false

pub record Counts (m : Meaning) (ss : List Step) (r : Result ℕ DiskFault) (m' : Meaning) : Type 0 where
  pub answer : CountAnswers m ss r m'
  pub size : m'.size ≡ m.size
  pub shows : Shows m m'
  pub fewer : Fewer m m'
  pub accepts : m.calm ≡ true → m.live ≡ true → is_ok r ≡ true
  pub live : m.live ≡ true → is_ok r ≡ true → m'.live ≡ true
  pub sound : Sound m'

-- every sector is blank
abbrev pub Blank : Meaning → Type 0
Blank m = (k : ℕ) → k < m.size → m.shown k ≡ blank

module _ {D : Type 0} (meaning : D → Meaning) (does : D → Request → Answer → D → Type 0) where
  -- a run, a restart, and then a look at all sectors, which are as the restart left them
  pub record Reported (d : D) (ss : List Step) (p : Report) (d' : D) : Type 0 where
    pub stopped : D
    pub started : D
    pub ran : Ended does ss d p.ending stopped
    pub restarted : does stopped restarting (Ok tt) started
    pub shows : Shows (meaning started) (meaning d')
    pub fewer : Fewer (meaning started) (meaning d')
    pub size : (meaning d').size ≡ (meaning d).size
    pub live : (meaning d').live ≡ true
    pub sound : Sound (meaning d')
    pub counts : p.wrong ≡ wrong (meaning d') (take (reach p.ending ss) ss)
    -- a fresh and blank disk, of whatever kind, is left with nothing that the plan does not allow
    pub allowed : Fresh (meaning d) → Blank (meaning d) → p.wrong ≡ 0

  -- a run, and then a disk that refuses its restart with this fault, or is gone after it; one that is calm after the run does neither
  pub record Lost (d : D) (ss : List Step) (f : DiskFault) (d' : D) : Type 0 where
    pub ending : Ending
    pub stopped : D
    pub ran : Ended does ss d ending stopped
    pub refused : does stopped restarting (Err f) d' ⊎ ((started : D) × does stopped restarting (Ok tt) started × ((meaning d').live ≡ false))
    pub not_calm : (meaning stopped).calm ≡ true → ⊥

  abbrev pub StopAnswers : D → List Step → Result Report DiskFault → D → Type 0
  StopAnswers d ss (Ok p) d' = Reported d ss p d'
  StopAnswers d ss (Err f) d' = Lost d ss f d'
