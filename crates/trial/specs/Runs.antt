-- A plan run on a disk: m is what the disk means before and m' after, d and d' the disk itself.
use Rattle.std.specs.Prelude.{◌≡◌, ℕ, ◌<◌, true, List, [], ◌∷◌, ◌++◌, length, take, Ok, Err, slice_index_or}
use Rattle.disk.specs.Meaning.{Contents, Meaning, In, Sound}
use Rattle.disk.specs.Rules.{Answer, Request, Settled, Puts, Settles}
use Rattle.disk.specs.Rules.Request.{putting, settling}
use Rattle.plan.specs.declared.step.Step.{Step}
use Rattle.plan.specs.declared.step.Step.TheVariants.{Put, Settle}
use Rattle.trial.specs.Endings.{Ending, reach}
use Rattle.trial.specs.Leaves.{leaves}

-- what a step asks of a disk, and the rule that it goes by
abbrev pub request : Step → Request
request (Put n x) = putting n x
request Settle = settling

abbrev pub Rule : Step → Meaning → Answer → Meaning → Type 0
Rule (Put n x) m r m' = Puts m n x r m'
Rule Settle m r m' = Settles m r m'

module _ {D : Type 0} (does : D → Request → Answer → D → Type 0) where
  -- these steps were asked, in order, and each was accepted
  pub data Accepted : D → List Step → D → Type 0 where
    none : {d : D} → Accepted d [] d
    more : {d d₁ d' : D} {ss : List Step} (s : Step) → Accepted d ss d₁ → does d₁ (request s) (Ok tt) d' → Accepted d (ss ++ (s ∷ [])) d'

  -- all steps were accepted; or those before the one at which the run was stopped, which was refused with this fault
  abbrev pub Ended : List Step → D → Ending → D → Type 0
  Ended ss d (Ok _) d' = Accepted d ss d'
  Ended ss d (Err p) d' = (p.step < length ss) × ((d₁ : D) × Accepted d (take p.step ss) d₁ × does d₁ (request (slice_index_or ss p.step Settle)) (Err p.fault) d')

-- a disk that a plan can start from: live, and nothing but what is shown can be left
pub record Fresh (m : Meaning) : Type 0 where
  pub live : m.live ≡ true
  pub settled : Settled m

-- whatever a power stop may leave in a sector is what the plan allows there
abbrev pub Allows : Meaning → List Step → Meaning → Type 0
Allows m ss m' = (k : ℕ) (x : Contents) → k < m.size → In x (m'.may k) → In x (leaves k (m.shown k ∷ []) ss)

pub record Ran (m : Meaning) (ss : List Step) (e : Ending) (m' : Meaning) : Type 0 where
  pub size : m'.size ≡ m.size
  pub sound : Sound m'
  pub calm : m.calm ≡ true → m'.calm ≡ true
  pub allows : Fresh m → Allows m (take (reach e ss) ss) m'
