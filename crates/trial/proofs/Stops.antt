-- A look at all sectors, one after the other, and what it finds after a restart.
use Rattle.std.proofs.Common.{◌≡◌, ℕ, zero, suc, ◌+◌, ◌<◌, ◌≤◌, Bool, true, false, cond, List, [], ◌∷◌, take, IsErrAnd, Ok, Err, Result, sym, refl, ap, ◌∙◌, subst, arith}
use Rattle.std.proofs.lemmas.Result.{err_from_is_err_and}
use Rattle.std.proofs.lemmas.Bool.{both_ways}
use Rattle.disk.specs.declared.fault.DiskFault.{DiskFault}
use Rattle.disk.specs.Meaning.{Meaning, In, Sound}
use Rattle.disk.specs.Rules.{Answer, Request, Shows, Fewer, Restarts}
use Rattle.disk.specs.Rules.Request.{restarting}
use Rattle.plan.specs.Plans.{blank}
use Rattle.plan.specs.declared.step.Step.{Step}
use Rattle.trial.specs.Endings.{Ending, reach}
use Rattle.trial.specs.Leaves.{leaves, among, failing}
use Rattle.trial.specs.Runs.{Ended, Ran}
use Rattle.trial.specs.Stops.{wrong, Looks, Counts, StopAnswers}
use Rattle.trial.proofs.Judges.{in-among, failing-none, failing-more}

-- whether sector k shows what is allowed
abbrev passes : Meaning → List Step → ℕ → Bool
passes m ss k = among (m.shown k) (leaves k (blank ∷ []) ss)

failing-same : (n : ℕ) (f g : ℕ → Bool) → ((k : ℕ) → k < n → f k ≡ g k) → failing n f ≡ failing n g
failing-same zero f g h = refl
failing-same (suc n) f g h =
    rw (failing-same n f g (λ k lt. h k (omega arith)), h n (omega arith))

-- the first k sectors were looked at, and these many are wrong
pub record Looked (m₀ : Meaning) (ss : List Step) (k w : ℕ) (m : Meaning) : Type 0 where
  pub size : m.size ≡ m₀.size
  pub shows : Shows m₀ m
  pub fewer : Fewer m₀ m
  pub calm : m₀.calm ≡ true → m.calm ≡ true
  pub live : m₀.live ≡ true → m.live ≡ true
  pub sound : Sound m
  pub counts : w ≡ failing k (passes m₀ ss)
  pub few : w ≤ k

more-few : (b : Bool) (w k : ℕ) → w ≤ k → w + cond b 0 1 ≤ k + 1
more-few true w k h = omega arith
more-few false w k h = omega arith

module _ (m₀ m m' : Meaning) (ss : List Step) (k w : ℕ) (lt : k < m₀.size) (h : Looked m₀ ss k w m) where
  inside : {j : ℕ} → j < m₀.size → j < m.size
  inside {j} l = omega arith

  pub looked-more : (b : Bool) (w' : ℕ) → Looks m ss k (Ok b) m' → w' ≡ w + cond b 0 1 → Looked m₀ ss (k + 1) w' m'
  looked-more b w' p is = record {
    size = p.size ∙ h.size;
    shows = λ j l. p.shows j (inside l) ∙ h.shows j l;
    fewer = λ j x l i. h.fewer j x l (p.fewer j x (inside l) i);
    calm = λ c. p.calm (h.calm c);
    live = λ _. p.answer.0;
    sound = p.sound;
    counts =
        is ∙ (ap (λ a. a + cond b 0 1) h.counts
        ∙ sym (failing-more k (passes m₀ ss) b (sym (p.answer.1 ∙ ap (λ x. among x (leaves k (blank ∷ []) ss)) (h.shows k lt)))));
    few = rw is (more-few b w k h.few);
  }

  refused : (f : DiskFault) → Looks m ss k (Err f) m' → Counts m₀ ss (Err f) m'
  refused f p = record {
    answer = p.answer (inside lt);
    size = p.size ∙ h.size;
    shows = λ j l. p.shows j (inside l) ∙ h.shows j l;
    fewer = λ j x l i. h.fewer j x l (p.fewer j x (inside l) i);
    accepts = λ c l. p.accepts (h.calm c) (h.live l) (inside lt);
    live = λ _ ok. absurd (both_ways false refl ok);
    sound = p.sound;
  }

  pub counts-err : (r : Result ℕ DiskFault) (f : DiskFault) → IsErrAnd r (λ e. e ≡ f) → Looks m ss k (Err f) m' → Counts m₀ ss r m'
  counts-err r f by p =
      let q = err_from_is_err_and r by in
      rw (q.1 ∙ ap Err q.2) (refused f p)

module _ (D : Type 0) (meaning : D → Meaning) (does : D → Request → Answer → D → Type 0) (d d₁ d₂ d' : D) (ss done : List Step) (e : Ending) (w : ℕ) where
  pub reported : Ended does ss d e d₁ → Ran (meaning d) ss e (meaning d₁) → does d₁ restarting (Ok tt) d₂ → Restarts (meaning d₁) (Ok tt) (meaning d₂) →
      done ≡ take (reach e ss) ss → Counts (meaning d₂) done (Ok w) (meaning d') → StopAnswers meaning does d ss (Ok (record { ending = e; wrong = w })) d'
  reported ended ran asked rule is counts =
      let size₂ = rule.size ∙ ran.size in
      record {
        stopped = d₁;
        started = d₂;
        ran = ended;
        restarted = asked;
        shows = counts.shows;
        fewer = counts.fewer;
        size = counts.size ∙ size₂;
        live = counts.live rule.answer.live refl;
        sound = counts.sound;
        counts =
            counts.answer
            ∙ (ap (wrong (meaning d₂)) is
            ∙ (ap (λ n. failing n (passes (meaning d₂) (take (reach e ss) ss))) (sym counts.size)
            ∙ failing-same (meaning d').size _ _ (λ k lt. ap (λ x. among x (leaves k (blank ∷ []) (take (reach e ss) ss))) (sym (counts.shows k (omega arith))))));
        allowed = λ fresh zero-at.
            counts.answer
            ∙ (ap (wrong (meaning d₂)) is
            ∙ failing-none (meaning d₂).size (passes (meaning d₂) (take (reach e ss) ss)) (λ k lt.
            let lt₁ : k < (meaning d₁).size = omega arith in
            let lt₀ : k < (meaning d).size = omega arith in
            let i = ran.allows fresh k ((meaning d₂).shown k) lt₀ (rule.answer.picks k lt₁) in
            in-among ((meaning d₂).shown k) _ (subst (λ x. In ((meaning d₂).shown k) (leaves k (x ∷ []) (take (reach e ss) ss))) (zero-at k lt₀) i)));
      }
