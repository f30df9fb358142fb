-- One step more of a plan: what a disk may leave stays within what the plan allows.
use Rattle.std.proofs.Common.{◌≡◌, ℕ, ◌+◌, ◌<◌, Bool, true, false, cond, eqb, List, [], ◌∷◌, ◌++◌, length, get_or, take, Ok, Err, sym, refl, arith, ap, ◌∙◌, subst, inl, inr, ⊎_elim}
use Rattle.std.proofs.lemmas.List.{take_more}
use Rattle.std.proofs.lemmas.Bool.{eq-eqb, ne_eqb, cases_eq}
use Rattle.disk.specs.declared.fault.DiskFault.{DiskFault}
use Rattle.disk.specs.Meaning.{Contents, Meaning, In, Sound}
use Rattle.disk.specs.Rules.{Answer, Puts, Settles}
use Rattle.plan.specs.declared.step.Step.{Step}
use Rattle.plan.specs.declared.step.Step.TheVariants.{Put, Settle}
use Rattle.trial.specs.Endings.{is_put}
use Rattle.trial.specs.Leaves.{newest, after, leaves}
use Rattle.trial.specs.Runs.{Rule, Fresh, Allows, Ran}

-- LISTS of what is allowed

pub leaves-more : (k : ℕ) (xs : List Contents) (ss : List Step) (s : Step) → leaves k xs (ss ++ (s ∷ [])) ≡ after k (leaves k xs ss) s
leaves-more k xs [] s = refl
leaves-more k xs (t ∷ ss) s = leaves-more k (after k xs t) ss s

newest-twice : (xs : List Contents) → newest (newest xs) ≡ newest xs
newest-twice [] = refl
newest-twice (x ∷ xs) = refl

add-here : (n k : ℕ) (x y : Contents) (xs : List Contents) → k ≡ n → y ≡ x → In y (cond (eqb n k) (x ∷ xs) xs)
add-here n k x y xs e f = rw (eq-eqb n k (sym e)) (inl f)

add-wider : (b : Bool) (x y : Contents) (xs : List Contents) → In y xs → In y (cond b (x ∷ xs) xs)
add-wider true x y xs i = inr i
add-wider false x y xs i = i

-- after these accepted steps, from m₀ to m
pub record Kept (m₀ : Meaning) (ss : List Step) (m : Meaning) : Type 0 where
  pub size : m.size ≡ m₀.size
  pub sound : Sound m
  pub calm : m₀.calm ≡ true → m.calm ≡ true
  pub allows : Fresh m₀ → Allows m₀ ss m
  -- what is shown is the newest of what is allowed
  pub shows : Fresh m₀ → (k : ℕ) → k < m₀.size → newest (leaves k (m₀.shown k ∷ []) ss) ≡ m.shown k ∷ []

pub kept-none : (m : Meaning) → Sound m → Kept m [] m
kept-none m s = record {
  size = refl;
  sound = s;
  calm = λ c. c;
  allows = λ fresh k x lt i. inl (fresh.settled k x lt i);
  shows = λ fresh k lt. refl;
}

module _ (m₀ m m' : Meaning) (ss : List Step) (kept : Kept m₀ ss m) where
  inside : {k : ℕ} → k < m₀.size → k < m.size
  inside {k} lt = omega arith

  allowed : ℕ → List Contents
  allowed k = leaves k (m₀.shown k ∷ []) ss

  -- a put, accepted or not: refused, it may have come down
  pub put-allows : (n : ℕ) (x : Contents) (r : Answer) → Puts m n x r m' → Fresh m₀ → Allows m₀ (ss ++ (Put n x ∷ [])) m'
  unfolding allowed
  put-allows n x r p fresh k y lt i =
      subst (In y) (sym (leaves-more k (m₀.shown k ∷ []) ss (Put n x)))
      (⊎_elim
      (λ j. add-wider (eqb n k) x y (allowed k) (kept.allows fresh k y lt j))
      (λ j. add-here n k x y (allowed k) j.0 j.1)
      (p.adds k y (inside lt) i))

  put-shows : (n : ℕ) (x : Contents) → Puts m n x (Ok tt) m' → Fresh m₀ → (k : ℕ) → k < m₀.size →
      newest (leaves k (m₀.shown k ∷ []) (ss ++ (Put n x ∷ []))) ≡ m'.shown k ∷ []
  unfolding allowed
  put-shows n x p fresh k lt =
      ap newest (leaves-more k (m₀.shown k ∷ []) ss (Put n x))
      ∙ ⊎_elim
      (λ (e : k ≡ n).
      ap (λ b. newest (cond b (x ∷ allowed k) (allowed k))) (eq-eqb n k (sym e)) ∙ ap (λ z. z ∷ []) (sym (ap m'.shown e ∙ p.answer.shown)))
      (λ ne.
      ap (λ b. newest (cond b (x ∷ allowed k) (allowed k))) (ne_eqb n k (λ e. ne (sym e)))
      ∙ (kept.shows fresh k lt ∙ ap (λ z. z ∷ []) (sym (p.others k (inside lt) ne))))
      (cases_eq k n)

  kept_put : (n : ℕ) (x : Contents) → Puts m n x (Ok tt) m' → Kept m₀ (ss ++ (Put n x ∷ [])) m'
  kept_put n x p = record {
    size = p.size ∙ kept.size;
    sound = p.sound;
    calm = λ c. p.calm.stays (kept.calm c);
    allows = put-allows n x (Ok tt) p;
    shows = put-shows n x p;
  }

  kept-settle : Settles m (Ok tt) m' → Kept m₀ (ss ++ (Settle ∷ [])) m'
  unfolding allowed
  kept-settle p = record {
    size = p.size ∙ kept.size;
    sound = p.sound;
    calm = λ c. p.calm.stays (kept.calm c);
    allows = λ fresh k y lt i.
        let lt' : k < m'.size = omega arith in
        let is = p.answer.settled k y lt' i ∙ p.shows k (inside lt) in
        subst (In y) (sym (leaves-more k (m₀.shown k ∷ []) ss Settle)) (subst (In y) (sym (kept.shows fresh k lt)) (inl is));
    shows = λ fresh k lt.
        ap newest (leaves-more k (m₀.shown k ∷ []) ss Settle)
        ∙ (newest-twice (allowed k) ∙ (kept.shows fresh k lt ∙ ap (λ z. z ∷ []) (sym (p.shows k (inside lt)))));
  }

  pub kept_more : (s : Step) → Rule s m (Ok tt) m' → Kept m₀ (ss ++ (s ∷ [])) m'
  kept_more (Put n x) p = kept_put n x p
  kept_more Settle p = kept-settle p

  -- a refused settle counts for nothing
  pub refused-settle : (f : DiskFault) → Settles m (Err f) m' → Fresh m₀ → Allows m₀ ss m'
  refused-settle f p fresh k y lt i = kept.allows fresh k y lt (p.fewer k y (inside lt) i)

module _ (m₀ m m' : Meaning) (ss : List Step) (i : ℕ) (f : DiskFault) (lt : i < length ss) (kept : Kept m₀ (take i ss) m) where
  stopped-at : (s : Step) → get_or ss i Settle ≡ s → Rule s m (Err f) m' → Ran m₀ ss (Err (record { step = i; fault = f })) m'
  stopped-at (Put n x) is p = record {
    size = p.size ∙ kept.size;
    sound = p.sound;
    calm = λ c. p.calm.stays (kept.calm c);
    allows = λ fresh.
        let e = ap (λ b. take (cond b (i + 1) i) ss) (ap is_put is) ∙ (take_more ss i Settle lt ∙ ap (λ s. take i ss ++ (s ∷ [])) is) in
        subst (λ l. Allows m₀ l m') (sym e) (put-allows m₀ m m' (take i ss) kept n x (Err f) p fresh);
  }
  stopped-at Settle is p = record {
    size = p.size ∙ kept.size;
    sound = p.sound;
    calm = λ c. p.calm.stays (kept.calm c);
    allows = λ fresh.
        let e = ap (λ b. take (cond b (i + 1) i) ss) (ap is_put is) in
        subst (λ l. Allows m₀ l m') (sym e) (refused-settle m₀ m m' (take i ss) kept f p fresh);
  }

  pub ran-stopped : Rule (get_or ss i Settle) m (Err f) m' → Ran m₀ ss (Err (record { step = i; fault = f })) m'
  ran-stopped p = stopped-at (get_or ss i Settle) refl p

pub ran-finished : (m₀ m : Meaning) (ss : List Step) (i : ℕ) → length ss ≡ i → Kept m₀ (take i ss) m → Ran m₀ ss (Ok tt) m
ran-finished m₀ m ss i e kept = record {
  size = kept.size;
  sound = kept.sound;
  calm = kept.calm;
  allows = λ fresh. subst (λ j. Allows m₀ (take j ss) m) (sym e) (kept.allows fresh);
}
