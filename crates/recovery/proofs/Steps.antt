-- Steps on the picks, and the rule of one put.
use Rattle.std.proofs.Common.{◌≡◌, ℕ, ◌<◌, Bool, true, false, cond, eqb, ◌⊎◌, sym, refl, ap, ◌∙◌, subst, inl, inr, arith}
use mathlib.Core.Path.{fun_ext}
use Rattle.std.proofs.lemmas.Bool.{eqb-true, eqb-false, eq-eqb, ne_eqb, cases_lt}
use Rattle.disk.specs.Meaning.{Contents, Meaning, In}
use Rattle.disk.specs.Rules.{Answer, Puts}
use Rattle.promise.specs.Ledger.{Ledger}
use Rattle.promise.specs.Promise.{Agrees}
use Rattle.recovery.specs.Picks.{Picks, with_sector, Recovers}
use Rattle.recovery.specs.Steps.{Less, Plus, AreSteps, Over, OnePut, LessSteady, LessRecoverable}

-- a put past the last sector adds nothing
puts-step : (m m' : Meaning) (n : ℕ) (b : Contents) (r : Answer) → Puts m n b r m' → Less m m' ⊎ Plus n b m m'
puts-step m m' n b r h = elim (cases_lt n m.size) [
  | inl i ↦ inr (record { size = h.size; inside = i; adds = λ k x j y. elim (h.adds k x j y) [ inl z ↦ inl z | inr z ↦ inr (z.0, z.1) ] })
  | inr i ↦ inl (record { size = h.size; fewer = λ k x j y. elim (h.adds k x j y) [ inl z ↦ z | inr z ↦ let e : k ≡ n = z.0 in absurd (omega arith) ] })
]

pub are-steps : AreSteps
are-steps = record {
  gets = λ m m' n old new r h. record { size = h.size; fewer = h.fewer };
  puts = puts-step;
  settles = λ m m' r h. record { size = h.size; fewer = h.fewer };
  restarts = λ m m' r h. record { size = h.size; fewer = h.fewer };
}

-- a pick after a step without a gain was one before it
pub less-picks : {m m' : Meaning} → Less m m' → (s : ℕ → Contents) → Picks m' s → Picks m s
less-picks {m} {m'} d s h n i = d.fewer n (s n) i (h n (subst (λ (z : ℕ). n < z) (sym d.size) i))

pub less-steady : LessSteady
less-steady l c m m' d h s p = subst (λ (z : ℕ). Agrees l z s c) (sym d.size) (h s (less-picks d s p))

pub resized : (l : Ledger) (n n' : ℕ) (s : ℕ → Contents) → n' ≡ n → Recovers l n s → Recovers l n' s
resized l n n' s e r = subst (λ (z : ℕ). Recovers l z s) (sym e) r

pub less-recoverable : LessRecoverable
less-recoverable l m m' d h s p = resized l m.size m'.size s d.size (h s (less-picks d s p))

-- with_sector, by cases
pub sector-here : (s : ℕ → Contents) (k : ℕ) (b : Contents) (n : ℕ) → n ≡ k → with_sector s k b n ≡ b
sector-here s k b n e = ap (λ (v : Bool). cond v b (s n)) (eq-eqb n k e)

pub sector-apart : (s : ℕ → Contents) (k : ℕ) (b : Contents) (n : ℕ) → (n ≡ k → ⊥) → with_sector s k b n ≡ s n
sector-apart s k b n e = ap (λ (v : Bool). cond v b (s n)) (ne_eqb n k e)

pub one-or : (n k : ℕ) → (n ≡ k) ⊎ (n ≡ k → ⊥)
one-or n k = go (eqb n k) refl
  where
    go : (v : Bool) → eqb n k ≡ v → (n ≡ k) ⊎ (n ≡ k → ⊥)
    go true e = inl (eqb-true n k e)
    go false e = inr (eqb-false n k e)

pub one-put : OnePut
one-put m m' k b f d s p = by (d.adds k (s k) d.inside (at k d.inside))
  where
    at : (n : ℕ) → n < m.size → In (s n) (m'.may n)
    at n i = p n (subst (λ (y : ℕ). n < y) (sym d.size) i)

    z : Contents
    z = (f k d.inside).0

    picks : (n : ℕ) → n < m.size → In (with_sector s k z n) (m.may n)
    picks n l = elim (one-or n k) [
      | inl e ↦ subst (λ (y : Contents). In y (m.may n)) (sym (sector-here s k z n e)) (subst (λ (y : ℕ). In z (m.may y)) (sym e) (f k d.inside).1)
      | inr e ↦ subst (λ (y : Contents). In y (m.may n)) (sym (sector-apart s k z n e)) (elim (d.adds n (s n) l (at n l)) [ inl j ↦ j | inr q' ↦ absurd (e q'.0) ])
    ]

    same : s k ≡ b → (n : ℕ) → s n ≡ with_sector (with_sector s k z) k b n
    same q n = elim (one-or n k) [
      | inl e ↦ ap s e ∙ (q ∙ sym (sector-here (with_sector s k z) k b n e))
      | inr e ↦ sym (sector-apart (with_sector s k z) k b n e ∙ sector-apart s k z n e)
    ]

    by : In (s k) (m.may k) ⊎ ((k ≡ k) × (s k ≡ b)) → Picks m s ⊎ Over m k b s
    by (inl i) = inl (λ n l. elim (d.adds n (s n) l (at n l)) [ inl j ↦ j | inr q ↦ subst (λ (y : ℕ). In (s y) (m.may y)) (sym q.0) i ])
    by (inr q) = inr (record { old = with_sector s k z; picks = picks; is = fun_ext (same q.1) })
