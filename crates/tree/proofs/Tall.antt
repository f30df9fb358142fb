-- Tall trees: they are good, and reach the most changed pages.
use Rattle.std.proofs.Common.{◌≡◌, ℕ, zero, suc, ◌+◌, ◌<◌, ◌≤◌, eqb, List, [], ◌∷◌, ◌++◌, length, sym, refl, ap, ◌∙◌, subst, arith}
use Rattle.std.proofs.lemmas.Bool.{eqb-true, eq-eqb}
use Rattle.numbers.specs.Order.{below, cmpℕ, IsOrder}
use Rattle.numbers.proofs.Ordered.{turnℕ, sameℕ, transℕ, lessℕ}
use Rattle.tree.specs.Tree.{Entry, item, page, at, All, Child, flat_rest, flat, Under, Rises, FullPage, Full, Good, lookup}
use Rattle.tree.specs.Fresh.{IsSame}
use Rattle.tree.specs.Examples.{entry, span, spread, least, wide, brimming, sparse, Reached}
use Rattle.tree.proofs.Lists.{not-found}
use Rattle.tree.proofs.Changes.{insert-changes, delete-changes}

-- NUMBERS AS NAMES
number-order : IsOrder ℕ cmpℕ
number-order = record { turned = turnℕ; carried = transℕ; alike = λ a b c e. ap (λ (k : ℕ). cmpℕ k c) (sameℕ a b e) }

number_same : IsSame ℕ eqb
number_same = record { itself = λ a. eq-eqb a a refl; exact = λ a b h. eqb-true a b h }

-- the entries of a, a + 1 and so on up to b
abbrev Runs : List (Entry ℕ) → ℕ → ℕ → Type 0
Runs [] a b = a ≡ b
Runs (e ∷ l) a b = (e ≡ entry a) × Runs l (suc a) b

runs_append : (l r : List (Entry ℕ)) (a b c : ℕ) → Runs l a b → Runs r b c → Runs (l ++ r) a c
runs_append [] r a b c h k = subst (λ (z : ℕ). Runs r z c) (sym h) k
runs_append (e ∷ l) r a b c h k = (h.0, runs_append l r (suc a) b c h.1 k)

runs-under : (k : ℕ) (l : List (Entry ℕ)) (a b : ℕ) → k < a → Runs l a b → Under cmpℕ k l
runs-under k [] a b h r = tt
runs-under k (e ∷ l) a b h r = (subst (λ (z : Entry ℕ). cmpℕ k z.0 ≡ below) (sym r.0) (lessℕ k a h), runs-under k l (suc a) b (omega arith) r.1)

runs-rises : (l : List (Entry ℕ)) (a b : ℕ) → Runs l a b → Rises cmpℕ l
runs-rises [] a b r = tt
runs-rises (e ∷ l) a b r = (subst (λ (z : Entry ℕ). Under cmpℕ z.0 l) (sym r.0) (runs-under a l (suc a) b (omega arith) r.1), runs-rises l (suc a) b r.1)

-- where j entries with children of s entries end
abbrev end : ℕ → ℕ → ℕ → ℕ
end s zero b = b
end s (suc j) b = end s j (suc b + s)

spread-runs : {S : Type 0} (φ : S → List (Entry ℕ)) (f : ℕ → S) (s : ℕ) → ((a : ℕ) → Runs (φ (f a)) a (a + s)) → (j b : ℕ) → Runs (flat_rest φ (spread f s j b)) b (end s j b)
spread-runs φ f s runs zero b = refl
spread-runs φ f s runs (suc j) b =
    (refl, runs_append (φ (f (suc b))) (flat_rest φ (spread f s j (suc b + s))) (suc b) (suc b + s) (end s j (suc b + s)) (runs (suc b)) (spread-runs φ f s runs j (suc b + s)))

module _ {S : Type 0} (P : S → Type 0) (f : ℕ → S) (s : ℕ) (good : (a : ℕ) → P (f a)) where
  spread-good : (j b : ℕ) → All (Child P) (spread f s j b)
  spread-good zero b = tt
  spread-good (suc j) b = (good (suc b), spread-good j (suc b + s))

  spread-length : (j b : ℕ) → length (spread f s j b) ≡ j
  spread-length zero b = refl
  spread-length (suc j) b = ap suc (spread-length j (suc b + s))

  spread-page : (low j b : ℕ) (c : S) → low ≤ j → j ≤ 24 → P c → FullPage P low (page c (spread f s j b))
  spread-page low j b c h k p = let l = spread-length j b in (omega arith, omega arith, p, spread-good j b)

least-runs : (n a : ℕ) → Runs (flat ℕ n (least n a)) a (a + span n)
least-runs zero a = omega arith
least-runs (suc n) a =
    let e : end (span n) 12 (a + span n) ≡ a + span (suc n) = omega arith in
    runs_append (flat ℕ n (least n a)) (flat_rest (flat ℕ n) (spread (least n) (span n) 12 (a + span n))) a (a + span n) (a + span (suc n)) (least-runs n a)
    (subst (λ (z : ℕ). Runs (flat_rest (flat ℕ n) (spread (least n) (span n) 12 (a + span n))) (a + span n) z) e (spread-runs (flat ℕ n) (least n) (span n) (λ b. least-runs n b) 12 (a + span n)))

least-full : (n a : ℕ) → Full ℕ n (least n a)
least-full zero a = tt
least-full (suc n) a = spread-page (Full ℕ n) (least n) (span n) (λ b. least-full n b) 12 12 (a + span n) (least n a) (omega arith) (omega arith) (least-full n a)

wide_runs : (n j a : ℕ) → Runs (flat ℕ (suc n) (wide n j a)) a (end (span n) j (a + span n))
wide_runs n j a =
    runs_append (flat ℕ n (least n a)) (flat_rest (flat ℕ n) (spread (least n) (span n) j (a + span n))) a (a + span n) (end (span n) j (a + span n)) (least-runs n a) (spread-runs (flat ℕ n) (least n) (span n) (least-runs n) j (a + span n))

wide-full : (n j a : ℕ) → 12 ≤ j → j ≤ 24 → Full ℕ (suc n) (wide n j a)
wide-full n j a h k = spread-page (Full ℕ n) (least n) (span n) (least-full n) 12 j (a + span n) (least n a) h k (least-full n a)

-- THE TREES
brimming-runs : Runs (flat ℕ 3 brimming.root) 1 (end (span 2) 24 337)
brimming-runs =
    runs_append (flat ℕ 2 (page (wide 0 24 1) (spread (least 1) (span 1) 24 25))) (flat_rest (flat ℕ 2) (spread (least 2) (span 2) 24 337)) 1 337 (end (span 2) 24 337)
    (runs_append (flat ℕ 1 (wide 0 24 1)) (flat_rest (flat ℕ 1) (spread (least 1) (span 1) 24 25)) 1 25 337 (wide_runs 0 24 1) (spread-runs (flat ℕ 1) (least 1) (span 1) (least-runs 1) 24 25))
    (spread-runs (flat ℕ 2) (least 2) (span 2) (least-runs 2) 24 337)

brimming-good : Good cmpℕ brimming
brimming-good = record {
  rises = runs-rises (flat ℕ 3 brimming.root) 1 (end (span 2) 24 337) brimming-runs;
  few = omega arith;
  filled = spread-page (Full ℕ 2) (least 2) (span 2) (least-full 2) 1 24 337 (page (wide 0 24 1) (spread (least 1) (span 1) 24 25)) (omega arith) (omega arith)
      (spread-page (Full ℕ 1) (least 1) (span 1) (least-full 1) 12 24 25 (wide 0 24 1) (omega arith) (omega arith) (wide-full 0 24 1 (omega arith) (omega arith)));
}

sparse-good : Good cmpℕ sparse
sparse-good = record {
  rises = runs-rises (flat ℕ 4 sparse.root) 0 (end (span 2) 13 (2197 + span 2))
      (runs_append (flat ℕ 3 (wide 2 12 0)) (flat_rest (flat ℕ 3) (item (entry 2196) (wide 2 13 2197) ∷ [])) 0 2196 (end (span 2) 13 (2197 + span 2)) (wide_runs 2 12 0)
      (refl, runs_append (flat ℕ 3 (wide 2 13 2197)) [] 2197 (end (span 2) 13 (2197 + span 2)) (end (span 2) 13 (2197 + span 2)) (wide_runs 2 13 2197) refl));
  few = omega arith;
  filled = (omega arith, omega arith, wide-full 2 12 0 (omega arith) (omega arith), (wide-full 2 13 2197 (omega arith) (omega arith), tt));
}

not_there : lookup cmpℕ brimming 0 ≡ at 0 → ⊥
not_there h = not-found 0 h

pub reached : Reached
reached = record {
  brimming_good = brimming-good;
  six = insert-changes cmpℕ number-order eqb number_same brimming 0 0 brimming-good not_there ∙ refl;
  sparse_good = sparse-good;
  four = delete-changes cmpℕ number-order eqb number_same sparse 0 sparse-good ∙ refl;
}
