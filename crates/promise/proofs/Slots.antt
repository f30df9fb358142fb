-- Slots: one set, the lowest unused one, the one that holds a file, and those that hold anonymous files.
use Rattle.std.proofs.Common.{◌≡◌, ℕ, zero, suc, ◌+◌, ◌<◌, ◌≤◌, Bool, true, false, cond, ◌⊎◌, List, [], ◌∷◌, length, get_or, set, replicate, Some, None, Option, refl, ap, ◌∙◌, inl, inr, arith}
use Rattle.std.specs.Prelude.{◌==◌}
use Rattle.std.proofs.lemmas.Option.{none-some}
use Rattle.std.proofs.lemmas.Bool.{eqb-true, eqb-false}
use Rattle.promise.specs.Table.{Slot, unused, holder, anonymous, no_slots}

-- what a slot is after one was set
pub slot-set : (os : List (Option Slot)) (h s : ℕ) (o : Option Slot) (x : Slot) → get_or (set os h o) s None ≡ Some x → ((s ≡ h) × (o ≡ Some x)) ⊎ ((s ≡ h → ⊥) × (get_or os s None ≡ Some x))
slot-set [] h s o x e = absurd (none-some x e)
slot-set (y ∷ os) zero zero o x e = inl (refl, e)
slot-set (y ∷ os) zero (suc s) o x e = inr (λ z. omega arith, e)
slot-set (y ∷ os) (suc h) zero o x e = inr (λ z. omega arith, e)
slot-set (y ∷ os) (suc h) (suc s) o x e = elim (slot-set os h s o x e) [ inl p ↦ inl (ap suc p.0, p.1) | inr p ↦ inr (λ z. p.0 (omega arith), p.1) ]

pub unused-none : (os : List (Option Slot)) → get_or os (unused os) None ≡ None
unused-none [] = refl
unused-none (None ∷ os) = refl
unused-none (Some x ∷ os) = unused-none os

pub holder-holds : (f : ℕ) (os : List (Option Slot)) → holder f os < length os → (x : Slot) × (get_or os (holder f os) None ≡ Some x) × (x.file ≡ f)
holder-holds f [] h = absurd (omega arith)
holder-holds f (None ∷ os) h = holder-holds f os (omega arith)
holder-holds f (Some y ∷ os) h = go (y.file == f) refl (holder-holds f os) h
  where
    go : (b : Bool) → (y.file == f) ≡ b → (holder f os < length os → (x : Slot) × (get_or os (holder f os) None ≡ Some x) × (x.file ≡ f)) → cond b 0 (suc (holder f os)) < suc (length os) →
        (x : Slot) × (get_or (Some y ∷ os) (cond b 0 (suc (holder f os))) None ≡ Some x) × (x.file ≡ f)
    go true e k h = (y, refl, eqb-true y.file f e)
    go false e k h = k (omega arith)

pub holder-none : (f : ℕ) (os : List (Option Slot)) → length os ≤ holder f os → (h : ℕ) (x : Slot) → get_or os h None ≡ Some x → x.file ≡ f → ⊥
holder-none f [] l h x e q = none-some x e
holder-none f (None ∷ os) l zero x e q = none-some x e
holder-none f (None ∷ os) l (suc h) x e q = holder-none f os (omega arith) h x e q
holder-none f (Some y ∷ os) l h x e q = go (y.file == f) refl l (λ k i. holder-none f os k i) h e
  where
    go : (b : Bool) → (y.file == f) ≡ b → suc (length os) ≤ cond b 0 (suc (holder f os)) → (length os ≤ holder f os → (i : ℕ) (z : Slot) → get_or os i None ≡ Some z → z.file ≡ f → ⊥) → (h : ℕ) → get_or (Some y ∷ os) h None ≡ Some x → ⊥
    go true e l k h r = omega arith
    go false e l k zero r = let s : y ≡ x = cc in eqb-false y.file f e (ap (λ (z : Slot). z.file) s ∙ q)
    go false e l k (suc h) r = k (omega arith) h x r q

-- one slot set: as many anonymous files as before, less what it held, and what it holds
pub anonymous-set : (os : List (Option Slot)) (h : ℕ) (o : Option Slot) → anonymous (set os h o) + anonymous (get_or os h None ∷ []) ≤ anonymous os + anonymous (o ∷ [])
anonymous-set [] h o = omega arith
anonymous-set (None ∷ os) zero None = omega arith
anonymous-set (None ∷ os) zero (Some y) = omega arith
anonymous-set (Some x ∷ os) zero None = omega arith
anonymous-set (Some x ∷ os) zero (Some y) = omega arith
anonymous-set (None ∷ os) (suc h) o = anonymous-set os h o
anonymous-set (Some x ∷ os) (suc h) o = let r = anonymous-set os h o in omega (arith, r)

pub no-slot : (s : ℕ) (x : Slot) → get_or no_slots s None ≡ Some x → ⊥
no-slot s x e = go 8 s e
  where
    go : (n s : ℕ) → get_or (replicate n None) s None ≡ Some x → ⊥
    go zero s e = none-some x e
    go (suc n) zero e = none-some x e
    go (suc n) (suc s) e = go n s e

pub slot-now : (os : List (Option Slot)) (s : ℕ) (x : Slot) (o : Option Slot) → get_or os s None ≡ Some x → get_or (set os s o) s None ≡ o
slot-now [] s x o e = absurd (none-some x e)
slot-now (y ∷ os) zero x o e = refl
slot-now (y ∷ os) (suc s) x o e = slot-now os s x o e
