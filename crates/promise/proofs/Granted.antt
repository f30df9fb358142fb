-- What an accepted call was granted: each question got a yes.
use Rattle.std.proofs.Common.{◌≡◌, ℕ, true, false, List, [], ◌∷◌, ◌++◌, is_some, Some, None, Option, refl, ap}
use Rattle.promise.specs.declared.fault.FileFault.{FileFault}
use Rattle.promise.specs.Table.{Sort, Anonymous, Registered, Slot, the_slot, Table, Call, is_anonymous, Question, ◌else◌, first, before, behind, accepted, unless, plain}

abbrev pub Granted : List Question → Type 0
Granted [] = Unit {0}
Granted ((b else r) ∷ qs) = (b ≡ true) × Granted qs

pub granted : (qs : List Question) → first qs ≡ None → Granted qs
granted [] h = tt
granted ((true else r) ∷ qs) h = (refl, granted qs h)
granted ((false else r) ∷ qs) h = cc

pub granted-left : (qs rs : List Question) → Granted (qs ++ rs) → Granted qs
granted-left [] rs g = tt
granted-left ((b else r) ∷ qs) rs g = (g.0, granted-left qs rs g.1)

pub plain-accepts : (t : Table) (s : ℕ) (c : Call) → first (before t c ++ behind t c) ≡ None → plain t s c ≡ accepted t s c
plain-accepts t s c h = ap (λ (o : Option FileFault). unless o t (accepted t s c)) h

pub used-is : (o : Option Slot) → is_some o ≡ true → o ≡ Some (the_slot o)
used-is None h = cc
used-is (Some x) h = refl

pub anonymous-is : (s : Sort) → is_anonymous s ≡ true → s ≡ Anonymous
anonymous-is Anonymous h = refl
anonymous-is Registered h = cc

pub registered-is : (s : Sort) → is_anonymous s ≡ false → s ≡ Registered
registered-is Anonymous h = cc
registered-is Registered h = refl
