-- What a call's turn can be: refused, accepted, or broken off by a 3.
use Rattle.std.proofs.Common.{◌≡◌, ℕ, true, false, List, [], ◌∷◌, ◌++◌, Some, None, Option, refl, ap, subst}
use Rattle.promise.specs.declared.fault.FileFault.{FileFault}
use Rattle.promise.specs.Faults.{is_three}
use Rattle.promise.specs.Table.{Table, Call, New, Old, Delete, Set, Read, Write, Register, Close, Names, Answer, No, Question, ◌else◌, first, before, behind, accepted, unless, MayTake, Turn, said, gone, gone_read, gone_names, waits}
use Rattle.promise.specs.Ledger.{Ledger, broken_off, fate, follow}
use Rattle.promise.specs.Calls.{says_three}
use Rattle.promise.specs.Laws.{Refusals}

-- no question of a list is about the disk
Calls : List Question → Type 0
Calls [] = Unit {0}
Calls ((b else r) ∷ qs) = (is_three r ≡ false) × Calls qs

first-calls : (qs : List Question) (e : FileFault) → Calls qs → first qs ≡ Some e → is_three e ≡ false
unfolding Calls
first-calls [] e p h = cc
first-calls ((true else r) ∷ qs) e p h = first-calls qs e p.1 h
first-calls ((false else r) ∷ qs) e p h = let q : r ≡ e = cc in subst (λ (x : FileFault). is_three x ≡ false) q p.0

asked : (t : Table) (c : Call) → Calls (before t c ++ behind t c)
unfolding Calls
asked t (New n) = (refl, (refl, (refl, (refl, tt))))
asked t (Old n) = (refl, (refl, (refl, (refl, tt))))
asked t (Delete n) = (refl, (refl, (refl, (refl, tt))))
asked t (Set s p) = (refl, (refl, tt))
asked t (Read r b) = (refl, (refl, tt))
asked t (Write r b) = (refl, (refl, (refl, (refl, tt))))
asked t (Register s) = (refl, (refl, (refl, (refl, tt))))
asked t (Close s) = (refl, (refl, tt))
asked t (Names rs) = (refl, tt)

pub data Outcome (t : Table) (c : Call) (a : Answer) (t' : Table) : Type 0 where
  refused : (r : FileFault) → a ≡ No r → is_three r ≡ false → t' ≡ t → Outcome t c a t'
  done : (s : ℕ) → MayTake t c s → first (before t c ++ behind t c) ≡ None → a ≡ (accepted t s c).0 → t' ≡ (accepted t s c).1 → Outcome t c a t'
  broken : first (before t c) ≡ None → says_three a ≡ true → fate a ≡ broken_off → t' ≡ waits t → Outcome t c a t'

pub outcome : (t : Table) {c : Call} {a : Answer} {t' : Table} → Turn t c a t' → Outcome t c a t'
outcome t (said c s m) = go (first (before t c ++ behind t c)) refl
  where
    go : (o : Option FileFault) → first (before t c ++ behind t c) ≡ o → Outcome t c (unless o t (accepted t s c)).0 (unless o t (accepted t s c)).1
    go None e = done s m e refl refl
    go (Some r) e = refused r refl (first-calls (before t c ++ behind t c) r (asked t c) e) refl
outcome t (gone c f g b h) = broken b refl refl refl
outcome t (gone_read r b f k g h l) = broken h refl refl refl
outcome t (gone_names rs f k g h l) = broken h refl refl refl

-- an accepted call is counted
pub accepted-counts : (t : Table) (s : ℕ) (c : Call) → says_three (accepted t s c).0 ≡ false
accepted-counts t s (New n) = refl
accepted-counts t s (Old n) = refl
accepted-counts t s (Delete n) = refl
accepted-counts t s (Set h p) = refl
accepted-counts t s (Read r b) = refl
accepted-counts t s (Write r b) = refl
accepted-counts t s (Register h) = refl
accepted-counts t s (Close h) = refl
accepted-counts t s (Names rs) = refl

not_refused : (t : Table) (s : ℕ) (c : Call) (r : FileFault) → No r ≡ (accepted t s c).0 → is_three r ≡ false → ⊥
not_refused t s (New n) r e h = cc
not_refused t s (Old n) r e h = cc
not_refused t s (Delete n) r e h = cc
not_refused t s (Set h p) r e i = cc
not_refused t s (Read q b) r e h = cc
not_refused t s (Write q b) r e h = cc
not_refused t s (Register h) r e i = cc
not_refused t s (Close h) r e i = cc
not_refused t s (Names rs) r e h = cc

table : (t t' : Table) (c : Call) (r : FileFault) → Turn t c (No r) t' → is_three r ≡ false → t' ≡ t
table t t' c r u h = elim (outcome t u) [
  | refused q e i s ↦ s
  | done s m b e i ↦ absurd (not_refused t s c r e h)
  | broken b s f i ↦ cc
]

pub ledger : (l : Ledger) (c : Call) (r : FileFault) → is_three r ≡ false → follow l c (No r) ≡ l
ledger l c r h = rw h

three : (t t' : Table) (c : Call) (a : Answer) → Turn t c a t' → says_three a ≡ true → t' ≡ waits t
three t t' c a u h = elim (outcome t u) [
  | refused r e i s ↦ cc
  | done s m b e i ↦ cc (accepted-counts t s c, ap says_three e)
  | broken b s f i ↦ i
]

pub refusals : Refusals
refusals = record { table = table; ledger = ledger; three = three }
