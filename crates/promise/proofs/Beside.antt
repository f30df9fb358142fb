-- A table and the ledger beside it: what one knows of the other's slots and names.
use Rattle.std.proofs.Common.{◌≡◌, ℕ, zero, suc, Bool, true, false, cond, not, ◌&&◌, ◌++◌, List, [], ◌∷◌, map, get_or, Some, None, Option, sym, refl, ap, ◌∙◌, arith}
use Rattle.std.specs.Prelude.{◌≢◌}
use Rattle.std.proofs.lemmas.Option.{none-some, same_Some}
use Rattle.std.proofs.lemmas.Bool.{and_parts, ltb-true, ltb-false}
use Rattle.numbers.specs.Names.{Key}
use Rattle.numbers.specs.Order.{Cmp, below, same, above, cmp}
use Rattle.tree.specs.Tree.{Entry, Found, absent, at, pick, lookup}
use Rattle.tree.specs.Laws.{find}
use Rattle.tree.proofs.Look.{lookup-finds}
use Rattle.promise.specs.Table.{Anonymous, Slot, the_slot, Table, Call, New, Old, Delete, Set, Read, Write, Register, Close, Names, slot_count, slot_at, slot, used, is_anonymous, is_there, target, unused, holder, old_file, is_open, old_slot, before, behind, accepted, Proper}
use Rattle.promise.specs.Ledger.{Ledger, counted, fate, slot_of, Legal}
use Rattle.promise.specs.Together.{Together, entry_to, slot_to}
use Rattle.promise.proofs.Granted.{Granted, used-is}
use Rattle.promise.proofs.Directory.{order, found-in}
use Rattle.promise.proofs.Accounts.{register-slot}
use Rattle.promise.proofs.Slots.{unused-none, holder-holds, holder-none}

-- the slot that an accepted call tells
abbrev pub told : Table → Call → ℕ
told t (New n) = unused t.slots
told t (Old n) = old_slot t n
told t (Delete n) = 0
told t (Set s p) = 0
told t (Read r b) = 0
told t (Write r b) = 0
told t (Register s) = 0
told t (Close s) = 0
told t (Names rs) = 0

pub fate-told : (t : Table) (s : ℕ) (c : Call) → fate (accepted t s c).0 ≡ counted (told t c)
fate-told t s (New n) = refl
fate-told t s (Old n) = refl
fate-told t s (Delete n) = refl
fate-told t s (Set h p) = refl
fate-told t s (Read r b) = refl
fate-told t s (Write r b) = refl
fate-told t s (Register h) = refl
fate-told t s (Close h) = refl
fate-told t s (Names rs) = refl

-- a slot with a first sector in the place of a number
abbrev pub to : (ℕ → ℕ) → Slot → Slot
to g x = record { file = g x.file; sort = x.sort; name = x.name; handles = x.handles }

slot_to-at : (g : ℕ → ℕ) (os : List (Option Slot)) (s : ℕ) → get_or (map (slot_to g) os) s None ≡ slot_to g (get_or os s None)
slot_to-at g [] s = refl
slot_to-at g (o ∷ os) zero = refl
slot_to-at g (o ∷ os) (suc s) = slot_to-at g os s

to-none : (g : ℕ → ℕ) (o : Option Slot) → slot_to g o ≡ None → o ≡ None
to-none g None e = refl
to-none g (Some x) e = cc

to-some : (g : ℕ → ℕ) (o : Option Slot) (x : Slot) → slot_to g o ≡ Some x → (o ≡ Some (the_slot o)) × (x ≡ to g (the_slot o))
to-some g None x e = absurd (none-some x e)
to-some g (Some y) x e = (refl, sym (same_Some (to g y) x e))

-- what a search of moved entries finds
abbrev pub found_to : (ℕ → ℕ) → Found → Found
found_to g absent = absent
found_to g (at f) = at (g f)

pub find-to : (g : ℕ → ℕ) (n : Key) (es : List (Entry Key)) → find cmp n (map (entry_to g) es) ≡ found_to g (find cmp n es)
find-to g n [] = refl
find-to g n (e ∷ es) = go (cmp n e.0) (find-to g n es)
  where
    go : (o : Cmp) → find cmp n (map (entry_to g) es) ≡ found_to g (find cmp n es) → pick o absent (at (g e.1)) (find cmp n (map (entry_to g) es)) ≡ found_to g (pick o absent (at e.1) (find cmp n es))
    go below k = refl
    go same k = refl
    go above k = k

there-target : (g : ℕ → ℕ) (o : Found) → is_there (found_to g o) ≡ true → (target (found_to g o) ≡ g (target o)) × (o ≡ at (target o))
there-target g absent h = cc
there-target g (at f) h = (refl, refl)

module _ (t : Table) (l : Ledger) (g : Together t l) where
  pub slot-at : (s : ℕ) → slot_at t s ≡ slot_to g.sector (get_or l.slots s None)
  slot-at s = ap (λ (os : List (Option Slot)). get_or os s None) g.slots ∙ slot_to-at g.sector l.slots s

  pub slot-none : (s : ℕ) → slot_at t s ≡ None → get_or l.slots s None ≡ None
  slot-none s e = to-none g.sector (get_or l.slots s None) (sym (slot-at s) ∙ e)

  pub slot-is : (s : ℕ) → slot_at t s ≡ Some (slot t s) → (get_or l.slots s None ≡ Some (slot_of l s)) × (slot t s ≡ to g.sector (slot_of l s))
  slot-is s e = to-some g.sector (get_or l.slots s None) (slot t s) (sym (slot-at s) ∙ e)

  -- a slot of the ledger, and that of the table
  pub slot-of : (s : ℕ) (x : Slot) → get_or l.slots s None ≡ Some x → slot_at t s ≡ Some (to g.sector x)
  slot-of s x e = slot-at s ∙ ap (slot_to g.sector) e

  pub lookup-to : (n : Key) → Proper t → lookup cmp t.tree n ≡ found_to g.sector (find cmp n l.names)
  lookup-to n p = lookup-finds cmp order t.tree n p.good ∙ (ap (find cmp n) g.names ∙ find-to g.sector n l.names)

  -- the file of a name that is there
  pub old-to : (n : Key) → Proper t → is_there (lookup cmp t.tree n) ≡ true → (old_file t n ≡ g.sector (target (find cmp n l.names))) × (find cmp n l.names ≡ at (target (find cmp n l.names)))
  old-to n p h =
      let e = lookup-to n p in
      let r = there-target g.sector (find cmp n l.names) (ap is_there (sym e) ∙ h) in
      (ap target e ∙ r.0, r.1)

  -- what the questions grant
  old-legal : (n : Key) → Proper t → is_there (lookup cmp t.tree n) ≡ true → Legal l (old_slot t n) (Old n)
  old-legal n p h u =
      let r = old-to n p h in
      (found-in n l.names (target (find cmp n l.names)) r.1, λ s y e q. other (is_open t n) refl u s y e q)
    where
      other : (b : Bool) → is_open t n ≡ b → get_or l.slots (cond b (holder (old_file t n) t.slots) (unused t.slots)) None ≡ None → (s : ℕ) (y : Slot) → get_or l.slots s None ≡ Some y → y.file ≢ target (find cmp n l.names)
      other true b u s y e q =
          let i = p.eight in
          let k = ltb-true (holder (old_file t n) t.slots) slot_count b in
          let r = holder-holds (old_file t n) t.slots (omega (arith, k, i)) in
          none-some r.0 (ap (slot_to g.sector) (sym u) ∙ (sym (slot-at (holder (old_file t n) t.slots)) ∙ r.1))
      other false b u s y e q =
          let i = p.eight in
          let k = ltb-false (holder (old_file t n) t.slots) slot_count b in
          holder-none (old_file t n) t.slots (omega (arith, k, i)) s (to g.sector y) (slot-of s y e) (ap g.sector q ∙ sym (old-to n p h).0)

  pub register-legal : (s : ℕ) → (used t s && is_anonymous (slot t s).sort) ≡ true → (x : Slot) × (get_or l.slots s None ≡ Some x) × (x.sort ≡ Anonymous)
  register-legal s h = let u = register-slot t s h in let r = slot-is s u.0 in (slot_of l s, r.0, ap (λ (x : Slot). x.sort) (sym r.1) ∙ u.1)

  pub close-legal : (s : ℕ) → (used t s && not (is_anonymous (slot t s).sort)) ≡ true → (x : Slot) × (get_or l.slots s None ≡ Some x)
  close-legal s h = let u = used-is (slot_at t s) (and_parts (used t s) (not (is_anonymous (slot t s).sort)) h).0 in (slot_of l s, (slot-is s u).0)

  pub legal : (c : Call) → Proper t → Granted (before t c ++ behind t c) → Legal l (told t c) c
  legal (New n) p h = slot-none (unused t.slots) (unused-none t.slots)
  legal (Old n) p h = old-legal n p h.1.1.0
  legal (Delete n) p h = tt
  legal (Set s q) p h = tt
  legal (Read r b) p h = tt
  legal (Write r b) p h = tt
  legal (Register s) p h = register-legal s h.1.0
  legal (Close s) p h = close-legal s h.1.0
  legal (Names rs) p h = tt

-- the store is ready when a call's first question gets a yes
pub was-ready : (t : Table) (c : Call) → Granted (before t c) → t.ready ≡ true
was-ready t (New n) h = h.0
was-ready t (Old n) h = h.0
was-ready t (Delete n) h = h.0
was-ready t (Set s p) h = h.0
was-ready t (Read r b) h = h.0
was-ready t (Write r b) h = h.0
was-ready t (Register s) h = h.0
was-ready t (Close s) h = h.0
was-ready t (Names rs) h = h.0
