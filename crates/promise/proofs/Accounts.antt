-- The account of free sectors.
use Rattle.std.proofs.Common.{◌≡◌, ℕ, ◌+◌, ◌≤◌, true, ◌&&◌, ◌++◌, Some, sym, subst, arith}
use Rattle.std.proofs.lemmas.Bool.{and_parts, leb-true}
use Rattle.std.proofs.lemmas.Bool.Decides.{nat_tests}
use Rattle.promise.specs.Table.{Anonymous, Table, Call, New, Old, Delete, Set, Read, Write, Register, Close, Names, Answer, used, is_anonymous, slot_at, slot, takes, with_name, changes, before, behind, accepted, Proper}
use Rattle.promise.specs.Together.{taken, freed}
use Rattle.promise.specs.Laws.{Accounts}
use Rattle.promise.proofs.Granted.{Granted, granted, plain-accepts, used-is, anonymous-is}
use Rattle.promise.proofs.Directory.{pages-after-register, pages-after-delete}

-- the slot that a Register was granted
pub register-slot : (t : Table) (s : ℕ) → (used t s && is_anonymous (slot t s).sort) ≡ true → (slot_at t s ≡ Some (slot t s)) × ((slot t s).sort ≡ Anonymous)
register-slot t s h = let p = and_parts (used t s) (is_anonymous (slot t s).sort) h in (used-is (slot_at t s) p.0, anonymous-is (slot t s).sort p.1)

abbrev Account : Table → Call → Answer × Table → Type 0
Account t c r = (taken t c ≤ t.free) × (r.1.free + taken t c ≡ t.free + freed t c)

account : (t : Table) (s : ℕ) (c : Call) → Proper t → Granted (before t c ++ behind t c) → Account t c (accepted t s c)
account t s (New n) p g = let k = leb-true _ _ g.1.1.1.0 in (omega arith, omega arith)
account t s (Old n) p g = (omega arith, omega arith)
account t s (Delete n) p g = let l = pages-after-delete t n p in (omega arith, omega arith)
account t s (Set h q) p g = (omega arith, omega arith)
account t s (Read r b) p g = (omega arith, omega arith)
account t s (Write r b) p g = let n = takes t r b in let f : takes t r b ≤ t.free = grind (arith, nat_tests, g.1.1.1.0) in (f, omega (arith, f))
account t s (Register h) p g =
    let u = register-slot t h g.1.0 in
    let l = pages-after-register t h p u.0 u.1 in
    let f = leb-true (changes t (with_name t h)) t.free g.1.1.1.0 in
    (omega (arith, l, f), omega (arith, l, f))
account t s (Close h) p g = (omega arith, omega arith)
account t s (Names rs) p g = (omega arith, omega arith)

pub accounts : Accounts
accounts t s c p h = subst (Account t c) (sym (plain-accepts t s c h)) (account t s c p (granted (before t c ++ behind t c) h))
