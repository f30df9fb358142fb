-- Ledgers that allow more than others: what agrees with one agrees with a wider one.
use Rattle.std.specs.Prelude.{◌≡◌, ℕ, Bool, true, false, length, ◌≢◌}
use Rattle.numbers.specs.Names.{Key}
use Rattle.tree.specs.Tree.{Entry}
use Rattle.disk.specs.Meaning.{Meaning, In}
use Rattle.catalog.specs.Catalogs.{Catalog}
use Rattle.promise.specs.declared.fault.FileFault.{FileFault}
use Rattle.promise.specs.Table.{Call, New, Old, Delete, Set, Read, Write, Register, Close, Names, Answer, No}
use Rattle.promise.specs.Ledger.{Written, Ledger, file_by, possible_at, slot_of, counts, breaks, follow}
use Rattle.recovery.specs.Picks.{Steady}

-- the closed length is the same, and no possible byte is lost
pub record Grows (w w' : Written) : Type 0 where
  pub closed : w'.closed ≡ w.closed
  pub long : length w'.possible ≡ length w.possible
  pub possible : (p b : ℕ) → In b (possible_at w p) → In b (possible_at w' p)

-- the same names, and their files have all possible bytes that they had
pub record Wider (l l' : Ledger) : Type 0 where
  pub names : l'.names ≡ l.names
  pub files : (e : Entry Key) → In e l.names → Grows (file_by l e) (file_by l' e)

-- a disk that is steady for a ledger is so for a wider one
abbrev pub WiderSteady : Type 0
WiderSteady = (l l' : Ledger) (c : Catalog) (m : Meaning) → Wider l l' → Steady l c m → Steady l' c m

-- the calls with a Put that turns one catalog into another
abbrev pub turns : Call → Bool
turns (New n) = false
turns (Old n) = false
turns (Delete n) = true
turns (Set h p) = false
turns (Read r b) = false
turns (Write r w) = false
turns (Register h) = true
turns (Close h) = true
turns (Names rs) = false

-- a call that is answered 3 takes nothing from the ledger
abbrev pub BreaksWider : Type 0
BreaksWider = (l : Ledger) (c : Call) → Wider l (breaks l c)

-- nor does an accepted one of the calls without such a Put
abbrev pub CountsWider : Type 0
CountsWider = (l : Ledger) (s : ℕ) (c : Call) → turns c ≡ false → Wider l (counts l s c)

-- nor an accepted Close of a file without a name
abbrev pub CloseWider : Type 0
CloseWider = (l : Ledger) (s h : ℕ) → ((e : Entry Key) → In e l.names → e.1 ≢ (slot_of l h).file) → Wider l (counts l s (Close h))

-- so a call without such a Put takes nothing, whatever it answers, and a refused call never does
abbrev pub FollowWider : Type 0
FollowWider = (l : Ledger) (c : Call) (a : Answer) → turns c ≡ false → Wider l (follow l c a)

abbrev pub RefusedWider : Type 0
RefusedWider = (l : Ledger) (c : Call) (r : FileFault) → Wider l (follow l c (No r))
