-- The plain table and the ledger beside it: the same names, slots and files, but that one knows files by their first sectors and the
-- other by numbers of its own.
use Rattle.std.specs.Prelude.{◌≡◌, ℕ, ◌-◌, true, false, ◌⊎◌, map, Some, None, Option, slice_index_or}
use Rattle.numbers.specs.Names.{Key}
use Rattle.tree.specs.Tree.{Entry, to_list, pages}
use Rattle.disk.specs.Meaning.{In}
use Rattle.promise.specs.Table.{Slot, Table, Call, New, Old, Delete, Set, Read, Write, Register, Close, Names, takes, with_name, without_name}
use Rattle.promise.specs.Ledger.{Ledger, numbered}

-- a file that a name leads to or a slot holds
abbrev pub Live : Ledger → ℕ → Type 0
Live l n = ((e : Entry Key) × In e l.names × (e.1 ≡ n)) ⊎ ((s : ℕ) × (x : Slot) × (slice_index_or l.slots s None ≡ Some x) × (x.file ≡ n))

-- an entry and a slot of the ledger, with first sectors in the place of numbers
abbrev pub entry_to : (ℕ → ℕ) → Entry Key → Entry Key
entry_to sector e = (e.0, sector e.1)

abbrev pub slot_to : (ℕ → ℕ) → Option Slot → Option Slot
slot_to sector None = None
slot_to sector (Some x) = Some (record { file = sector x.file; sort = x.sort; name = x.name; handles = x.handles })

pub record Together (t : Table) (l : Ledger) : Type 0 where
  -- the first sector of each of the ledger's files; different files have different ones
  pub sector : ℕ → ℕ
  pub apart : (n m : ℕ) → Live l n → Live l m → sector n ≡ sector m → n ≡ m
  pub names : to_list t.tree ≡ map (entry_to sector) l.names
  pub slots : t.slots ≡ map (slot_to sector) l.slots
  pub bytes : (n : ℕ) → Live l n → (t.files (sector n)).bytes ≡ (numbered l n).bytes
  pub closed : (n : ℕ) → Live l n → (t.files (sector n)).closed ≡ (numbered l n).closed
  -- nothing is broken off while the store is ready
  pub unbroken : t.ready ≡ true → (l.broken ≡ None) × (l.wiped ≡ false)

-- the sectors that an accepted call takes from the free ones, and those that it sets free
abbrev pub taken : Table → Call → ℕ
taken t (New n) = 1
taken t (Old n) = 0
taken t (Delete n) = 0
taken t (Set s p) = 0
taken t (Read r b) = 0
taken t (Write r b) = takes t r b
taken t (Register s) = pages (with_name t s) - pages t.tree
taken t (Close s) = 0
taken t (Names rs) = 0

abbrev pub freed : Table → Call → ℕ
freed t (New n) = 0
freed t (Old n) = 0
freed t (Delete n) = pages t.tree - pages (without_name t n)
freed t (Set s p) = 0
freed t (Read r b) = 0
freed t (Write r b) = 0
freed t (Register s) = 0
freed t (Close s) = 0
freed t (Names rs) = 0
