-- What a power stop may leave on a disk, and when the ledger can be made good from it.
use Rattle.std.specs.Prelude.{◌≡◌, ℕ, ◌<◌, cond, ◌++◌, ◌==◌}
use Rattle.disk.specs.Meaning.{Contents, Meaning, In}
use Rattle.disk.specs.Rules.{Settled}
use Rattle.catalog.specs.Catalogs.{Catalog, page_sectors, file_sectors}
use Rattle.promise.specs.Ledger.{Ledger, Resolves}
use Rattle.promise.specs.Promise.{Agrees}

-- s is a choice of one of the contents in each sector's set: a power stop may leave s
abbrev pub Picks : Meaning → (ℕ → Contents) → Type 0
Picks m s = (k : ℕ) → k < m.size → In (s k) (m.may k)

-- no set is empty: a power stop leaves something
abbrev pub NonEmpty : Meaning → Type 0
NonEmpty m = (k : ℕ) → k < m.size → (x : Contents) × In x (m.may k)

-- the contents s, with b in the sector k
abbrev pub with_sector : (ℕ → Contents) → ℕ → Contents → ℕ → Contents
with_sector s k b n = cond (n == k) b (s n)

-- STEADY: whatever a power stop leaves lays the catalog c, with the ledger's names, closed lengths and possible bytes
abbrev pub Steady : Ledger → Catalog → Meaning → Type 0
Steady l c m = (s : ℕ → Contents) → Picks m s → Agrees l m.size s c

-- the contents s lay a catalog that agrees with the ledger, where what was broken off counts whole or not at all
pub record Recovers (l : Ledger) (size : ℕ) (s : ℕ → Contents) : Type 0 where
  pub counted : Ledger
  pub resolves : Resolves l counted
  pub catalog : Catalog
  pub agrees : Agrees counted size s catalog

-- RECOVERABLE: so do any that a power stop leaves
abbrev pub Recoverable : Ledger → Meaning → Type 0
Recoverable l m = (s : ℕ → Contents) → Picks m s → Recovers l m.size s

-- a steady disk is recoverable
abbrev pub SteadyRecoverable : Type 0
SteadyRecoverable = (l : Ledger) (c : Catalog) (m : Meaning) → Steady l c m → Recoverable l m

-- what agrees looks at nothing but the catalog's sectors
abbrev pub AgreesFrame : Type 0
AgreesFrame = (l : Ledger) (size : ℕ) (s s' : ℕ → Contents) (c : Catalog) → ((n : ℕ) → In n (page_sectors c ++ file_sectors c) → s' n ≡ s n) → Agrees l size s c → Agrees l size s' c

-- a settled disk is steady where what is shown agrees
abbrev pub SettledSteady : Type 0
SettledSteady = (l : Ledger) (c : Catalog) (m : Meaning) → Settled m → Agrees l m.size m.shown c → Steady l c m
