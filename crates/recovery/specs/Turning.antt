-- The one Put of Register, Close, Delete and Format that turns one catalog into another, and Start.
use Rattle.std.specs.Prelude.{◌≡◌, ℕ, true, [], map, Ok}
use Rattle.disk.specs.Meaning.{Contents, Meaning}
use Rattle.disk.specs.Rules.{Settled, Puts, Settles, Restarts}
use Rattle.layout.specs.Pages.{page_bytes}
use Rattle.tree.specs.Tree.{page}
use Rattle.catalog.specs.Catalogs.{Catalog, bytes_of}
use Rattle.catalog.specs.Lays.{root_sector}
use Rattle.catalog.specs.Written.{page_data}
use Rattle.promise.specs.Table.{Call}
use Rattle.promise.specs.Ledger.{Ledger, blank, counts, breaks, wiping, Resolves, restarted}
use Rattle.promise.specs.Promise.{Agrees}
use Rattle.recovery.specs.Picks.{Picks, NonEmpty, with_sector, Steady, Recovers, Recoverable}
use Rattle.recovery.specs.Steps.{Plus}
use Rattle.recovery.specs.Wider.{turns}

-- a put of b to the sector k turns c into d where every pick agrees with c before it, and with d once b is in it
abbrev pub PutTurns : Type 0
PutTurns = (l l₁ l₂ : Ledger) (c d : Catalog) (m m' : Meaning) (k : ℕ) (b : Contents) → NonEmpty m → Plus k b m m' →
    Resolves l l₁ → Resolves l l₂ → Steady l₁ c m → ((s : ℕ → Contents) → Picks m s → Agrees l₂ m.size (with_sector s k b) d) → Recoverable l m'

-- REGISTER, CLOSE AND DELETE. A 3 before the Put that turns, while the disk is steady
abbrev pub StoppedRecoverable : Type 0
StoppedRecoverable = (l : Ledger) (c : Catalog) (m : Meaning) (call : Call) → Steady l c m → Recoverable (breaks l call) m

-- what such a call has done before it: the disk is settled and steady, and b in the sector k makes of what is shown a catalog d that
-- agrees with the ledger that has followed the call
pub record Turning (l : Ledger) (call : Call) (c d : Catalog) (m : Meaning) (k : ℕ) (b : Contents) : Type 0 where
  pub kind : turns call ≡ true
  pub shows : Picks m m.shown
  pub settled : Settled m
  pub old : Steady l c m
  pub new : Agrees (counts l 0 call) m.size (with_sector m.shown k b) d

-- the Put, whatever it answers: the call counts whole or not at all
abbrev pub TurningRecoverable : Type 0
TurningRecoverable = (l : Ledger) (call : Call) (c d : Catalog) (m m' : Meaning) (k : ℕ) (b : Contents) → Turning l call c d m k b → Plus k b m m' → Recoverable (breaks l call) m'

-- the Put and the Settle behind it, both accepted: it counts
abbrev pub TurningSteady : Type 0
TurningSteady = (l : Ledger) (call : Call) (c d : Catalog) (m m' m'' : Meaning) (k : ℕ) (b : Contents) → Turning l call c d m k b →
    Puts m k b (Ok tt) m' → Settles m' (Ok tt) m'' → Steady (counts l 0 call) d m''

-- FORMAT. The empty root page, and the catalog of a volume without files
abbrev pub empty_root : Contents
empty_root = page_bytes (page_data 0 (page tt []))

abbrev pub empty_catalog : Catalog
empty_catalog = record { over = 0; root = (root_sector, page tt []); files = [] }

-- a Format that is refused before its Put
abbrev pub WipingRecoverable : Type 0
WipingRecoverable = (l : Ledger) (m : Meaning) → Recoverable l m → Recoverable (wiping l) m

-- before its Put, b to the root's sector: the disk need be neither settled nor steady
pub record FormatOwes (l : Ledger) (m : Meaning) (b : Contents) : Type 0 where
  pub some : NonEmpty m
  pub recovers : Recoverable l m
  pub root : b ≡ empty_root

-- the Put, whatever it answers: the Format counts whole or not at all
abbrev pub FormatRecoverable : Type 0
FormatRecoverable = (l : Ledger) (m m' : Meaning) (b : Contents) → FormatOwes l m b → Plus root_sector b m m' → Recoverable (wiping l) m'

-- the Put and the Settle behind it, both accepted: it counts, whatever the disk was before
abbrev pub FormatSteady : Type 0
FormatSteady = (m m' m'' : Meaning) → Puts m root_sector empty_root (Ok tt) m' → Settles m' (Ok tt) m'' → Steady blank empty_catalog m''

-- START. An accepted Restart shows what can be recovered
abbrev pub RestartRecovers : Type 0
RestartRecovers = (l : Ledger) (m m' : Meaning) → Recoverable l m → Restarts m (Ok tt) m' → Recovers l m'.size m'.shown

-- a settled disk on which what is shown agrees is steady for the ledger of the store that was started on it
abbrev pub StartedSteady : Type 0
StartedSteady = (l : Ledger) (c : Catalog) (m : Meaning) → Settled m → Agrees l m.size m.shown c → Steady (restarted l (map (bytes_of m.shown) c.files)) c m
