-- What a store keeps towards its ledger, and what a run gives by it.
use Rattle.std.specs.Prelude.{◌≡◌, true, false}
use Rattle.catalog.specs.Questions.{good_size}
use Rattle.promise.specs.Table.{Table, Call, Answer}
use Rattle.promise.specs.Ledger.{Ledger, Sane}
use Rattle.promise.specs.Promise.{View, Run, Whole}
use Rattle.promise.specs.Calls.{Holds, Formatted, Did, Starts}
use Rattle.promise.specs.Together.{Together}
use Rattle.recovery.specs.Picks.{Steady, Recoverable}

-- a ready store: it holds a table that goes with the ledger, and whatever a power stop leaves lays the catalog that it holds
pub record Ready (l : Ledger) (v : View) : Type 0 where
  pub table : Table
  pub holds : Holds v table
  pub together : Together table l
  pub steady : Steady l holds.catalog v.disk

-- any store of a run
pub record Kept (l : Ledger) (v : View) : Type 0 where
  pub sane : Sane l
  pub recovers : Recoverable l v.disk
  pub ready : v.ready ≡ true → Ready l v

-- a run of a store each of whose calls keeps this
abbrev pub Runs : Ledger → View → Type 0
Runs = Run (Formatted Kept) (Did Kept) (Starts Kept)

-- it is kept in every state of a run
abbrev pub RunKept : Type 0
RunKept = (l : Ledger) (v : View) → Runs l v → Kept l v

-- a run is on a disk of a good size
abbrev pub RunSize : Type 0
RunSize = (l : Ledger) (v : View) → Runs l v → good_size v.disk.size ≡ true

-- and it gives the whole promise to every Start
abbrev pub RunPromise : Type 0
RunPromise = (v : View) (a : Answer) (v' : View) → Starts Kept v a v' → Whole (Formatted Kept) (Did Kept) (Starts Kept) v a v'

-- A STORE OF ANY ORIGIN: made waiting, over whatever disk; then any calls
pub data Lives : View → Type 0 where
  made : {v : View} → v.ready ≡ false → Lives v
  formatted : {v v' : View} {a : Answer} → Lives v → Formatted Kept v a v' → Lives v'
  turned : {v v' : View} {c : Call} {a : Answer} → Lives v → Did Kept v c a v' → Lives v'
  started : {v v' : View} {a : Answer} → Lives v → Starts Kept v a v' → Lives v'

-- whenever it is ready it holds a table, so that what its calls promise is never empty
abbrev pub LivesHolds : Type 0
LivesHolds = (v : View) → Lives v → v.ready ≡ true → (t : Table) × Holds v t
