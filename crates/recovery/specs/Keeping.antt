-- What is left for each call, so that it keeps what a store keeps: table and ledger go together by the laws of the promise, and only the
-- disk is asked.
use Rattle.std.specs.Prelude.{◌≡◌, true, false, map, Ok}
use Rattle.disk.specs.Meaning.{Sound}
use Rattle.disk.specs.Rules.{Settled}
use Rattle.catalog.specs.Catalogs.{Catalog, bytes_of}
use Rattle.catalog.specs.Questions.{found}
use Rattle.promise.specs.Table.{Table, Call, Answer, Turn, formatted, started}
use Rattle.promise.specs.Ledger.{Ledger, blank, follow, wiping, Resolves, restarted}
use Rattle.promise.specs.Promise.{View, Agrees}
use Rattle.promise.specs.Calls.{Holds}
use Rattle.recovery.specs.Picks.{Steady, Recoverable}
use Rattle.recovery.specs.Steps.{Less}
use Rattle.recovery.specs.Wider.{Wider}
use Rattle.recovery.specs.Kept.{Kept}

pub record Keeps : Type 0 where
  -- a call on a ready store: if it is ready after it, the disk is steady for the catalog that it holds, and else recoverable
  pub call : (l : Ledger) (v v' : View) (c : Call) (a : Answer) (k : Kept l v) (r : v.ready ≡ true) (t' : Table) → Turn (k.ready r).table c a t' → v'.ready ≡ t'.ready →
      (t'.ready ≡ true → (h : Holds v' t') × Steady (follow l c a) h.catalog v'.disk) → (t'.ready ≡ false → Recoverable (follow l c a) v'.disk) → Kept (follow l c a) v'
  -- a call that puts nothing and takes nothing from the ledger: it holds the catalog that it held
  pub quiet : (l : Ledger) (v v' : View) (c : Call) (a : Answer) (k : Kept l v) (r : v.ready ≡ true) (t' : Table) → Turn (k.ready r).table c a t' → v'.ready ≡ t'.ready →
      Less v.disk v'.disk → Wider l (follow l c a) → (t'.ready ≡ true → (h : Holds v' t') × (h.catalog ≡ (k.ready r).holds.catalog)) → Kept (follow l c a) v'
  -- a Format that is accepted, whatever came before; and one that is refused
  pub format : (v' : View) (h : Holds v' (formatted v'.disk.size)) → Steady blank h.catalog v'.disk → Kept blank v'
  pub no_format : (l : Ledger) (v v' : View) → Kept l v → v'.ready ≡ false → Recoverable (wiping l) v'.disk → Kept (wiping l) v'
  -- a Start that is accepted, and holds what it found; and one that is refused
  pub start : (l l' : Ledger) (v v' : View) (c d : Catalog) → Kept l v → Sound v'.disk → Settled v'.disk → found v'.disk.size v'.disk.shown ≡ Ok d →
      Holds v' (started v'.disk.size v'.disk.shown d) → Resolves l l' → Agrees l' v'.disk.size v'.disk.shown c → Kept (restarted l' (map (bytes_of v'.disk.shown) c.files)) v'
  pub no_start : (l : Ledger) (v v' : View) → Kept l v → v'.ready ≡ false → Less v.disk v'.disk → Kept l v'
