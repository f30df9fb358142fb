-- What a store keeps, call by call.
use Rattle.std.proofs.Common.{◌≡◌, ℕ, Bool, true, false, map, Ok, sym, refl, ◌∙◌, subst}
use Rattle.disk.specs.Meaning.{Contents, Sound}
use Rattle.disk.specs.Rules.{Settled}
use Rattle.catalog.specs.Catalogs.{Catalog, bytes_of}
use Rattle.catalog.specs.Laws.{Sized}
use Rattle.catalog.specs.Questions.{good_size, found}
use Rattle.catalog.specs.Lays.{Lays}
use Rattle.catalog.proofs.Found.{found-laid-both, unique}
use Rattle.promise.specs.Table.{Table, Call, Answer, Turn, formatted, started, Proper}
use Rattle.promise.specs.Together.{Together}
use Rattle.promise.specs.Ledger.{Sane, Ledger, blank, follow, wiping, Resolves, restarted}
use Rattle.promise.specs.Promise.{View, Agrees}
use Rattle.promise.specs.Calls.{Holds}
use Rattle.promise.proofs.StaySane.{stays-sane}
use Rattle.promise.proofs.StayTogether.{turns, formats}
use Rattle.promise.proofs.StartTogether.{starts}
use Rattle.recovery.specs.Picks.{Steady, Recoverable}
use Rattle.recovery.specs.Steps.{Less}
use Rattle.recovery.specs.Wider.{Wider}
use Rattle.recovery.specs.Kept.{Ready, Kept}
use Rattle.recovery.specs.Keeping.{Keeps}
use Rattle.recovery.proofs.Steps.{less-steady, less-recoverable}
use Rattle.recovery.proofs.Agreement.{wider-steady, steady-recoverable}
use Rattle.recovery.proofs.Wider.{not-both}
use Rattle.recovery.proofs.Turning.{started-steady}

call : (l : Ledger) (v v' : View) (c : Call) (a : Answer) (k : Kept l v) (r : v.ready ≡ true) (t' : Table) → Turn (k.ready r).table c a t' → v'.ready ≡ t'.ready →
    (t'.ready ≡ true → (h : Holds v' t') × Steady (follow l c a) h.catalog v'.disk) → (t'.ready ≡ false → Recoverable (follow l c a) v'.disk) → Kept (follow l c a) v'
call l v v' c a k r t' turn e y n = record {
  sane = stays-sane.turns t t' l c a proper g k.sane turn;
  recovers = recovers t'.ready refl;
  ready = λ q. let h = y (sym e ∙ q) in record { table = t'; holds = h.0; together = turns t t' l c a proper k.sane g turn; steady = h.1 };
}
  where
    t : Table
    t = (k.ready r).table

    proper : Proper (k.ready r).table
    proper = (k.ready r).holds.proper

    g : Together (k.ready r).table l
    g = (k.ready r).together

    recovers : (b : Bool) → t'.ready ≡ b → Recoverable (follow l c a) v'.disk
    recovers true q = let h = y q in steady-recoverable (follow l c a) h.0.catalog v'.disk h.1
    recovers false q = n q

quiet : (l : Ledger) (v v' : View) (c : Call) (a : Answer) (k : Kept l v) (r : v.ready ≡ true) (t' : Table) → Turn (k.ready r).table c a t' → v'.ready ≡ t'.ready →
    Less v.disk v'.disk → Wider l (follow l c a) → (t'.ready ≡ true → (h : Holds v' t') × (h.catalog ≡ (k.ready r).holds.catalog)) → Kept (follow l c a) v'
quiet l v v' c a k r t' turn e d w y = call l v v' c a k r t' turn e
    (λ q. let h = y q in (h.0, subst (λ (z : Catalog). Steady (follow l c a) z v'.disk) (sym h.1) still))
    (λ q. steady-recoverable (follow l c a) (k.ready r).holds.catalog v'.disk still)
  where
    still : Steady (follow l c a) (k.ready r).holds.catalog v'.disk
    still = wider-steady l (follow l c a) (k.ready r).holds.catalog v'.disk w (less-steady l (k.ready r).holds.catalog v.disk v'.disk d (k.ready r).steady)

format : (v' : View) (h : Holds v' (formatted v'.disk.size)) → Steady blank h.catalog v'.disk → Kept blank v'
format v' h s = record {
  sane = stays-sane.begins;
  recovers = steady-recoverable blank h.catalog v'.disk s;
  ready = λ q. record { table = formatted v'.disk.size; holds = h; together = formats v'.disk.size; steady = s };
}

waiting : (l : Ledger) (v' : View) → v'.ready ≡ false → v'.ready ≡ true → Ready l v'
waiting l v' n y = not-both v'.ready n y

start : (l l' : Ledger) (v v' : View) (c d : Catalog) → Kept l v → Sound v'.disk → Settled v'.disk → found v'.disk.size v'.disk.shown ≡ Ok d →
    Holds v' (started v'.disk.size v'.disk.shown d) → Resolves l l' → Agrees l' v'.disk.size v'.disk.shown c → Kept (restarted l' (map (bytes_of v'.disk.shown) c.files)) v'
start l l' v v' c d k u w f h r a = record {
  sane = stays-sane.restarts l' size shown c sane a;
  recovers = steady-recoverable next c v'.disk steady;
  ready = λ q. record {
    table = started size shown c;
    holds = subst (λ (z : Catalog). Holds v' (started size shown z)) same h;
    together = starts l' size shown c sane a;
    steady = subst (λ (z : Catalog). Steady next z v'.disk) (sym (one (subst (λ (z : Catalog). Holds v' (started size shown z)) same h).catalog (subst (λ (z : Catalog). Holds v' (started size shown z)) same h).lays)) steady;
  };
}
  where
    size : ℕ
    size = v'.disk.size

    shown : ℕ → Contents
    shown = v'.disk.shown

    next : Ledger
    next = restarted l' (map (bytes_of v'.disk.shown) c.files)

    sized : Sized v'.disk.size v'.disk.shown
    sized n i = (u.whole n (v'.disk.shown n) i (u.shows h.live n i)).long

    laid : (good_size v'.disk.size ≡ true) × Lays v'.disk.size v'.disk.shown d
    laid = (found-laid-both v'.disk.size v'.disk.shown d sized).0 f

    one : (z : Catalog) → Lays v'.disk.size v'.disk.shown z → z ≡ c
    one z y = unique v'.disk.size v'.disk.shown z c sized laid.0 y a.lays

    same : d ≡ c
    same = one d laid.1

    sane : Sane l'
    sane = stays-sane.resolves l l' k.sane r

    steady : Steady (restarted l' (map (bytes_of v'.disk.shown) c.files)) c v'.disk
    steady = started-steady l' c v'.disk w a

pub keeps : Keeps
keeps = record {
  call = call;
  quiet = quiet;
  format = format;
  no_format = λ l v v' k n q. record { sane = stays-sane.wipes l k.sane; recovers = q; ready = waiting (wiping l) v' n };
  start = start;
  no_start = λ l v v' k n d. record { sane = k.sane; recovers = less-recoverable l v.disk v'.disk d k.recovers; ready = waiting l v' n };
}
