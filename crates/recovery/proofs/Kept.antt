-- A run keeps what its store keeps, and gives the whole promise by it.
use Rattle.std.proofs.Common.{◌≡◌, ℕ, Bool, true, false, Ok, sym, refl, ap, ◌∙◌, subst, arith}
use Rattle.disk.specs.Meaning.{Contents}
use Rattle.disk.specs.Rules.{Fewer}
use Rattle.catalog.specs.Catalogs.{Catalog}
use Rattle.catalog.specs.Laws.{Sized}
use Rattle.catalog.specs.Questions.{good_size, found}
use Rattle.catalog.proofs.Found.{found-laid-both}
use Rattle.promise.specs.Table.{Table, Answer, Done, Format, Start, gone, bad, done}
use Rattle.promise.specs.Table.{formatted as empty_table, started as started_table}
use Rattle.promise.specs.Ledger.{Ledger}
use Rattle.promise.specs.Promise.{View, Run, formatted, unformatted, turned, stopped, started, anew, Finds, Whole}
use Rattle.promise.specs.Calls.{says_three, Holds, Formatted, Did, Starts}
use Rattle.recovery.specs.Picks.{Recovers, Recoverable}
use Rattle.recovery.specs.Kept.{Kept, RunKept, RunSize, RunPromise, Lives, LivesHolds}
use Rattle.recovery.proofs.Steps.{resized, less-recoverable}
use Rattle.recovery.proofs.Wider.{not-both}
use Rattle.recovery.proofs.Divided.{started-divided}

format-size : (n : ℕ) (t t' : Table) → Format n t Done t' → good_size n ≡ true
format-size n t t' (done g) = g

not_three : (a : Answer) → a ≡ Done → says_three a ≡ false
not_three a e = ap says_three e

-- an answer of a Start that is neither a 3 nor finds a no
start-done : (n : ℕ) (shown : ℕ → Contents) (t t' : Table) (a : Answer) (c : Catalog) → found n shown ≡ Ok c → (says_three a ≡ true → ⊥) → Start n shown t a t' → a ≡ Done
start-done n shown t t' a c f h (gone k q b) = absurd (h refl)
start-done n shown t t' a c f h (bad r b) = let z : ◌≡◌ {A = ℕ} 0 1 = cc in absurd (omega arith)
start-done n shown t t' a c f h (done k b) = refl

-- the table of an accepted Start
start-table : (n : ℕ) (shown : ℕ → Contents) (t t' : Table) (a : Answer) (c : Catalog) → found n shown ≡ Ok c → a ≡ Done → Start n shown t a t' → t' ≡ started_table n shown c
start-table n shown t t' a c f d (gone k q b) = let z : ◌≡◌ {A = ℕ} 0 1 = cc in absurd (omega arith)
start-table n shown t t' a c f d (bad r b) = let z : ◌≡◌ {A = ℕ} 0 1 = cc in absurd (omega arith)
start-table n shown t t' a c f d (done k b) = let e : k ≡ c = cc in ap (λ (z : Catalog). started_table n shown z) e

-- for any K that makes the disk recoverable, and that is kept where a store is made anew
module _ (K : Ledger → View → Type 0) (recovers : (l : Ledger) (v : View) → K l v → Recoverable l v.disk)
    (remade : (l : Ledger) (v v' : View) → K l v → v'.ready ≡ false → v'.disk.size ≡ v.disk.size → Fewer v.disk v'.disk → K l v') where
  pub run-keeps : {l : Ledger} {v : View} → Run (Formatted K) (Did K) (Starts K) l v → K l v
  run-keeps (formatted f) = f.begins refl
  run-keeps (unformatted r f) = f.keeps _ _ (run-keeps r) refl
  run-keeps (turned r d) = d.keeps _ (run-keeps r)
  run-keeps (stopped r s) = s.keeps _ _ (run-keeps r) refl
  run-keeps (started r s e a) = s.goes_on _ _ _ (run-keeps r) refl e a
  run-keeps (anew {l} {v} {v'} r n e f) = remade l v v' (run-keeps r) n e f

  pub run-sizes : {l : Ledger} {v : View} → Run (Formatted K) (Did K) (Starts K) l v → good_size v.disk.size ≡ true
  run-sizes (formatted {v} {v'} f) = let r = f.turns (empty_table v.disk.size) in
      subst (λ (z : ℕ). good_size z ≡ true) (sym f.size) (format-size v.disk.size (empty_table v.disk.size) r.0 r.1)
  run-sizes (unformatted r f) = subst (λ (z : ℕ). good_size z ≡ true) (sym f.size) (run-sizes r)
  run-sizes (turned r d) = subst (λ (z : ℕ). good_size z ≡ true) (sym d.size) (run-sizes r)
  run-sizes (stopped r s) = subst (λ (z : ℕ). good_size z ≡ true) (sym s.size) (run-sizes r)
  run-sizes (started r s e a) = subst (λ (z : ℕ). good_size z ≡ true) (sym s.size) (run-sizes r)
  run-sizes (anew {l} {v} {v'} r n e f) = subst (λ (z : ℕ). good_size z ≡ true) (sym e) (run-sizes r)

  -- a Start of a run that leaves the disk live
  module _ (v : View) (a : Answer) (v' : View) (s : Starts K v a v') where
    good' : {l : Ledger} → Run (Formatted K) (Did K) (Starts K) l v → good_size v'.disk.size ≡ true
    good' r = subst (λ (z : ℕ). good_size z ≡ true) (sym s.size) (run-sizes r)

    recovered : {l : Ledger} → Run (Formatted K) (Did K) (Starts K) l v → v'.disk.live ≡ true → Recovers l v'.disk.size v'.disk.shown
    recovered {l} r y = resized l v.disk.size v'.disk.size v'.disk.shown s.size (recovers l v (run-keeps r) v'.disk.shown (s.picked (run-sizes r) y).1)

    sized : {l : Ledger} → Run (Formatted K) (Did K) (Starts K) l v → v'.disk.live ≡ true → Sized v'.disk.size v'.disk.shown
    sized r y n i = let d = s.sound (run-sizes r) in (d.whole n (v'.disk.shown n) i (d.shows y n i)).long

    founds : {l : Ledger} (r : Run (Formatted K) (Did K) (Starts K) l v) (y : v'.disk.live ≡ true) → found v'.disk.size v'.disk.shown ≡ Ok (recovered r y).catalog
    founds r y = (found-laid-both v'.disk.size v'.disk.shown (recovered r y).catalog (sized r y)).1 (good' r, (recovered r y).agrees.lays)

    founds-there : {l : Ledger} (r : Run (Formatted K) (Did K) (Starts K) l v) (y : v'.disk.live ≡ true) → found v.disk.size v'.disk.shown ≡ Ok (recovered r y).catalog
    founds-there r y = subst (λ (z : ℕ). found z v'.disk.shown ≡ Ok (recovered r y).catalog) s.size (founds r y)

    accepts : {l : Ledger} → Run (Formatted K) (Did K) (Starts K) l v → v'.disk.live ≡ true → a ≡ Done
    accepts r y =
        let t = empty_table v.disk.size in
        let q = s.turns t in
        start-done v.disk.size v'.disk.shown t q.0 a (recovered r y).catalog (founds-there r y) (λ e. not-both v'.disk.live (((s.answered (run-sizes r)).lost).0 e) y) q.1

    alive : {l : Ledger} → Run (Formatted K) (Did K) (Starts K) l v → says_three a ≡ false → v'.disk.live ≡ true
    alive r e = by v'.disk.live refl
      where
        by : (b : Bool) → v'.disk.live ≡ b → v'.disk.live ≡ true
        by true f = f
        by false f = not-both (says_three a) e (((s.answered (run-sizes r)).lost).1 f)

    finds : (l : Ledger) → Run (Formatted K) (Did K) (Starts K) l v → a ≡ Done → Finds l v'
    finds l r d = record {
      counted = f.counted;
      resolves = f.resolves;
      catalog = f.catalog;
      finds = founds r y;
      agrees = f.agrees;
      divided = started-divided v' f.catalog (sized r y) (good' r) f.agrees.lays holds;
    }
      where
        y : v'.disk.live ≡ true
        y = alive r (not_three a d)

        f : Recovers l v'.disk.size v'.disk.shown
        f = recovered r y

        t : Table
        t = empty_table v.disk.size

        is : (s.turns (empty_table v.disk.size)).0 ≡ started_table v.disk.size v'.disk.shown f.catalog
        is = start-table v.disk.size v'.disk.shown t (s.turns t).0 a f.catalog (founds-there r y) d (s.turns t).1

        holds : Holds v' (started_table v'.disk.size v'.disk.shown f.catalog)
        holds = subst (λ (z : ℕ). Holds v' (started_table z v'.disk.shown f.catalog)) (sym s.size)
            (subst (λ (z : Table). Holds v' z) is ((s.turns t).3 (ap (λ (z : Table). z.ready) is)))

    pub whole : Whole (Formatted K) (Did K) (Starts K) v a v'
    whole = record {
      accepts = λ l r y. accepts r y;
      calm = λ l r m. accepts r (alive r ((s.answered (run-sizes r)).accepts m tt));
      finds = finds;
    }

kept-recovers : (l : Ledger) (v : View) → Kept l v → Recoverable l v.disk
kept-recovers l v k = k.recovers

kept-remade : (l : Ledger) (v v' : View) → Kept l v → v'.ready ≡ false → v'.disk.size ≡ v.disk.size → Fewer v.disk v'.disk → Kept l v'
kept-remade l v v' k n e f = record {
  sane = k.sane;
  recovers = less-recoverable l v.disk v'.disk (record { size = e; fewer = f }) k.recovers;
  ready = λ y. not-both v'.ready n y;
}

pub run-kept : RunKept
run-kept l v r = run-keeps Kept kept-recovers kept-remade r

pub run-size : RunSize
run-size l v r = run-sizes Kept kept-recovers kept-remade r

pub run-promise : RunPromise
run-promise v a v' s = whole Kept kept-recovers kept-remade v a v' s

pub lives-holds : LivesHolds
lives-holds v (Lives.made e) r = not-both v.ready e r
lives-holds v' (Lives.formatted l f) r = let x = f.turns (empty_table 0) in (x.0, x.3 (sym x.2 ∙ r))
lives-holds v' (Lives.started l f) r = let x = f.turns (empty_table 0) in (x.0, x.3 (sym x.2 ∙ r))
lives-holds v' (Lives.turned {v = v} l d) r = go v.ready refl (lives-holds v l)
  where
    go : (b : Bool) → v.ready ≡ b → (v.ready ≡ true → (t : Table) × Holds v t) → (t : Table) × Holds v' t
    go false e k = let w = d.waits e in not-both v'.ready (ap (λ (z : View). z.ready) w.1 ∙ e) r
    go true e k = let h = k e in let u = d.turns e h.0 h.1 in (u.table, u.holds (sym u.ready ∙ r))
