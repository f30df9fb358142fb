-- Questions asked in memory alone, and with a disk that is read on the way.
use Rattle.std.proofs.Common.{◌≡◌, ℕ, ◌+◌, ◌/◌, ◌<◌, ◌≤◌, Bool, true, false, List, IsErrAnd, Some, None, Ok, Err, Option, Result, sym, refl, ap, ◌∙◌, subst, arith}
use Rattle.std.proofs.lemmas.Result.{err_from_is_err_and}
use Rattle.disk.specs.declared.fault.Cause.{Cause}
use Rattle.disk.specs.declared.fault.Cause.TheVariants.{Outside, Gone}
use Rattle.disk.specs.declared.fault.DiskFault.{DiskFault}
use Rattle.disk.specs.Meaning.{Contents, Meaning}
use Rattle.disk.specs.Rules.{Answer, Request, Gets, Refuses}
use Rattle.disk.specs.Rules.Request.{getting}
use Rattle.numbers.specs.declared.sector.Sector.{Sector}
use Rattle.numbers.specs.Sectors.{address_step}
use Rattle.catalog.specs.declared.fault.LayoutFault.{LayoutFault}
use Rattle.catalog.specs.declared.fault.VolumeFault.{VolumeFault}
use Rattle.catalog.specs.declared.fault.VolumeFault.TheVariants.{Disk, Layout}
use Rattle.catalog.specs.Questions.{Step, ◌▸◌, done, link}
use Rattle.survey.specs.declared.findings.Findings.{Findings}
use Rattle.survey.specs.declared.row.FileRow.{FileRow}
use Rattle.survey.specs.Reads.{Reads, ReadOnly}
use Rattle.survey.specs.Reads.Reads.{none, more as one-more}
use Rattle.survey.specs.Asks.{World, Memory, Done, yes, told_layout, Asked, Tells, IsShown, Faults, Leaves, Surveyed, address_asks, Led}
use Rattle.survey.proofs.Steps.{then, stop, said, nothing, then-done, run, start, more, broke}

-- the exit of a `?`: what it returns
pub exit : {T E : Type 0} {e : E} (r : Result T E) → IsErrAnd r (λ (y : E). y ≡ e) → r ≡ Err e
exit r p = let q = err_from_is_err_and r p in q.1 ∙ ap (λ y. Err y) q.2

-- IN MEMORY
pub tells_said : {x x' : Memory} {r q : Done} {f g : World → Step} → ((w : World) → f w ≡ g w) → r ≡ q → Tells x f q x' → Tells x g r x'
tells_said {x} {x'} {r} {q} {f} {g} e a p = subst (λ (z : Done). Tells x g z x') (sym a) (record { room = p.room; asked = λ w. said (e w) (p.asked w) })

pub t_ends : {x : Memory} {f : World → Step} {r : Done} {k k1 : Findings} {rows : List FileRow} → k ≡ k1 → Tells x f r (record { found = k1; rows = rows }) → Tells x f r (record { found = k; rows = rows })
t_ends {x} {f} {r} {k} {k1} {rows} e p = subst (λ (z : Findings). Tells x f r (record { found = z; rows = rows })) (sym e) p

pub t_then : {x x1 x2 : Memory} {r : Done} (f g : World → Step) → Tells x f yes x1 → Tells x1 g r x2 → Tells x (λ w. f w ▸ g w) r x2
t_then {x} {x1} {x2} f g p q =
    let a = p.room in
    let b = q.room in
    record { room = omega arith; asked = λ w. then (f w) (g w) (p.asked w) (q.asked w) }

pub t_stop : {x x1 : Memory} {e : VolumeFault} (f g : World → Step) → Tells x f (Err e) x1 → Tells x (λ w. f w ▸ g w) (Err e) x1
t_stop f g p = record { room = p.room; asked = λ w. stop (f w) (g w) (p.asked w) }

pub t_nothing : (x : Memory) → Tells x (λ w. done) yes x
t_nothing x = record { room = omega arith; asked = λ w. nothing w x }

-- a loop's start, one turn more, a turn that breaks off
pub t_start : (x : Memory) (f : World → ℕ → Step) (a : ℕ) → Tells x (λ w. run (f w) a a) yes x
t_start x f a = record { room = omega arith; asked = λ w. start w x (f w) a }

pub t_more : {x x1 x2 : Memory} (f : World → ℕ → Step) (a i : ℕ) → a ≤ i → Tells x (λ w. run (f w) a i) yes x1 → Tells x1 (λ w. f w i) yes x2 → Tells x (λ w. run (f w) a (i + 1)) yes x2
t_more f a i h p q =
    let b = p.room in
    let c = q.room in
    record { room = omega arith; asked = λ w. more (f w) a i h (p.asked w) (q.asked w) }

pub t_broke : {x x1 x2 : Memory} {e : VolumeFault} (f : World → ℕ → Step) (a i n : ℕ) → a ≤ i → i < n → Tells x (λ w. run (f w) a i) yes x1 → Tells x1 (λ w. f w i) (Err e) x2 → Tells x (λ w. run (f w) a n) (Err e) x2
t_broke f a i n h l p q =
    let b = p.room in
    let c = q.room in
    record { room = omega arith; asked = λ w. broke (f w) a i n h l (p.asked w) (q.asked w) }

-- AN ADDRESS, and what it leads to
module _ (w : World) (h a : ℕ) (f : ℕ → Step) where
  pub link-some : {x x1 x2 : Memory} {r : Done} (due : Bool) → due ≡ true → Asked w x (link w.size w.shown due h a (λ n. done)) yes x1 → Asked w x1 (f (a / address_step)) r x2 → Asked w x (link w.size w.shown due h a f) r x2
  link-some true e p q = then _ (f (a / address_step)) (said (then-done _) p) q
  link-some false e p q = cc

  link-none : {x x1 : Memory} (due : Bool) → due ≡ false → Asked w x (link w.size w.shown due h a (λ n. done)) yes x1 → Asked w x (link w.size w.shown due h a f) yes x1
  link-none true e p = cc
  link-none false e p = p

  link-err : {x x1 : Memory} {e : VolumeFault} (due : Bool) → Asked w x (link w.size w.shown due h a (λ n. done)) (Err e) x1 → Asked w x (link w.size w.shown due h a f) (Err e) x1
  link-err true p = stop _ (f (a / address_step)) (said (then-done _) p)
  link-err false p = p

pub led-some : {due : Bool} {o : Option Sector} {n : Sector} (a : ℕ) (k : Findings) → o ≡ Some n → Led due a k o → Led due a k (Some n)
led-some {due} a k e l = subst (λ (y : Option Sector). Led due a k y) e l

pub led-none : {due : Bool} {o : Option Sector} (a : ℕ) (k : Findings) → o ≡ None → Led due a k o → due ≡ false
led-none {due} a k e l = subst (λ (y : Option Sector). Led due a k y) e l

-- ON A DISK
pub reads-then : {D : Type 0} {does : D → Request → Answer → D → Type 0} {d d1 d2 : D} → Reads does d d1 → Reads does d1 d2 → Reads does d d2
reads-then p none = p
reads-then p (one-more q a) = one-more (reads-then p q) a

pub read-same : (m : Meaning) → ReadOnly m m
read-same m = record { size = refl; shows = λ k l. refl; fewer = λ k x l i. i; calm = λ c. c }

pub read-then : {m m1 m2 : Meaning} → ReadOnly m m1 → ReadOnly m1 m2 → ReadOnly m m2
read-then {m} {m1} {m2} p q =
    let in_m1 : (k : ℕ) → k < m.size → k < m1.size = λ k l. subst (λ (z : ℕ). k < z) (sym p.size) l in
    record {
      size = q.size ∙ p.size;
      shows = λ k l. q.shows k (in_m1 k l) ∙ p.shows k l;
      fewer = λ k x l i. p.fewer k x l (q.fewer k x (in_m1 k l) i);
      calm = λ c. q.calm (p.calm c);
    }

pub shown-then : {m m1 : Meaning} {w : World} → ReadOnly m m1 → IsShown m w → IsShown m1 w
shown-then {m} {m1} {w} p s =
    record { size = p.size ∙ s.size; shows = λ n l. let k : n < m.size = subst (λ (z : ℕ). n < z) p.size l in p.shows n k ∙ s.shows n k }

pub read-got : {m m' : Meaning} {n : ℕ} {old new : Contents} {r : Answer} → Gets m n old r m' new → ReadOnly m m'
read-got g = record { size = g.size; shows = g.shows; fewer = g.fewer; calm = g.calm.stays }

pub got-shown : {m m' : Meaning} {n t : ℕ} {old new : Contents} {w : World} → Gets m n old (Ok tt) m' new → IsShown m w → n ≡ t → new ≡ w.shown t
got-shown {n = n} {w = w} g s e = g.answer.filled ∙ s.shows n g.answer.inside ∙ ap w.shown e

pub gone-inside : (c : Cause) (m m' : Meaning) (n : ℕ) (f : DiskFault) → Refuses c m n f m' → n < m.size → c ≡ Gone
gone-inside Outside m m' n f p l = let b = p.beyond in absurd (omega arith)
gone-inside Gone m m' n f p l = refl

inside-gone : (c : Cause) (m m' : Meaning) (n : ℕ) (f : DiskFault) → Refuses c m n f m' → c ≡ Gone → n < m.size
inside-gone Outside m m' n f p e = cc
inside-gone Gone m m' n f p e = p.inside

refused : {m m' : Meaning} {n : ℕ} {old new : Contents} {f : DiskFault} → Gets m n old (Err f) m' new → f.cause ≡ Gone → m.calm ≡ true → m.live ≡ true → ⊥
refused {m} {m'} {n} {old} {new} {f} g e c l =
    let i = inside-gone f.cause m m' n f g.answer.why e in
    let o = g.calm.accepts c (l, i) in cc

module _ {D : Type 0} (meaning : D → Meaning) (does : D → Request → Answer → D → Type 0) where
  pub leaves-then : {d d1 : D} (d2 : D) (r : Done) → Reads does d d1 → ReadOnly (meaning d) (meaning d1) → ((meaning d).live ≡ true → (meaning d1).live ≡ true) → Leaves meaning does d1 r d2 → Leaves meaning does d r d2
  leaves-then d2 (Ok u) s k p q = λ l. q (p l)
  leaves-then d2 (Err (Layout e)) s k p q = λ l. q (p l)
  leaves-then d2 (Err (Disk f)) s k p q = record { from = q.from; sector = q.sector; reached = reads-then s q.reached; asked = q.asked; why = q.why; not_calm = λ g c l. q.not_calm g (k.calm c) (p l) }

  still-leaves : {T : Type 0} (d : D) (r : Result T LayoutFault) → Leaves meaning does d (told_layout r) d
  still-leaves d (Ok v) = λ l. l
  still-leaves d (Err e) = λ l. l

module _ {D : Type 0} {meaning : D → Meaning} {does : D → Request → Answer → D → Type 0} where
  pub s_then : {d d1 d2 : D} {x x1 x2 : Memory} {r : Done} (f g : World → Step) → Surveyed meaning does d x f yes d1 x1 → Surveyed meaning does d1 x1 g r d2 x2 → Surveyed meaning does d x (λ w. f w ▸ g w) r d2 x2
  s_then {r = r} f g p q =
      let a = p.room in
      let b = q.room in
      record {
        reads = reads-then p.reads q.reads;
        read = read-then p.read q.read;
        leaves = leaves-then meaning does _ r p.reads p.read p.leaves q.leaves;
        room = omega arith;
        asked = λ w s. then (f w) (g w) (p.asked w s) (q.asked w (shown-then p.read s));
      }

  pub s_stop : {d d1 : D} {x x1 : Memory} {e : VolumeFault} (f g : World → Step) → Surveyed meaning does d x f (Err e) d1 x1 → Surveyed meaning does d x (λ w. f w ▸ g w) (Err e) d1 x1
  s_stop f g p = record { reads = p.reads; read = p.read; leaves = p.leaves; room = p.room; asked = λ w s. stop (f w) (g w) (p.asked w s) }

  -- the disk is not read
  pub still : {T : Type 0} {x x1 : Memory} {f : World → Step} (d : D) (r : Result T LayoutFault) → Tells x f (told_layout r) x1 → Surveyed meaning does d x f (told_layout r) d x1
  still d r p = record { reads = none; read = read-same (meaning d); leaves = still-leaves meaning does d r; room = p.room; asked = λ w s. p.asked w }

  pub s_said : {d d1 : D} {x x1 : Memory} {f g : World → Step} {r q : Done} → ((w : World) → IsShown (meaning d) w → f w ≡ g w) → r ≡ q → Surveyed meaning does d x f q d1 x1 → Surveyed meaning does d x g r d1 x1
  s_said {d} {d1} {x} {x1} {f} {g} {r} {q} e a p =
      subst (λ (z : Done). Surveyed meaning does d x g z d1 x1) (sym a)
      (record { reads = p.reads; read = p.read; leaves = p.leaves; room = p.room; asked = λ w s. said (e w s) (p.asked w s) })

  pub s_ends : {d d1 d2 : D} {x x1 x2 : Memory} {f : World → Step} {r : Done} → d2 ≡ d1 → x2 ≡ x1 → Surveyed meaning does d x f r d1 x1 → Surveyed meaning does d x f r d2 x2
  s_ends {d} {d1} {d2} {x} {x1} {x2} {f} {r} e a p =
      subst (λ (z : D). Surveyed meaning does d x f r z x2) (sym e) (subst (λ (y : Memory). Surveyed meaning does d x f r d1 y) (sym a) p)

  pub s_start : (d : D) (x : Memory) (f : World → ℕ → Step) (a : ℕ) → Surveyed meaning does d x (λ w. run (f w) a a) yes d x
  s_start d x f a = still {T = Unit {0}} d (Ok tt) (t_start x f a)

  pub s_more : {d d1 d2 : D} {x x1 x2 : Memory} (f : World → ℕ → Step) (a i : ℕ) → a ≤ i → Surveyed meaning does d x (λ w. run (f w) a i) yes d1 x1 → Surveyed meaning does d1 x1 (λ w. f w i) yes d2 x2 → Surveyed meaning does d x (λ w. run (f w) a (i + 1)) yes d2 x2
  s_more f a i h p q =
      let b = p.room in
      let c = q.room in
      record {
        reads = reads-then p.reads q.reads;
        read = read-then p.read q.read;
        leaves = λ l. q.leaves (p.leaves l);
        room = omega arith;
        asked = λ w s. more (f w) a i h (p.asked w s) (q.asked w (shown-then p.read s));
      }

  pub s_broke : {d d1 d2 : D} {x x1 x2 : Memory} {e : VolumeFault} (f : World → ℕ → Step) (a i n : ℕ) → a ≤ i → i < n → Surveyed meaning does d x (λ w. run (f w) a i) yes d1 x1 → Surveyed meaning does d1 x1 (λ w. f w i) (Err e) d2 x2 → Surveyed meaning does d x (λ w. run (f w) a n) (Err e) d2 x2
  s_broke {e = e} f a i n h l p q =
      let b = p.room in
      let c = q.room in
      record {
        reads = reads-then p.reads q.reads;
        read = read-then p.read q.read;
        leaves = leaves-then meaning does _ (Err e) p.reads p.read p.leaves q.leaves;
        room = omega arith;
        asked = λ w s. broke (f w) a i n h l (p.asked w s) (q.asked w (shown-then p.read s));
      }

  -- an address, and what it leads to
  pub linked_some : {d d2 : D} {x x1 x2 : Memory} {r : Done} (due : Bool) (h a n : ℕ) (g : World → ℕ → Step) → due ≡ true → n ≡ a / address_step → Tells x (address_asks due h a) yes x1 → Surveyed meaning does d x1 (λ w. g w n) r d2 x2 → Surveyed meaning does d x (λ w. link w.size w.shown due h a (g w)) r d2 x2
  linked_some {x1 = x1} {x2 = x2} {r = r} due h a n g e is p q =
      let b = p.room in
      let c = q.room in
      record {
        reads = q.reads;
        read = q.read;
        leaves = q.leaves;
        room = omega arith;
        asked = λ w s. link-some w h a (g w) due e (p.asked w) (subst (λ (j : ℕ). Asked w x1 (g w j) r x2) is (q.asked w s));
      }

  pub linked-none : {x x1 : Memory} (d : D) (due : Bool) (h a : ℕ) (g : World → ℕ → Step) → due ≡ false → Tells x (address_asks due h a) yes x1 → Surveyed meaning does d x (λ w. link w.size w.shown due h a (g w)) yes d x1
  linked-none d due h a g e p = still {T = Unit {0}} d (Ok tt) (record { room = p.room; asked = λ w. link-none w h a (g w) due e (p.asked w) })

  pub linked-err : {x x1 : Memory} {e : LayoutFault} (d : D) (due : Bool) (h a : ℕ) (g : World → ℕ → Step) → Tells x (address_asks due h a) (Err (Layout e)) x1 → Surveyed meaning does d x (λ w. link w.size w.shown due h a (g w)) (Err (Layout e)) d x1
  linked-err {e = e} d due h a g p = still {T = Unit {0}} d (Err e) (record { room = p.room; asked = λ w. link-err w h a (g w) due (p.asked w) })

  -- A SECTOR READ
  -- and the questions go on
  pub s_read : {d d1 d2 : D} {x x1 : Memory} {r : Done} {n : ℕ} {old new : Contents} {f : World → Step} → Gets (meaning d) n old (Ok tt) (meaning d1) new → does d (getting n) (Ok tt) d1 → Surveyed meaning does d1 x f r d2 x1 → Surveyed meaning does d x f r d2 x1
  s_read {r = r} g a q =
      record {
        reads = reads-then (one-more none a) q.reads;
        read = read-then (read-got g) q.read;
        leaves = leaves-then meaning does _ r (one-more none a) (read-got g) (λ l. g.answer.live) q.leaves;
        room = q.room;
        asked = λ w s. q.asked w (shown-then (read-got g) s);
      }

  pub faults : {d d1 : D} {n : ℕ} {old new : Contents} {f : DiskFault} → Gets (meaning d) n old (Err f) (meaning d1) new → does d (getting n) (Err f) d1 → Faults meaning does d f d1
  faults {d} {d1} {n} {f = f} g a = record { from = d; sector = n; reached = none; asked = a; why = g.answer.why; not_calm = refused g }

  -- or the disk does not answer
  pub s_unread : {d d1 : D} {n : ℕ} {old new : Contents} {f : DiskFault} (x : Memory) (g : World → Step) → Gets (meaning d) n old (Err f) (meaning d1) new → does d (getting n) (Err f) d1 → n < x.found.size → Surveyed meaning does d x g (Err (Disk f)) d1 x
  s_unread {d} {d1} {n} {f = f} x g p a l =
      record {
        reads = one-more none a;
        read = read-got p;
        leaves = faults p a;
        room = omega arith;
        asked = λ w s. record {
          agrees = λ t st y.
              let z = y.size in
              let v = s.size in
              gone-inside f.cause (meaning d) (meaning d1) n f p.answer.why (omega arith);
        };
      }
