-- Table and ledger stay together.
use Rattle.std.proofs.Common.{◌≡◌, ℕ, zero, suc, ◌-◌, ◌<◌, min, Bool, true, false, cond, not, ◌⊎◌, List, [], ◌∷◌, ◌++◌, map, length, get_or, set, is_some, Some, None, Option, sym, refl, ap, ◌∙◌, subst, ap₂, inl, inr, arith}
use Rattle.std.specs.Prelude.{◌==◌, nat_le, nat_lt}
use Rattle.std.proofs.lemmas.List.{map-set, get_or_past}
use Rattle.std.proofs.lemmas.Option.{none-some, same_Some}
use Rattle.std.proofs.lemmas.Bool.{and_parts, ltb-true, eq-eqb, ne_eqb}
use Rattle.numbers.specs.Names.{Key}
use Rattle.numbers.specs.Order.{cmp}
use Rattle.tree.specs.Tree.{Entry, lookup}
use Rattle.tree.specs.Insert.{insert}
use Rattle.tree.specs.Laws.{put, without, find}
use Rattle.tree.proofs.Insert.{insert-puts}
use Rattle.tree.proofs.Delete.{delete-takes}
use Rattle.disk.specs.Meaning.{In}
use Rattle.promise.specs.Table.{File, Anonymous, Registered, Slot, Table, Rider, Call, New, Old, Delete, Set, Read, Write, Register, Close, Names, Answer, slot_count, slot_at, slot, used, is_anonymous, is_there, target, unused, holder, old_file, is_open, old_slot, takes, without_name, with_file, with_slot, with_free, with_tree, waits, empty_file, closed, written, registered, one_more, one_less, before, behind, accepted, Spare, MayTake, Turn, formatted, Proper}
use Rattle.promise.specs.Ledger.{Written, no_file, Ledger, blank, slot_of, numbered, file_of, closing, carried, from, counts, breaks, followed, follow, Sane}
use Rattle.promise.specs.Ledger.{with_names as names_in, with_slot as slot_in, with_file as file_in}
use Rattle.promise.specs.Together.{Together, Live, entry_to, slot_to}
use Rattle.promise.proofs.Outcomes.{refused, done, broken, outcome, ledger}
use Rattle.promise.proofs.Granted.{Granted, granted, granted-left, used-is}
use Rattle.promise.proofs.Directory.{order, found-in}
use Rattle.promise.proofs.Accounts.{register-slot}
use Rattle.promise.proofs.Slots.{slot-set, slot-now, unused-none, holder-holds, no-slot}
use Rattle.promise.proofs.Entries.{put-in, without-in}
use Rattle.promise.proofs.Ledgers.{file-more}
use Rattle.promise.proofs.Beside.{told, was-ready, to, slot-none, slot-is, slot-of, old-to}
use Rattle.promise.proofs.StaySane.{counts-broken, follow-counts}
use Rattle.promise.proofs.Links.{Linked, linked, together, live-known, one_less-to, without-to, put-to, slot-linked, names-linked, free-linked, file-linked, carried-linked, waiting}

-- what is said of a table's slot is said of the ledger's
by-slot : (t : Table) (l : Ledger) (g : Together t l) (s : ℕ) (P : Slot → Type 0) → slot_at t s ≡ Some (slot t s) → P (to g.sector (slot_of l s)) → P (slot t s)
by-slot t l g s P u h = subst P (sym (slot-is t l g s u).1) h

slot-lives : (t : Table) (l : Ledger) (g : Together t l) (s : ℕ) → slot_at t s ≡ Some (slot t s) → Live l (slot_of l s).file
slot-lives t l g s u = inr (s, slot_of l s, (slot-is t l g s u).0, refl)

-- OLD
old : (t : Table) (l : Ledger) (g : Together t l) (n : Key) → Proper t → is_there (lookup cmp t.tree n) ≡ true → Linked g.sector (accepted t 0 (Old n)).1 (counts l (old_slot t n) (Old n))
old t l g n p h = go (is_open t n) refl
  where
    f : ℕ
    f = target (find cmp n l.names)

    fresh : Slot
    fresh = record { file = f; sort = Registered; name = n; handles = 1 }

    at' : Bool → ℕ
    at' b = cond b (holder (old_file t n) t.slots) (unused t.slots)

    go : (b : Bool) → nat_lt (holder (old_file t n) t.slots) slot_count ≡ b →
        Linked g.sector (with_slot (at' b) (Some (cond b (one_more (slot t (at' b))) (record { file = old_file t n; sort = Registered; name = n; handles = 1 }))) t)
        (slot_in (at' b) (Some (cond (is_some (get_or l.slots (at' b) None)) (one_more (slot_of l (at' b))) fresh)) l)
    go true e =
        let s = holder (old_file t n) t.slots in
        let k = ltb-true (holder (old_file t n) t.slots) slot_count e in
        let i = p.eight in
        let r = holder-holds (old_file t n) t.slots (omega (arith, k, i)) in
        let u : slot_at t s ≡ Some (slot t s) = used-is (slot_at t s) (ap is_some r.1) in
        let q = ap is_some (slot-is t l g s u).0 in
        subst (λ (b : Bool). Linked g.sector (with_slot s (Some (one_more (slot t s))) t) (slot_in s (Some (cond b (one_more (slot_of l s)) fresh)) l)) (sym q)
        (by-slot t l g s (λ (x : Slot). Linked g.sector (with_slot s (Some (one_more x)) t) (slot_in s (Some (one_more (slot_of l s))) l)) u
        (slot-linked g.sector t l (linked t l g) s (Some (one_more (slot_of l s))) (λ x c. subst (λ (y : Slot). Live l y.file) (same_Some _ x c) (slot-lives t l g s u))))
    go false e =
        let s = unused t.slots in
        let q = ap is_some (slot-none t l g s (unused-none t.slots)) in
        let r = old-to t l g n p h in
        subst (λ (b : Bool). Linked g.sector (with_slot s (Some (record { file = old_file t n; sort = Registered; name = n; handles = 1 })) t) (slot_in s (Some (cond b (one_more (slot_of l s)) fresh)) l)) (sym q)
        (subst (λ (k : ℕ). Linked g.sector (with_slot s (Some (record { file = k; sort = Registered; name = n; handles = 1 })) t) (slot_in s (Some fresh) l)) (sym r.0)
        (slot-linked g.sector t l (linked t l g) s (Some fresh) (λ x c. subst (λ (y : Slot). Live l y.file) (same_Some fresh x c) (inl (found-in n l.names f r.1)))))

-- DELETE
delete : (t : Table) (l : Ledger) (g : Together t l) (n : Key) → Proper t → Linked g.sector (with_tree (without_name t n) t) (names_in (without cmp n l.names) l)
delete t l g n p =
    names-linked g.sector t l (linked t l g) (without_name t n) (without cmp n l.names) (delete-takes cmp order t.tree n p.good ∙ (ap (without cmp n) g.names ∙ without-to g.sector n l.names)) live
  where
    live : (m : ℕ) → Live (names_in (without cmp n l.names) l) m → Live l m
    live m (inl q) = inl (q.0, without-in n l.names q.0 q.1, q.2)
    live m (inr q) = inr q

-- WRITE
write : (t : Table) (l : Ledger) (g : Together t l) (r : Rider) (b : List ℕ) → Sane l → slot_at t r.slot ≡ Some (slot t r.slot) → Linked g.sector (accepted t 0 (Write r b)).1 (counts l 0 (Write r b))
write t l g r b v u =
    by-slot t l g r.slot (λ (x : Slot). Linked g.sector (result x) (counts l 0 (Write r b))) u
    (free-linked g.sector (with_file (g.sector n) (after (g.sector n)) t) (counts l 0 (Write r b))
    (file-linked g.sector t l (linked t l g) n live (live-known l n v live) (after (g.sector n)) (record { bytes = written (from l r) b (file_of l r.slot).bytes; closed = (file_of l r.slot).closed; possible = carried (from l r) b (file_of l r.slot).possible })
    (ap (λ (bs : List ℕ). written (min r.place (length bs)) b bs) (g.bytes n live)) (g.closed n live)) (t.free - takes t r b))
  where
    n : ℕ
    n = (slot_of l r.slot).file

    live : Live l (slot_of l r.slot).file
    live = slot-lives t l g r.slot u

    after : ℕ → File
    after k = record { bytes = written (min r.place (length (t.files k).bytes)) b (t.files k).bytes; closed = (t.files k).closed }

    result : Slot → Table
    result x = with_free (t.free - takes t r b) (with_file x.file (after x.file) t)

-- CLOSE
closing-linked : (t : Table) (l : Ledger) (g : Together t l) (s : ℕ) → Sane l → slot_at t s ≡ Some (slot t s) →
    Linked g.sector (with_file (g.sector (slot_of l s).file) (closed (t.files (g.sector (slot_of l s).file))) t) (file_in (slot_of l s).file (closing (file_of l s)) l)
closing-linked t l g s v u =
    let n = (slot_of l s).file in
    let live = slot-lives t l g s u in
    file-linked g.sector t l (linked t l g) n live (live-known l n v live) (closed (t.files (g.sector n))) (closing (file_of l s)) (g.bytes n live) (ap length (g.bytes n live))

close : (t : Table) (l : Ledger) (g : Together t l) (s : ℕ) → Sane l → slot_at t s ≡ Some (slot t s) → Linked g.sector (accepted t 0 (Close s)).1 (counts l 0 (Close s))
close t l g s v u =
    by-slot t l g s (λ (x : Slot). Linked g.sector (with_file x.file (closed (t.files x.file)) (with_slot s (one_less x) t)) (counts l 0 (Close s))) u
    (subst (λ (o : Option Slot). Linked g.sector (with_file (g.sector y.file) (closed (t.files (g.sector y.file))) (with_slot s o t)) (counts l 0 (Close s))) (one_less-to g.sector y)
    (slot-linked g.sector (with_file (g.sector y.file) (closed (t.files (g.sector y.file))) t) (file_in y.file (closing (file_of l s)) l) (closing-linked t l g s v u) s (one_less y) live))
  where
    y : Slot
    y = slot_of l s

    live : (x : Slot) → one_less (slot_of l s) ≡ Some x → Live (file_in (slot_of l s).file (closing (file_of l s)) l) x.file
    live x e = by (nat_le (slot_of l s).handles 1) e
      where
        by : (b : Bool) → cond b None (Some (record { file = (slot_of l s).file; sort = (slot_of l s).sort; name = (slot_of l s).name; handles = (slot_of l s).handles - 1 })) ≡ Some x → Live l x.file
        by true e = absurd (none-some x e)
        by false e = subst (λ (z : Slot). Live l z.file) (same_Some _ x e) (slot-lives t l g s u)

-- REGISTER
register : (t : Table) (l : Ledger) (g : Together t l) (s : ℕ) → Proper t → Sane l → slot_at t s ≡ Some (slot t s) → Linked g.sector (accepted t 0 (Register s)).1 (counts l 0 (Register s))
register t l g s p v u =
    by-slot t l g s (λ (x : Slot). Linked g.sector (with_tree (insert cmp t.tree x.name x.file).0 (with_file x.file (closed (t.files x.file)) (with_slot s (Some (registered x)) t))) (counts l 0 (Register s))) u
    (names-linked g.sector (with_file (g.sector y.file) (closed (t.files (g.sector y.file))) (with_slot s (Some (to g.sector (registered y))) t)) (file_in y.file (closing (file_of l s)) (slot_in s (Some (registered y)) l))
    (slot-linked g.sector (with_file (g.sector y.file) (closed (t.files (g.sector y.file))) t) (file_in y.file (closing (file_of l s)) l) (closing-linked t l g s v u) s (Some (registered y))
    (λ x e. subst (λ (z : Slot). Live l z.file) (same_Some (registered y) x e) (slot-lives t l g s u)))
    (insert cmp t.tree y.name (g.sector y.file)).0 (put cmp (y.name, y.file) l.names)
    (insert-puts cmp order t.tree y.name (g.sector y.file) p.good ∙ (ap (put cmp (y.name, g.sector y.file)) g.names ∙ put-to g.sector (y.name, y.file) l.names)) live)
  where
    y : Slot
    y = slot_of l s

    live : (m : ℕ) → Live (names_in (put cmp ((slot_of l s).name, (slot_of l s).file) l.names) (slot_in s (Some (registered (slot_of l s))) l)) m → Live (slot_in s (Some (registered (slot_of l s))) l) m
    live m (inl q) = elim (put-in ((slot_of l s).name, (slot_of l s).file) l.names q.0 q.1) [
      | inl e ↦ inr (s, registered (slot_of l s), slot-now l.slots s (slot_of l s) (Some (registered (slot_of l s))) (slot-is t l g s u).0, sym (ap (λ (d : Entry Key). d.1) e) ∙ q.2)
      | inr j ↦ inl (q.0, j, q.2)
    ]
    live m (inr q) = inr q

-- NEW
entries-same : (g h : ℕ → ℕ) (es : List (Entry Key)) → ((e : Entry Key) → In e es → g e.1 ≡ h e.1) → map (entry_to g) es ≡ map (entry_to h) es
entries-same g h [] f = refl
entries-same g h (e ∷ es) f = ap₂ (λ (d : Entry Key) (ds : List (Entry Key)). d ∷ ds) (ap (λ (n : ℕ). (e.0, n)) (f e (inl refl))) (entries-same g h es (λ d i. f d (inr i)))

slots-same : (g h : ℕ → ℕ) (os : List (Option Slot)) → ((s : ℕ) (x : Slot) → get_or os s None ≡ Some x → g x.file ≡ h x.file) → map (slot_to g) os ≡ map (slot_to h) os
slots-same g h [] f = refl
slots-same g h (None ∷ os) f = ap (λ (l : List (Option Slot)). None ∷ l) (slots-same g h os (λ s x e. f (suc s) x e))
slots-same g h (Some y ∷ os) f = ap₂ (λ (k : ℕ) (l : List (Option Slot)). Some (record { file = k; sort = y.sort; name = y.name; handles = y.handles }) ∷ l) (f zero y refl) (slots-same g h os (λ s x e. f (suc s) x e))

entry-in : (g : ℕ → ℕ) (es : List (Entry Key)) (e : Entry Key) → In e es → In (entry_to g e) (map (entry_to g) es)
entry-in g [] e i = i
entry-in g (d ∷ es) e (inl q) = inl (ap (entry_to g) q)
entry-in g (d ∷ es) e (inr j) = inr (entry-in g es e j)

module _ (t : Table) (l : Ledger) (g : Together t l) (taken : ℕ) (n : Key) (v : Sane l) (m : Spare t taken) where
  -- the new file's number leads to the sector taken
  sector : ℕ → ℕ
  sector k = cond (k == length l.files) taken (g.sector k)

  fresh : Slot
  fresh = record { file = length l.files; sort = Anonymous; name = n; handles = 1 }

  more : Ledger
  more = counts l (unused t.slots) (New n)

  sector-new : sector (length l.files) ≡ taken
  unfolding sector
  sector-new = ap (λ (b : Bool). cond b taken (g.sector (length l.files))) (eq-eqb (length l.files) (length l.files) refl)

  sector-known : (k : ℕ) → k < length l.files → sector k ≡ g.sector k
  unfolding sector
  sector-known k h = ap (λ (b : Bool). cond b taken (g.sector k)) (ne_eqb k (length l.files) (λ e. omega (arith, e)))

  live-new : (k : ℕ) → Live more k → (k ≡ length l.files) ⊎ Live l k
  unfolding more
  live-new k (inl q) = inr (inl q)
  live-new k (inr q) = elim (slot-set l.slots (unused t.slots) q.0 (Some (record { file = length l.files; sort = Anonymous; name = n; handles = 1 })) q.1 q.2) [
    | inl p ↦ inl (sym q.3 ∙ sym (ap (λ (z : Slot). z.file) (same_Some _ q.1 p.1)))
    | inr p ↦ inr (inr (q.0, q.1, p.1, q.3))
  ]

  -- no live file has that first sector
  live-other : (k : ℕ) → Live l k → g.sector k ≡ taken → ⊥
  live-other k (inl q) e = m.unnamed (entry_to g.sector q.0) (subst (In (entry_to g.sector q.0)) (sym g.names) (entry-in g.sector l.names q.0 q.1)) (ap g.sector q.2 ∙ e)
  live-other k (inr q) e = m.closed q.0 (to g.sector q.1) (slot-of t l g q.0 q.1 q.2) (ap g.sector q.3 ∙ e)

  sector-live : (k : ℕ) → Live l k → sector k ≡ g.sector k
  sector-live k a = sector-known k (live-known l k v a)

  apart : (j k : ℕ) → Live more j → Live more k → sector j ≡ sector k → j ≡ k
  apart j k a b e = elim (live-new j a) [
    | inl p ↦ elim (live-new k b) [
      | inl q ↦ p ∙ sym q
      | inr q ↦ absurd (live-other k q (sym (sector-live k q) ∙ (sym e ∙ (ap sector p ∙ sector-new))))
    ]
    | inr p ↦ elim (live-new k b) [
      | inl q ↦ absurd (live-other j p (sym (sector-live j p) ∙ (e ∙ (ap sector q ∙ sector-new))))
      | inr q ↦ g.apart j k p q (sym (sector-live j p) ∙ (e ∙ sector-live k q))
    ]
  ]

  -- what is told of each live file
  told-of : {A : Type 0} (p : File → A) (q : Written → A) → p empty_file ≡ q no_file → ((k : ℕ) → Live l k → p (t.files (g.sector k)) ≡ q (numbered l k)) →
      (k : ℕ) → Live more k → p (cond (sector k == taken) empty_file (t.files (sector k))) ≡ q (get_or (l.files ++ (no_file ∷ [])) k no_file)
  told-of p q e f k a = elim (live-new k a) [
    | inl i ↦
        ap (λ (b : Bool). p (cond b empty_file (t.files (sector k)))) (eq-eqb (sector k) taken (ap sector i ∙ sector-new)) ∙
        (e ∙ sym (ap q (file-more l.files k ∙ get_or_past l.files k no_file (omega (arith, i)))))
    | inr i ↦
        ap (λ (b : Bool). p (cond b empty_file (t.files (sector k)))) (ne_eqb (sector k) taken (λ s. live-other k i (sym (sector-live k i) ∙ s))) ∙
        (ap (λ (j : ℕ). p (t.files j)) (sector-live k i) ∙ (f k i ∙ sym (ap q (file-more l.files k))))
  ]

  new : Linked sector (accepted t taken (New n)).1 (counts l (unused t.slots) (New n))
  unfolding more
  new = record {
    apart = apart;
    names = g.names ∙ entries-same g.sector sector l.names (λ e i. sym (sector-known e.1 (v.known e i)));
    slots =
        ap₂ (λ (os : List (Option Slot)) (k : ℕ). set os (unused t.slots) (Some (record { file = k; sort = Anonymous; name = n; handles = 1 }))) (g.slots ∙ slots-same g.sector sector l.slots (λ s x e. sym (sector-known x.file (v.held s x e)))) (sym sector-new) ∙
        sym (map-set (slot_to sector) l.slots (unused t.slots) (Some (record { file = length l.files; sort = Anonymous; name = n; handles = 1 })));
    bytes = told-of (λ (x : File). x.bytes) (λ (w : Written). w.bytes) refl g.bytes;
    closed = told-of (λ (x : File). x.closed) (λ (w : Written). w.closed) refl g.closed;
  }

-- EVERY CALL
abbrev Linking : Table → Ledger → Type 0
Linking t l = (sector : ℕ → ℕ) × Linked sector t l

accepting : (t : Table) (l : Ledger) (s : ℕ) (c : Call) → Proper t → Sane l → Together t l → MayTake t c s → Granted (before t c ++ behind t c) → Linking (accepted t s c).1 (counts l (told t c) c)
accepting t l s (New n) p v g m h = (sector t l g s n v m, new t l g s n v m)
accepting t l s (Old n) p v g m h = (g.sector, old t l g n p h.1.1.0)
accepting t l s (Delete n) p v g m h = (g.sector, delete t l g n p)
accepting t l s (Set k q) p v g m h = (g.sector, linked t l g)
accepting t l s (Read r b) p v g m h = (g.sector, linked t l g)
accepting t l s (Write r b) p v g m h = (g.sector, write t l g r b v (used-is (slot_at t r.slot) h.1.0))
accepting t l s (Register k) p v g m h = (g.sector, register t l g k p v (register-slot t k h.1.0).0)
accepting t l s (Close k) p v g m h = (g.sector, close t l g k v (used-is (slot_at t k) (and_parts (used t k) (not (is_anonymous (slot t k).sort)) h.1.0).0))
accepting t l s (Names rs) p v g m h = (g.sector, linked t l g)

breaking : (t : Table) (l : Ledger) (c : Call) → Together t l → Linking (waits t) (breaks l c)
breaking t l (New n) g = (g.sector, waiting t l (linked t l g))
breaking t l (Old n) g = (g.sector, waiting t l (linked t l g))
breaking t l (Delete n) g = (g.sector, waiting t l (linked t l g))
breaking t l (Set k q) g = (g.sector, waiting t l (linked t l g))
breaking t l (Read r b) g = (g.sector, waiting t l (linked t l g))
breaking t l (Write r b) g = (g.sector, waiting t (breaks l (Write r b)) (carried-linked g.sector t l (linked t l g) (slot_of l r.slot).file _ refl refl))
breaking t l (Register k) g = (g.sector, waiting t l (linked t l g))
breaking t l (Close k) g = (g.sector, waiting t l (linked t l g))
breaking t l (Names rs) g = (g.sector, waiting t l (linked t l g))

counts-wiped : (l : Ledger) (s : ℕ) (c : Call) → (counts l s c).wiped ≡ l.wiped
counts-wiped l s (New n) = refl
counts-wiped l s (Old n) = refl
counts-wiped l s (Delete n) = refl
counts-wiped l s (Set h p) = refl
counts-wiped l s (Read r b) = refl
counts-wiped l s (Write r b) = refl
counts-wiped l s (Register h) = refl
counts-wiped l s (Close h) = refl
counts-wiped l s (Names rs) = refl

pub turns : (t t' : Table) (l : Ledger) (c : Call) (a : Answer) → Proper t → Sane l → Together t l → Turn t c a t' → Together t' (follow l c a)
turns t t' l c a p v g u = elim (outcome t u) [
  | refused r e i s ↦ subst (λ (x : Table). Together x (follow l c a)) (sym s) (subst (Together t) (sym (ap (follow l c) e ∙ ledger l c r i)) g)
  | done s m b e i ↦
      let h = granted (before t c ++ behind t c) b in
      let k = accepting t l s c p v g m h in
      let n = g.unbroken (was-ready t c (granted-left (before t c) (behind t c) h)) in
      subst (λ (x : Table). Together x (follow l c a)) (sym i) (subst (Together (accepted t s c).1) (sym (follow-counts t l s c a e))
      (together k.0 (accepted t s c).1 (counts l (told t c) c) k.1 (λ q. (counts-broken l (told t c) c ∙ n.0, counts-wiped l (told t c) c ∙ n.1))))
  | broken b s f i ↦
      let k = breaking t l c g in
      subst (λ (x : Table). Together x (follow l c a)) (sym i) (subst (Together (waits t)) (sym (ap (followed l c) f)) (together k.0 (waits t) (breaks l c) k.1 (λ q. cc)))
]

pub formats : (size : ℕ) → Together (formatted size) blank
formats size = record {
  sector = λ n. n;
  apart = λ n m a b e. e;
  names = refl;
  slots = refl;
  bytes = λ n a. absurd (none n a);
  closed = λ n a. absurd (none n a);
  unbroken = λ h. (refl, refl);
}
  where
    none : (n : ℕ) → Live blank n → ⊥
    none n (inl q) = q.1
    none n (inr q) = no-slot q.0 q.1 q.2
