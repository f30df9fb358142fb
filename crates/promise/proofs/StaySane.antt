-- The ledger of a run stays sane.
use Rattle.std.proofs.Common.{◌≡◌, ℕ, zero, suc, ◌+◌, ◌<◌, ◌≤◌, true, false, List, [], ◌∷◌, ◌++◌, map, length, get_or, Some, None, sym, refl, ap, ◌∙◌, subst, inl, inr, arith}
use Rattle.std.proofs.lemmas.Option.{none-some, same_Some}
use Rattle.numbers.specs.Names.{Key}
use Rattle.numbers.specs.Order.{cmp}
use Rattle.tree.specs.Tree.{Entry, Under, Rises}
use Rattle.disk.specs.Meaning.{Contents, In}
use Rattle.catalog.specs.Catalogs.{Extent, Catalog, Distinct, bytes_of}
use Rattle.promise.specs.Table.{Table, Call, New, Old, Delete, Set, Read, Write, Register, Close, Names, Answer, Turn, before, behind, accepted, Proper}
use Rattle.promise.specs.Ledger.{Written, no_file, Ledger, file_by, with_broken, counts, breaks, fate, followed, follow, wiping, Resolves, never, first, emptied, renumbered, refilled, restarted, file_number, Covers, Legal, Sane}
use Rattle.promise.specs.Promise.{Among, FilesAgree, Agrees}
use Rattle.promise.specs.Together.{Together}
use Rattle.promise.specs.Laws.{StaysSane}
use Rattle.promise.proofs.Outcomes.{refused, done, broken, outcome, ledger}
use Rattle.promise.proofs.Granted.{Granted, granted, granted-left}
use Rattle.promise.proofs.Restarted.{refilled-long}
use Rattle.promise.proofs.Slots.{no-slot}
use Rattle.promise.proofs.Ledgers.{no_file-covers, in-number, sound, sane, counts-sound, carried-sound, blank-sane}
use Rattle.promise.proofs.Beside.{told, fate-told, register-legal, close-legal, legal, was-ready}

pub counts-broken : (l : Ledger) (s : ℕ) (c : Call) → (counts l s c).broken ≡ l.broken
counts-broken l s (New n) = refl
counts-broken l s (Old n) = refl
counts-broken l s (Delete n) = refl
counts-broken l s (Set h p) = refl
counts-broken l s (Read r b) = refl
counts-broken l s (Write r b) = refl
counts-broken l s (Register h) = refl
counts-broken l s (Close h) = refl
counts-broken l s (Names rs) = refl

counts-sane : (l : Ledger) (s : ℕ) (c : Call) → l.broken ≡ None → Legal l s c → Sane l → Sane (counts l s c)
counts-sane l s c n u v = sane (counts l s c) (counts l s c).broken (counts l s c).wiped (λ d e. absurd (none-some d (sym n ∙ (sym (counts-broken l s c) ∙ e)))) (counts-sound l s c u (sound l v))

-- a call broken off that could have been accepted
broken-sane : (l : Ledger) (c : Call) → Legal (with_broken (Some c) l) 0 c → Sane l → Sane (with_broken (Some c) l)
broken-sane l c u v = sane l (Some c) l.wiped (λ d e. subst (Legal (with_broken (Some c) l) 0) (same_Some c d e) u) (sound l v)

breaks-sane : (t : Table) (l : Ledger) (c : Call) → Together t l → l.broken ≡ None → Granted (before t c) → Sane l → Sane (breaks l c)
breaks-sane t l (New n) g b h v = v
breaks-sane t l (Old n) g b h v = v
breaks-sane t l (Delete n) g b h v = broken-sane l (Delete n) tt v
breaks-sane t l (Set s p) g b h v = v
breaks-sane t l (Read r w) g b h v = v
breaks-sane t l (Write r w) g b h v = sane (breaks l (Write r w)) l.broken l.wiped (λ d e. absurd (none-some d (sym b ∙ e))) (carried-sound l r w (sound l v))
breaks-sane t l (Register s) g b h v = broken-sane l (Register s) (register-legal t l g s h.1.0) v
breaks-sane t l (Close s) g b h v = broken-sane l (Close s) (close-legal t l g s h.1.0) v
breaks-sane t l (Names rs) g b h v = v

pub follow-counts : (t : Table) (l : Ledger) (s : ℕ) (c : Call) (a : Answer) → a ≡ (accepted t s c).0 → follow l c a ≡ counts l (told t c) c
follow-counts t l s c a e = ap (followed l c) (ap fate e ∙ fate-told t s c)

turns : (t t' : Table) (l : Ledger) (c : Call) (a : Answer) → Proper t → Together t l → Sane l → Turn t c a t' → Sane (follow l c a)
turns t t' l c a p g v u = elim (outcome t u) [
  | refused r e i s ↦ subst Sane (sym (ap (follow l c) e ∙ ledger l c r i)) v
  | done s m b e i ↦
      let h = granted (before t c ++ behind t c) b in
      subst Sane (sym (follow-counts t l s c a e)) (counts-sane l (told t c) c (g.unbroken (was-ready t c (granted-left (before t c) (behind t c) h))).0 (legal t l g c p h) v)
  | broken b s f i ↦
      let h = granted (before t c) b in
      subst Sane (sym (ap (followed l c) f)) (breaks-sane t l c g (g.unbroken (was-ready t c h)).0 h v)
]

legal-wiping : (l : Ledger) (c : Call) → Legal l 0 c → Legal (wiping l) 0 c
legal-wiping l (New n) h = h
legal-wiping l (Old n) h = h
legal-wiping l (Delete n) h = h
legal-wiping l (Set s p) h = h
legal-wiping l (Read r b) h = h
legal-wiping l (Write r b) h = h
legal-wiping l (Register s) h = h
legal-wiping l (Close s) h = h
legal-wiping l (Names rs) h = h

wipes : (l : Ledger) → Sane l → Sane (wiping l)
wipes l v = sane l l.broken true (λ c e. legal-wiping l c (v.pending c e)) (sound l v)

resolves : (l l' : Ledger) → Sane l → Resolves l l' → Sane l'
resolves l _ v never = sane l None false (λ c e. absurd (none-some c e)) (sound l v)
resolves l _ v (first c e) = sane (counts l 0 c) None false (λ d e. absurd (none-some d e)) (counts-sound l 0 c (v.pending c e) (sound l v))
resolves l _ v (emptied h) = blank-sane

-- AN ACCEPTED START. Names in the same order, numbered anew
renumbered-under : (i : ℕ) (k : Key) (es : List (Entry Key)) → Under cmp k es → Under cmp k (renumbered i es)
renumbered-under i k [] u = tt
renumbered-under i k (e ∷ es) u = (u.0, renumbered-under (suc i) k es u.1)

renumbered-rises : (i : ℕ) (es : List (Entry Key)) → Rises cmp es → Rises cmp (renumbered i es)
renumbered-rises i [] r = tt
renumbered-rises i (e ∷ es) r = (renumbered-under (suc i) e.0 es r.0, renumbered-rises (suc i) es r.1)

pub renumbered-from : (i : ℕ) (es : List (Entry Key)) (e : Entry Key) → In e (renumbered i es) → (i ≤ e.1) × (e.1 < i + length es)
renumbered-from i [] e j = absurd j
renumbered-from i (d ∷ es) e (inl q) = let z : e.1 ≡ i = ap file_number q in (omega arith, omega arith)
renumbered-from i (d ∷ es) e (inr j) = let r = renumbered-from (suc i) es e j in (omega (arith, r), omega (arith, r))

renumbered-one : (i : ℕ) (es : List (Entry Key)) → Distinct (map file_number (renumbered i es))
renumbered-one i [] = tt
renumbered-one i (e ∷ es) = (λ j. let q = in-number (renumbered (suc i) es) i j in let r = renumbered-from (suc i) es q.0 q.1 in let z = q.2 in omega (arith, r, z), renumbered-one (suc i) es)

-- the bytes found are possible ones
among-long : (bs : List ℕ) (ps : List (List ℕ)) → Among bs ps → length bs ≡ length ps
among-long [] [] h = refl
among-long [] (p ∷ ps) h = absurd h
among-long (b ∷ bs) [] h = absurd h
among-long (b ∷ bs) (p ∷ ps) h = ap suc (among-long bs ps h.1)

among-at : (bs : List ℕ) (ps : List (List ℕ)) → Among bs ps → (i : ℕ) → i < length ps → In (get_or bs i 0) (get_or ps i [])
among-at [] [] h i k = absurd (omega arith)
among-at [] (p ∷ ps) h i k = absurd h
among-at (b ∷ bs) [] h i k = absurd h
among-at (b ∷ bs) (p ∷ ps) h zero k = h.0
among-at (b ∷ bs) (p ∷ ps) h (suc i) k = among-at bs ps h.1 i (omega arith)

found-covers : (w : Written) (bs : List ℕ) → Among bs w.possible → Covers w → Covers (record { bytes = bs; closed = w.closed; possible = w.possible })
found-covers w bs h c = record {
  closed = c.closed;
  within = let n = among-long bs w.possible h in let e = c.closed in omega (arith, n, e);
  own = λ i k. among-at bs w.possible h i (let e = c.closed in omega (arith, e));
}

refilled-covers : (shown : ℕ → Contents) (l : Ledger) (es : List (Entry Key)) (xs : List Extent) → ((n : ℕ) → Covers (get_or l.files n no_file)) → FilesAgree shown l es xs → (n : ℕ) → Covers (get_or (refilled l es (map (bytes_of shown) xs)) n no_file)
refilled-covers shown l [] xs c f n = no_file-covers
refilled-covers shown l (e ∷ es) [] c f n = absurd f
refilled-covers shown l (e ∷ es) (x ∷ xs) c f zero = found-covers (file_by l e) (bytes_of shown x) f.0.1 (c e.1)
refilled-covers shown l (e ∷ es) (x ∷ xs) c f (suc n) = refilled-covers shown l es xs c f.1 n

restarts : (l : Ledger) (size : ℕ) (shown : ℕ → Contents) (c : Catalog) → Sane l → Agrees l size shown c → Sane (restarted l (map (bytes_of shown) c.files))
restarts l size shown c v a = record {
  rises = renumbered-rises 0 l.names v.rises;
  one = renumbered-one 0 l.names;
  known = λ e i. let r = renumbered-from 0 l.names e i in let n = refilled-long l l.names (map (bytes_of shown) c.files) in omega (arith, r, n);
  held = λ s x e. absurd (no-slot s x e);
  apart = λ s x e k d i q. no-slot s x e;
  once = λ s h x y e f q. absurd (no-slot s x e);
  covers = refilled-covers shown l l.names c.files v.covers a.files;
  pending = λ d e. absurd (none-some d e);
}

pub stays-sane : StaysSane
stays-sane = record { begins = blank-sane; turns = turns; wipes = wipes; resolves = resolves; restarts = restarts }
