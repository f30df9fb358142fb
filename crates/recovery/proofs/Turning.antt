-- The put that turns one catalog into another, Format and Start.
use Rattle.std.proofs.Common.{◌≡◌, ℕ, zero, suc, ◌+◌, ◌<◌, false, ◌⊎◌, List, [], ◌∷◌, map, get_or, drop, Ok, sym, refl, ap, ◌∙◌, subst, inl, inr, arith}
use Rattle.numbers.specs.Names.{Key}
use Rattle.layout.specs.Words.{blank as zeros}
use Rattle.tree.specs.Tree.{Entry, page}
use Rattle.disk.specs.Meaning.{Contents, Meaning}
use Rattle.disk.specs.Rules.{Settled, Puts, Settles}
use Rattle.catalog.specs.Catalogs.{Extent, Catalog, bytes_of}
use Rattle.catalog.specs.Lays.{PageAt, root_sector}
use Rattle.promise.specs.Table.{Call, New, Old, Delete, Set, Read, Write, Register, Close, Names}
use Rattle.promise.specs.Ledger.{Written, no_file, Ledger, blank, counts, breaks, wiping, mended, Resolves, never, first, emptied, renumbered, refilled, restarted}
use Rattle.promise.specs.Promise.{FileAgrees, FilesAgree, Agrees}
use Rattle.promise.proofs.Restarted.{renumbered-names}
use Rattle.recovery.specs.Picks.{Picks, with_sector, Steady, Recovers, Recoverable}
use Rattle.recovery.specs.Steps.{Plus, Over}
use Rattle.recovery.specs.Wider.{Wider}
use Rattle.recovery.specs.Turning.{PutTurns, StoppedRecoverable, Turning, TurningRecoverable, TurningSteady, empty_root, empty_catalog, WipingRecoverable, FormatRecoverable, FormatSteady, RestartRecovers, StartedSteady}
use Rattle.recovery.proofs.Steps.{sector-here, sector-apart, one-or, one-put, resized}
use Rattle.recovery.proofs.Agreement.{wider-agrees, wider-steady, steady-recoverable, settled-steady, agrees-below}
use Rattle.recovery.proofs.Wider.{breaks-wider, same, not-both}

pub put-turns : PutTurns
put-turns l l₁ l₂ c d m m' k b f t r₁ r₂ old new s p = resized l m.size m'.size s t.size (by (one-put m m' k b f t s p))
  where
    by : Picks m s ⊎ Over m k b s → Recovers l m.size s
    by (inl q) = record { counted = l₁; resolves = r₁; catalog = c; agrees = old s q }
    by (inr o) = record {
      counted = l₂;
      resolves = r₂;
      catalog = d;
      agrees = subst (λ (y : ℕ → Contents). Agrees l₂ m.size y d) (sym o.is) (new o.old o.picks);
    }

pub stopped-recoverable : StoppedRecoverable
stopped-recoverable l c m call h = steady-recoverable (breaks l call) c m (wider-steady l (breaks l call) c m (breaks-wider l call) h)

-- a settled disk has the pick shown
settled-put : (m : Meaning) (k : ℕ) (b : Contents) (l : Ledger) (d : Catalog) → Settled m → Agrees l m.size (with_sector m.shown k b) d → (s : ℕ → Contents) → Picks m s → Agrees l m.size (with_sector s k b) d
settled-put m k b l d t a s p = agrees-below l m.size (with_sector m.shown k b) (with_sector s k b) d
    (λ n i. elim (one-or n k) [
      | inl e ↦ sector-here s k b n e ∙ sym (sector-here m.shown k b n e)
      | inr e ↦ sector-apart s k b n e ∙ (t n (s n) i (p n i) ∙ sym (sector-apart m.shown k b n e))
    ]) a

turning : (l : Ledger) (call : Call) (c d : Catalog) (m m' : Meaning) (k : ℕ) (b : Contents) → Turning l call c d m k b → Plus k b m m' → (l' l₁ l₂ : Ledger) →
    Resolves l' l₁ → Resolves l' l₂ → Wider l l₁ → Wider (counts l 0 call) l₂ → Recoverable l' m'
turning l call c d m m' k b t u l' l₁ l₂ r₁ r₂ w₁ w₂ =
    put-turns l' l₁ l₂ c d m m' k b (λ n i. (m.shown n, t.shows n i)) u r₁ r₂ (wider-steady l l₁ c m w₁ t.old)
    (λ s p. wider-agrees (counts l 0 call) l₂ m.size (with_sector s k b) d w₂ (settled-put m k b (counts l 0 call) d t.settled t.new s p))

pub turning-recoverable : TurningRecoverable
turning-recoverable l (New n) c d m m' k b t u = not-both false refl t.kind
turning-recoverable l (Old n) c d m m' k b t u = not-both false refl t.kind
turning-recoverable l (Delete n) c d m m' k b t u =
    turning l (Delete n) c d m m' k b t u _ _ _ never (first (Delete n) refl) (same l _ refl refl) (same (counts l 0 (Delete n)) _ refl refl)
turning-recoverable l (Set h p) c d m m' k b t u = not-both false refl t.kind
turning-recoverable l (Read r e) c d m m' k b t u = not-both false refl t.kind
turning-recoverable l (Write r w) c d m m' k b t u = not-both false refl t.kind
turning-recoverable l (Register h) c d m m' k b t u =
    turning l (Register h) c d m m' k b t u _ _ _ never (first (Register h) refl) (same l _ refl refl) (same (counts l 0 (Register h)) _ refl refl)
turning-recoverable l (Close h) c d m m' k b t u =
    turning l (Close h) c d m m' k b t u _ _ _ never (first (Close h) refl) (same l _ refl refl) (same (counts l 0 (Close h)) _ refl refl)
turning-recoverable l (Names rs) c d m m' k b t u = not-both false refl t.kind

-- what is shown after an accepted put and settle, on a settled disk
put-settled : (m m' m'' : Meaning) (k : ℕ) (b : Contents) (l : Ledger) (d : Catalog) → Puts m k b (Ok tt) m' → Settles m' (Ok tt) m'' →
    Agrees l m.size (with_sector m.shown k b) d → Steady l d m''
put-settled m m' m'' k b l d p q a = settled-steady l d m'' q.answer.settled
    (subst (λ (y : ℕ). Agrees l y m''.shown d) (sym (q.size ∙ p.size)) (agrees-below l m.size (with_sector m.shown k b) m''.shown d
    (λ n i. q.shows n (subst (λ (y : ℕ). n < y) (sym p.size) i) ∙ elim (one-or n k) [
      | inl e ↦ ap m'.shown e ∙ (p.answer.shown ∙ sym (sector-here m.shown k b n e))
      | inr e ↦ p.others n i e ∙ sym (sector-apart m.shown k b n e)
    ]) a))

pub turning-steady : TurningSteady
turning-steady l call c d m m' m'' k b t p q = put-settled m m' m'' k b (counts l 0 call) d p q t.new

-- FORMAT
pub empty-page : PageAt 0 empty_root (page tt [])
unfolding zeros
empty-page = (refl, refl, refl, refl, tt)

pub empty-agrees : (size : ℕ) (s : ℕ → Contents) → root_sector < size → s root_sector ≡ empty_root → Agrees blank size s empty_catalog
empty-agrees size s h e = record {
  lays = record {
    root = refl;
    good = record { rises = tt; few = omega arith; filled = (omega arith, omega arith, tt, tt) };
    names = tt;
    pages = (subst (λ (z : Contents). PageAt 0 z (page tt [])) (sym e) empty-page, (tt, tt));
    files = tt;
    once = (λ i. i, tt);
    within = λ s i. elim i [ inl z ↦ (omega arith, omega arith) | inr z ↦ absurd z ];
  };
  names = refl;
  files = tt;
}

same-counted : (l : Ledger) (c : Call) → mended (counts (wiping l) 0 c) ≡ mended (counts l 0 c)
same-counted l (New n) = refl
same-counted l (Old n) = refl
same-counted l (Delete n) = refl
same-counted l (Set h p) = refl
same-counted l (Read r b) = refl
same-counted l (Write r w) = refl
same-counted l (Register h) = refl
same-counted l (Close h) = refl
same-counted l (Names rs) = refl

wiping-resolves : (l : Ledger) {l' : Ledger} → Resolves l l' → Resolves (wiping l) l'
wiping-resolves l never = never
wiping-resolves l (first c e) = subst (λ (z : Ledger). Resolves (wiping l) z) (same-counted l c) (first c e)
wiping-resolves l (emptied e) = emptied refl

wiping-recovers : (l : Ledger) (n : ℕ) (s : ℕ → Contents) → Recovers l n s → Recovers (wiping l) n s
wiping-recovers l n s r = record { counted = r.counted; resolves = wiping-resolves l r.resolves; catalog = r.catalog; agrees = r.agrees }

pub wiping-recoverable : WipingRecoverable
wiping-recoverable l m h s p = wiping-recovers l m.size s (h s p)

pub format-recoverable : FormatRecoverable
format-recoverable l m m' b o u s p = resized (wiping l) m.size m'.size s u.size (by (one-put m m' root_sector b o.some u s p))
  where
    by : Picks m s ⊎ Over m root_sector b s → Recovers (wiping l) m.size s
    by (inl q) = wiping-recovers l m.size s (o.recovers s q)
    by (inr q) = record {
      counted = blank;
      resolves = emptied refl;
      catalog = empty_catalog;
      agrees = empty-agrees m.size s u.inside (ap (λ (z : ℕ → Contents). z root_sector) q.is ∙ o.root);
    }

pub format-steady : FormatSteady
format-steady m m' m'' p q = put-settled m m' m'' root_sector empty_root blank empty_catalog p q
    (empty-agrees m.size (with_sector m.shown root_sector empty_root) p.answer.inside refl)

-- START
pub restart-recovers : RestartRecovers
restart-recovers l m m' h r = resized l m.size m'.size m'.shown r.size (h m'.shown r.answer.picks)

refiles : (s : ℕ → Contents) (l r : Ledger) (i : ℕ) (ns : List (Entry Key)) (xs : List Extent) (found : List (List ℕ)) →
    ((j q : ℕ) → q ≡ i + j → get_or r.files q no_file ≡ get_or (refilled l ns found) j no_file) → FilesAgree s l ns xs → FilesAgree s r (renumbered i ns) xs
refiles s l r i [] [] found h a = tt
refiles s l r i [] (x ∷ xs) found h a = a
refiles s l r i (n ∷ ns) [] found h a = a
refiles s l r i (n ∷ ns) (x ∷ xs) found h a = (
  subst (λ (w : Written). FileAgrees s w x) (sym (h zero i (omega arith))) a.0,
  refiles s l r (suc i) ns xs (drop 1 found) (λ j q e. h (suc j) q (omega arith)) a.1,
)

started-agrees : (l : Ledger) (size : ℕ) (s : ℕ → Contents) (c : Catalog) (found : List (List ℕ)) → Agrees l size s c → Agrees (restarted l found) size s c
started-agrees l size s c found a = record {
  lays = a.lays;
  names = a.names ∙ sym (renumbered-names 0 l.names);
  files = refiles s l (restarted l found) 0 l.names c.files found
      (λ j q e. let z : q ≡ j = omega arith in ap (λ (y : ℕ). get_or (refilled l l.names found) y no_file) z) a.files;
}

pub started-steady : StartedSteady
started-steady l c m t a = settled-steady (restarted l (map (bytes_of m.shown) c.files)) c m t (started-agrees l m.size m.shown c _ a)
