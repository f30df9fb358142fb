-- The ledger after an accepted Start.
use Rattle.std.proofs.Common.{◌≡◌, ℕ, zero, suc, ◌+◌, ◌<◌, List, [], ◌∷◌, map, length, get_or, drop, refl, ap, ◌∙◌, arith}
use Rattle.numbers.specs.Names.{Key}
use Rattle.tree.specs.Tree.{Entry}
use Rattle.promise.specs.Ledger.{Written, no_file, Ledger, file_by, renumbered, refilled}
use Rattle.promise.specs.Promise.{name_of}
use Rattle.promise.specs.Laws.{RestartForgets}

pub renumbered-names : (i : ℕ) (es : List (Entry Key)) → map name_of (renumbered i es) ≡ map name_of es
renumbered-names i [] = refl
renumbered-names i (e ∷ es) = ap (λ (l : List Key). e.0 ∷ l) (renumbered-names (suc i) es)

pub refilled-long : (l : Ledger) (es : List (Entry Key)) (found : List (List ℕ)) → length (refilled l es found) ≡ length es
refilled-long l [] found = refl
refilled-long l (e ∷ es) found = ap suc (refilled-long l es (drop 1 found))

renumbered_at : (k : ℕ) (es : List (Entry Key)) (i : ℕ) (d : Entry Key) → i < length es → (get_or (renumbered k es) i d).1 ≡ k + i
renumbered_at k [] i d h = absurd (omega arith)
renumbered_at k (e ∷ es) zero d h = omega arith
renumbered_at k (e ∷ es) (suc i) d h = renumbered_at (suc k) es i d (omega arith) ∙ omega arith

pub refilled_at : (l : Ledger) (es : List (Entry Key)) (found : List (List ℕ)) (i : ℕ) (d : Entry Key) → i < length es →
    get_or (refilled l es found) i no_file ≡ record { bytes = get_or found i []; closed = (file_by l (get_or es i d)).closed; possible = (file_by l (get_or es i d)).possible }
refilled_at l [] found i d h = absurd (omega arith)
refilled_at l (e ∷ es) found zero d h = refl
refilled_at l (e ∷ es) [] (suc i) d h = refilled_at l es [] i d (omega arith)
refilled_at l (e ∷ es) (x ∷ found) (suc i) d h = refilled_at l es found i d (omega arith)

pub restart-forgets : RestartForgets
restart-forgets l found = record {
  names = renumbered-names 0 l.names;
  files = refilled-long l l.names found;
  slots = refl;
  number = λ i d h. renumbered_at 0 l.names i d h ∙ omega arith;
  closed = λ i d h. ap (λ (w : Written). w.closed) (refilled_at l l.names found i d h);
  possible = λ i d h. ap (λ (w : Written). w.possible) (refilled_at l l.names found i d h);
  bytes = λ i h. ap (λ (w : Written). w.bytes) (refilled_at l l.names found i ([], 0) h);
}
