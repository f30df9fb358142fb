-- Calls that take nothing from the ledger.
use Rattle.std.proofs.Common.{◌≡◌, ℕ, zero, suc, Bool, true, false, cond, List, [], ◌∷◌, ◌++◌, length, get_or, set, sym, refl, ap, subst, inr, arith}
use Rattle.std.proofs.lemmas.List.{get_or-set_other}
use Rattle.disk.specs.Meaning.{In}
use Rattle.promise.specs.Faults.{is_three}
use Rattle.promise.specs.Table.{Call, Rider, New, Old, Delete, Set, Read, Write, Register, Close, Names, written}
use Rattle.promise.specs.Ledger.{Written, no_file, Ledger, file_by, slot_of, file_of, from, carried, closing, counts, breaks, Fate, counted, turned_away, broken_off, fate, followed}
use Rattle.recovery.specs.Wider.{Grows, Wider, BreaksWider, CountsWider, CloseWider, FollowWider, RefusedWider}
use Rattle.recovery.proofs.Agreement.{grows}

pub carried-long : (p : ℕ) (w : List ℕ) (ps : List (List ℕ)) → length (carried p w ps) ≡ length ps
carried-long zero [] [] = refl
carried-long zero (b ∷ w) [] = refl
carried-long (suc p) w [] = refl
carried-long zero [] (x ∷ ps) = refl
carried-long zero (b ∷ w) (x ∷ ps) = ap suc (carried-long zero w ps)
carried-long (suc p) w (x ∷ ps) = ap suc (carried-long p w ps)

carried_keeps : (p : ℕ) (w : List ℕ) (ps : List (List ℕ)) (q b : ℕ) → In b (get_or ps q []) → In b (get_or (carried p w ps) q [])
carried_keeps zero [] [] q b i = i
carried_keeps zero (c ∷ w) [] q b i = i
carried_keeps (suc p) w [] q b i = i
carried_keeps zero [] (x ∷ ps) q b i = i
carried_keeps zero (c ∷ w) (x ∷ ps) zero b i = inr i
carried_keeps zero (c ∷ w) (x ∷ ps) (suc q) b i = carried_keeps zero w ps q b i
carried_keeps (suc p) w (x ∷ ps) zero b i = i
carried_keeps (suc p) w (x ∷ ps) (suc q) b i = carried_keeps p w ps q b i

-- a file put in the place of one
grows_set : (fs : List Written) (n i : ℕ) (w : Written) → Grows (get_or fs n no_file) w → Grows (get_or fs i no_file) (get_or (set fs n w) i no_file)
grows_set [] n i w g = grows no_file
grows_set (f ∷ fs) zero zero w g = g
grows_set (f ∷ fs) zero (suc i) w g = grows (get_or fs i no_file)
grows_set (f ∷ fs) (suc n) zero w g = grows f
grows_set (f ∷ fs) (suc n) (suc i) w g = grows_set fs n i w g

grows-push : (fs : List Written) (i : ℕ) → Grows (get_or fs i no_file) (get_or (fs ++ (no_file ∷ [])) i no_file)
grows-push [] zero = grows no_file
grows-push [] (suc i) = grows no_file
grows-push (f ∷ fs) zero = grows f
grows-push (f ∷ fs) (suc i) = grows-push fs i

pub same : (l l' : Ledger) → l'.names ≡ l.names → l'.files ≡ l.files → Wider l l'
same l l' e f = record { names = e; files = λ n i. subst (λ (z : List Written). Grows (file_by l n) (get_or z n.1 no_file)) (sym f) (grows (file_by l n)) }

writes : (l : Ledger) (r : Rider) (w b : List ℕ) → Grows (file_of l r.slot) (record { bytes = b; closed = (file_of l r.slot).closed; possible = carried (from l r) w (file_of l r.slot).possible })
writes l r w b = record {
  closed = refl;
  long = carried-long (from l r) w (file_of l r.slot).possible;
  possible = carried_keeps (from l r) w (file_of l r.slot).possible;
}

pub breaks-wider : BreaksWider
breaks-wider l (New n) = same l l refl refl
breaks-wider l (Old n) = same l l refl refl
breaks-wider l (Delete n) = same l (breaks l (Delete n)) refl refl
breaks-wider l (Set h p) = same l l refl refl
breaks-wider l (Read r b) = same l l refl refl
breaks-wider l (Write r w) = record { names = refl; files = λ e i. grows_set l.files (slot_of l r.slot).file e.1 _ (writes l r w (file_of l r.slot).bytes) }
breaks-wider l (Register h) = same l (breaks l (Register h)) refl refl
breaks-wider l (Close h) = same l (breaks l (Close h)) refl refl
breaks-wider l (Names rs) = same l l refl refl

pub not-both : {A : Type 0} (b : Bool) → b ≡ false → b ≡ true → A
not-both b e f = let z : ◌≡◌ {A = ℕ} 0 1 = cc in absurd (omega arith)

pub counts-wider : CountsWider
counts-wider l s (New n) t = record { names = refl; files = λ e i. grows-push l.files e.1 }
counts-wider l s (Old n) t = same l (counts l s (Old n)) refl refl
counts-wider l s (Delete n) t = not-both true t refl
counts-wider l s (Set h p) t = same l l refl refl
counts-wider l s (Read r b) t = same l l refl refl
counts-wider l s (Write r w) t = record { names = refl; files = λ e i. grows_set l.files (slot_of l r.slot).file e.1 _ (writes l r w (written (from l r) w (file_of l r.slot).bytes)) }
counts-wider l s (Register h) t = not-both true t refl
counts-wider l s (Close h) t = not-both true t refl
counts-wider l s (Names rs) t = same l l refl refl

pub close-wider : CloseWider
close-wider l s h n = record {
  names = refl;
  files = λ e i. subst (λ (z : Written). Grows (file_by l e) z) (sym (get_or-set_other l.files (slot_of l h).file e.1 (closing (file_of l h)) no_file (n e i))) (grows (file_by l e));
}

-- whatever the answer is to the ledger
followed-wider : (l : Ledger) (c : Call) (f : Fate) → ((s : ℕ) → Wider l (counts l s c)) → Wider l (followed l c f)
followed-wider l c (counted s) g = g s
followed-wider l c turned_away g = same l l refl refl
followed-wider l c broken_off g = breaks-wider l c

pub follow-wider : FollowWider
follow-wider l c a e = followed-wider l c (fate a) (λ s. counts-wider l s c e)

pub refused-wider : RefusedWider
refused-wider l c r = go (is_three r)
  where
    go : (v : Bool) → Wider l (followed l c (cond v broken_off turned_away))
    go true = breaks-wider l c
    go false = same l l refl refl
