-- Kept sectors, as a list of rows.
use Rattle.std.proofs.Common.{◌≡◌, ℕ, ◌+◌, ◌-◌, ◌<◌, ◌≤◌, Bool, false, cond, eqb, List, [], ◌∷◌, ◌++◌, length, get_or, take, set, is_some, Some, None, Option, option_map, position, sym, refl, ap, ◌∙◌, subst, ⊎_elim, arith, length-append, length-set, length-take}
use Rattle.std.specs.List.{find, slice_get, position_or_len}
use Rattle.std.specs.Option.{option_or}
use Rattle.std.proofs.lemmas.Bool.{eq-eqb, ne_eqb, eqb-true, cases_eq, both_ways}
use Rattle.std.proofs.lemmas.Grind.{common_steps}
use Rattle.std.proofs.lemmas.List.{take_more, take_all, get_or-take, get_or-set_same, get_or-set_other}
use Rattle.std.proofs.lemmas.List.Elements.{All-push, All-set}
use Rattle.std.proofs.lemmas.List.Folds.{find_at, find-set, find_past, find-append}
use Rattle.std.proofs.lemmas.List.Quantifiers.{all_pairs_push, position-Some}
use Rattle.std.proofs.lemmas.List.Sums.{position_or_len_is, fails_before_first}
use Rattle.std.proofs.lemmas.Option.{slice_get-get_or, slice_get_past, slice_get_within, get_or_from_slice_get, same_Some}
use Rattle.layers.specs.declared.kept.Kept.{Kept}
use Rattle.disk.specs.Meaning.{Contents, Whole, Meaning, Sound}
use Rattle.layers.specs.declared.table.Table.{Table}
use Rattle.layers.specs.Rows.{at, Tidy, With, Without}
use Rattle.layers.specs.Holding.{held}
use Rattle.layers.proofs.Holds.{AllWhole, sound-held}

-- a row of sector n
abbrev pub is_of : ℕ → Kept → Bool
is_of n k = eqb k.sector n

module _ (s : List Kept) (n : ℕ) where
  -- the first row of a sector
  pub at-first : (i : ℕ) (d : Kept) → i < length s → (get_or s i d).sector ≡ n → ((k : ℕ) → k < i → is_of n (get_or s k d) ≡ false) → at s n ≡ Some (get_or s i d).bytes
  at-first i d lt here before =
      let p = position_or_len_is (is_of n) s i d (omega arith) before (λ _. eq-eqb _ n here) in
      ap (option_map (λ k. k.bytes)) (find_at (is_of n) s ∙ (ap (slice_get s) p ∙ slice_get-get_or s i d lt))

  pub at-position : (i : ℕ) (d : Kept) → position (is_of n) s ≡ Some i → at s n ≡ Some (get_or s i d).bytes
  at-position i d e = let p = position-Some (is_of n) s i d e in at-first i d p.0 (eqb-true _ n p.1) p.2

  at-past : length s ≤ position_or_len (is_of n) s → at s n ≡ None
  at-past le = ap (option_map (λ k. k.bytes)) (find_at (is_of n) s ∙ slice_get_past s _ le)

  past : position (is_of n) s ≡ None → length s ≤ position_or_len (is_of n) s
  past e = grind (arith, common_steps)

  pub at-none : position (is_of n) s ≡ None → at s n ≡ None
  at-none e = at-past (past e)

  -- no row of that sector
  pub differs : position (is_of n) s ≡ None → (k : ℕ) (d : Kept) → k < length s → (get_or s k d).sector ≡ n → ⊥
  differs e k d lt is =
      let far = past e in
      both_ways _ (fails_before_first (is_of n) s k d (omega arith)) (eq-eqb _ n is)

  pub missing : ((k : ℕ) (d : Kept) → k < length s → (get_or s k d).sector ≡ n → ⊥) → at s n ≡ None
  missing off =
      let d : Kept = record { sector = 0; bytes = [] } in
      let p = position_or_len_is (is_of n) s (length s) d (omega arith) (λ k lt. ne_eqb _ n (off k d lt)) (λ lt. absurd (omega arith)) in
      at-past (omega arith)

  whole : Tidy s → (c : Contents) → at s n ≡ Some c → Whole c
  whole t c e = from (slice_get s (position_or_len (is_of n) s)) refl (sym (ap (option_map (λ (k : Kept). k.bytes)) (find_at (is_of n) s)) ∙ e)
    where
      from : (o : Option Kept) → slice_get s (position_or_len (is_of n) s) ≡ o → option_map (λ (k : Kept). k.bytes) o ≡ Some c → Whole c
      from None is f = cc
      from (Some y) is f =
          let lt = slice_get_within s _ y is in
          let same = get_or_from_slice_get s _ y y is in
          let bytes : (get_or s (position_or_len (is_of n) s) y).bytes ≡ c = ap (λ (k : Kept). k.bytes) same ∙ same_Some _ _ f in
          subst Whole bytes (t.whole _ y lt)

or-none : {X : Type 0} (o : Option X) → option_or o None ≡ o
or-none (Some x) = refl
or-none None = refl

-- a row that is not of sector k adds nothing there
pub passed : (s : List Kept) (v : Kept) (k : ℕ) → (v.sector ≡ k → ⊥) → at (s ++ v ∷ []) k ≡ at s k
passed s v k ne =
    ap (option_map (λ k. k.bytes)) (find-append (is_of k) s (v ∷ []) ∙ (ap (λ b. option_or (find (is_of k) s) (cond b (Some v) None)) (ne_eqb v.sector k ne) ∙ or-none (find (is_of k) s)))

appended : (s : List Kept) (v : Kept) (n : ℕ) → at s n ≡ None → v.sector ≡ n → at (s ++ v ∷ []) n ≡ Some v.bytes
appended s v n off ev = let a = find-append (is_of n) s (v ∷ []) in let b = eq-eqb v.sector n ev in from (find (is_of n) s) off (a ∙ ap (λ t. option_or (find (is_of n) s) (cond t (Some v) None)) b)
  where
    from : (o : Option Kept) → option_map (λ (k : Kept). k.bytes) o ≡ None → find (is_of n) (s ++ v ∷ []) ≡ option_or o (Some v) → at (s ++ v ∷ []) n ≡ Some v.bytes
    from None e f = ap (option_map (λ (k : Kept). k.bytes)) f
    from (Some y) e f = cc

-- one row for another of its sector
module _ (s : List Kept) (n i : ℕ) (v : Kept) (e : position (is_of n) s ≡ Some i) (ev : v.sector ≡ n) where
  pub tidy-put : Whole v.bytes → Tidy s → Tidy (set s i v)
  tidy-put full t = record {
    once = λ a b d lt within is. t.once a b d lt (let l = length-set s i v in omega arith) (sym (same a d) ∙ (is ∙ same b d));
    whole = All-set (λ (k : Kept). Whole k.bytes) s i v full t.whole;
  }
    where
      same : (j : ℕ) (d : Kept) → (get_or (set s i v) j d).sector ≡ (get_or s j d).sector
      same j d =
          let p = position-Some (is_of n) s i d e in
          ⊎_elim
          (λ (is : j ≡ i). rw is (ap (λ (k : Kept). k.sector) (get_or-set_same s i v d p.0) ∙ (ev ∙ sym (eqb-true _ n p.1))))
          (λ ne. ap (λ (k : Kept). k.sector) (get_or-set_other s i j v d ne))
          (cases_eq j i)

  pub with-put : With s n v.bytes (set s i v)
  with-put = record {
    kept = λ k.
        let p = position-Some (is_of n) s i v e in
        let first = position_or_len_is (is_of n) s i v (omega arith) p.2 (λ _. p.1) in
        ⊎_elim
        (λ (is : n ≡ k). rw (eq-eqb n k is) (subst (λ m. at (set s i v) m ≡ Some v.bytes) is (ap (option_map (λ (k : Kept). k.bytes)) (find-set (is_of n) s i v (sym first) p.0 (eq-eqb _ n ev)))))
        (λ ne. rw (ne_eqb n k ne) (ap (option_map (λ (k : Kept). k.bytes)) (find_past (is_of k) s i v v (ne_eqb _ k (λ f. ne (sym (eqb-true _ n p.1) ∙ f))) (ne_eqb _ k (λ f. ne (sym ev ∙ f))))))
        (cases_eq n k);
    count = length-set s i v ∙ sym (ap (λ o. cond (is_some o) (length s) (length s + 1)) (at-position s n i v e));
  }

-- one row more
module _ (s : List Kept) (n : ℕ) (v : Kept) (e : position (is_of n) s ≡ None) (ev : v.sector ≡ n) where
  pub tidy-push : Whole v.bytes → Tidy s → Tidy (s ++ v ∷ [])
  tidy-push full t = record {
    once = all_pairs_push (λ (a : Kept) (b : Kept). a.sector ≡ b.sector → ⊥) s v t.once (λ k d lt is. differs s n e k d lt (is ∙ ev));
    whole = All-push (λ (k : Kept). Whole k.bytes) s v t.whole full;
  }

  pub with-push : With s n v.bytes (s ++ v ∷ [])
  with-push = record {
    kept = λ k.
        ⊎_elim
        (λ (is : n ≡ k). rw (eq-eqb n k is) (subst (λ m. at (s ++ v ∷ []) m ≡ Some v.bytes) is (appended s v n (at-none s n e) ev)))
        (λ ne. rw (ne_eqb n k ne) (passed s v k (λ f. ne (sym ev ∙ f))))
        (cases_eq n k);
    count = length-append s (v ∷ []) ∙ sym (ap (λ o. cond (is_some o) (length s) (length s + 1)) (at-none s n e));
  }

-- each kept sector is whole
pub all_whole : (s : List Kept) → Tidy s → AllWhole (at s)
all_whole s t n c e = whole s n t c e

pub sound-table : (t : Table) (m : Meaning) → Sound m → Sound (held (at t.rows.items) m)
sound-table t m s = sound-held _ m (all_whole t.rows.items t.tidy) s

-- a table without its last row y
pub record Popped (s : List Kept) (y : Kept) (s' : List Kept) : Type 0 where
  pub kept : at s y.sector ≡ Some y.bytes
  pub without : Without s y.sector s'
  pub fewer : length s' < length s

module _ (s : List Kept) (y : Kept) (t : Tidy s) (last : Some y ≡ slice_get s (length s - 1)) where
  within : length s - 1 < length s
  within = slice_get_within s _ y (sym last)

  here : get_or s (length s - 1) y ≡ y
  here = get_or_from_slice_get s _ y y (sym last)

  pub kept-last : at s y.sector ≡ Some y.bytes
  kept-last =
      at-first s y.sector (length s - 1) y within (ap (λ (k : Kept). k.sector) here)
      (λ k lt. ne_eqb _ _ (λ e. t.once k (length s - 1) y lt within (e ∙ sym (ap (λ (k : Kept). k.sector) here))))
      ∙ ap (λ (k : Kept). Some k.bytes) here

  popped : Popped s y (take (length s - 1) s)
  popped =
      let lt = within in
      let front = take (length s - 1) s in
      let split : s ≡ front ++ y ∷ [] = sym (take_all _ s (omega arith)) ∙ (take_more s (length s - 1) y lt ∙ ap (λ k. front ++ k ∷ []) here) in
      let short : length front ≡ length s - 1 = simp length-take (omega arith) in
      record {
        kept = kept-last;
        without = record {
          gone = missing front y.sector (λ k d below is. t.once k (length s - 1) d (omega arith) lt (sym (ap (λ (r : Kept). r.sector) (get_or-take (length s - 1) s k d (omega arith))) ∙ (is ∙ ap (λ (r : Kept). r.sector) (sym (get_or_from_slice_get s _ y d (sym last))))));
          others = λ k ne. sym (ap (λ l. at l k) split ∙ passed front y k (λ e. ne (sym e)));
          count = omega arith;
        };
        fewer = omega arith;
      }

  pub popped-row : {s' : List Kept} → s' ≡ take (length s - 1) s → Popped s y s'
  popped-row is = subst (Popped s y) (sym is) popped
