-- Where the first entry that is not below a name stands.
use Rattle.std.proofs.Common.{◌≡◌, ℕ, suc, ◌+◌, ◌≤◌, true, false, cond, not, ltb, List, [], ◌∷◌, length, get_or, take, drop, Some, None, Ok, Err, sym, refl, subst, ◌∙◌, arith}
use Rattle.std.specs.List.{position, position_or_len}
use Rattle.std.specs.Ordering.{is_le, is_eq}
use Rattle.std.proofs.lemmas.Bool.Decides.{nat_tests}
use Rattle.std.proofs.lemmas.List.{drop_more, drop_all, take_all}
use Rattle.std.proofs.lemmas.List.Quantifiers.{position-Some}
use Rattle.numbers.specs.Names.{Key}
use Rattle.numbers.specs.Order.{Cmp, cmp, below, same, above}
use Rattle.layout.specs.declared.entry.Entry.{Entry}
use Rattle.directory.specs.Places.{reaches, OverAll, NextHas, UnderNext, Stands}

picked : (n m i : ℕ) → cond (ltb n m) (Some n) None ≡ Some i → n ≡ i
picked n m i h = grind (arith, nat_tests)

missed : (n m : ℕ) → cond (ltb n m) (Some n) None ≡ None → m ≤ n
missed n m h = grind (arith, nat_tests)

is-same : (r : Cmp) → is_eq r ≡ true → r ≡ same
is-same r h = grind arith

is-below : (r : Cmp) → is_le r ≡ true → is_eq r ≡ false → r ≡ below
is-below r h l = grind arith

module _ (k : Key) where
  -- the entries before it are below the name
  over : (es : List Entry) → OverAll k (take (position_or_len (reaches k) es) es)
  over [] = tt
  over (e ∷ es) = go (over es) (cmp k e.name.bytes) refl
    where
      go : OverAll k (take (position_or_len (reaches k) es) es) → (r : Cmp) → cmp k e.name.bytes ≡ r → OverAll k (take (cond (not (is_le r)) (1 + position_or_len (reaches k) es) 0) (e ∷ es))
      go o below h = tt
      go o same h = tt
      go o above h = let s : suc (position_or_len (reaches k) es) ≡ 1 + position_or_len (reaches k) es = omega arith in subst (λ (j : ℕ). OverAll k (take j (e ∷ es))) s (h, o)

  module _ (es : List Entry) where
    module _ (i : ℕ) (d : Entry) (first : position (reaches k) es ≡ Some i) where
      front : OverAll k (take i es)
      front = subst (λ (j : ℕ). OverAll k (take j es)) (picked (position_or_len (reaches k) es) (length es) i first) (over es)

      next : drop i es ≡ get_or es i d ∷ drop (i + 1) es
      next = drop_more es i d (position-Some (reaches k) es i d first).0

      pub stands_at : is_eq (cmp k (get_or es i d).name.bytes) ≡ true → Stands k es (Ok i)
      stands_at e = (front, subst (NextHas k) (sym next) (is-same _ e))

      pub stands-before : is_eq (cmp k (get_or es i d).name.bytes) ≡ false → Stands k es (Err i)
      stands-before e =
          let f = position-Some (reaches k) es i d first in
          (omega (arith, f.0), front, subst (UnderNext k) (sym next) (is-below _ f.1 e))

    pub stands-behind : position (reaches k) es ≡ None → Stands k es (Err (length es))
    stands-behind h =
        let n = position_or_len (reaches k) es in
        let l = missed n (length es) h in
        (omega arith, subst (OverAll k) (take_all n es l ∙ sym (take_all (length es) es (omega arith))) (over es), subst (UnderNext k) (sym (drop_all (length es) es (omega arith))) tt)
