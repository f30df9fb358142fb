-- The places of a page in memory: what stands in them after an entry is put in, taken out or replaced.
use Rattle.std.proofs.Common.{◌≡◌, ℕ, suc, ◌+◌, ◌-◌, ◌<◌, ◌≤◌, List, [], ◌∷◌, ◌++◌, length, get_or, take, drop, set, replicate, sym, ap, ◌∙◌, ap₂, append_assoc, arith}
use lib.Seq.{paste, take-set-lt}
use Rattle.std.specs.List.{insert, remove}
use Rattle.std.proofs.lemmas.List.{length-take-le, length-drop, take-take, take_more, set_at, drop-take, drop-drop, drop-set, drop-set-lt, drop-replicate}
use Rattle.std.proofs.lemmas.List.Edits.{take-paste, drop-paste, length-paste}

module _ {X : Type 0} (x : X) where
  -- a place is used
  pub place-used : (xs : List X) (n i : ℕ) (e : X) → i ≤ n → n < 25 → drop n xs ≡ replicate (25 - n) x → drop (n + 1) (set xs i e) ≡ replicate (25 - (n + 1)) x
  place-used xs n i e l m h =
      drop-set-lt (n + 1) xs i e (omega arith) ∙ sym (drop-drop 1 n xs) ∙ ap (drop 1) h ∙ drop-replicate 1 (25 - n) x ∙ ap (λ (k : ℕ). replicate k x) (omega arith)

  -- the last place used, place i, comes free
  pub place-freed : (xs : List X) (n i : ℕ) → n ≡ i + 1 → n ≤ 25 → length xs ≡ 25 → drop n xs ≡ replicate (25 - n) x → drop i (set xs i x) ≡ replicate (25 - i) x
  place-freed xs n i e m k h =
      let t : suc (25 - n) ≡ 25 - i = omega arith in
      drop-set xs i x (omega arith) ∙ ap (λ (j : ℕ). x ∷ drop j xs) (sym e) ∙ ap (λ (r : List X). x ∷ r) h ∙ ap (λ (j : ℕ). replicate j x) t

  -- the places from c on are used, n of them
  pub places-used : (xs zs : List X) (c n : ℕ) → c + n ≤ 25 → length xs ≡ 25 → n ≡ length zs → drop c xs ≡ replicate (25 - c) x →
      (length (paste xs c zs n) ≡ 25) × (drop (c + n) (paste xs c zs n) ≡ replicate (25 - (c + n)) x)
  places-used xs zs c n l k e h = (
    length-paste xs c zs n (omega arith) (omega arith) ∙ k,
    drop-paste xs c zs n (omega arith) (omega arith) ∙ sym (drop-drop n c xs) ∙ ap (drop n) h ∙ drop-replicate n (25 - c) x ∙ ap (λ (j : ℕ). replicate j x) (omega arith),
  )

module _ {X : Type 0} (es : List X) (n i : ℕ) where
  -- what stands behind the first i of n rows
  behind : i ≤ n → take (n - i) (drop i es) ≡ drop i (take n es)
  behind l = let e : i + (n - i) ≡ n = omega arith in sym (drop-take i (n - i) es) ∙ ap (λ (k : ℕ). drop i (take k es)) e

  -- entries i to n - 1 are moved up, and place i is written
  pub put_in : (t : List X) (e d : X) → i ≤ n → n < length es → t ≡ paste es (i + 1) (drop i es) (n - i) → take (n + 1) (set t i e) ≡ insert (take n es) i e
  put_in t e d l m h =
      let k : n + 1 ≡ i + 1 + (n - i) = omega arith in
      let f : take (n + 1) t ≡ take i es ++ get_or es i d ∷ take (n - i) (drop i es) =
      ap₂ take k h ∙ take-paste es (i + 1) (drop i es) (n - i) (omega arith) (omega (arith, length-drop i es)) ∙ ap (λ (xs : List X). xs ++ take (n - i) (drop i es)) (take_more es i d (omega arith))
      ∙ append_assoc (take i es) (get_or es i d ∷ []) (take (n - i) (drop i es)) in
      take-set-lt (n + 1) t i e (omega arith) ∙ ap (λ (xs : List X). set xs i e) f ∙ set_at (take i es) _ _ e i (length-take-le i es (omega arith))
      ∙ ap₂ (λ (xs ys : List X). xs ++ e ∷ ys) (sym (take-take i n es l)) (behind l)

  put_in-behind : (t : List X) → i ≤ n → n < length es → t ≡ paste es (i + 1) (drop i es) (n - i) → drop (n + 1) t ≡ drop (n + 1) es
  put_in-behind t l m h =
      let k : n + 1 ≡ i + 1 + (n - i) = omega arith in
      ap₂ drop k h ∙ drop-paste es (i + 1) (drop i es) (n - i) (omega arith) (omega (arith, length-drop i es)) ∙ ap (λ (j : ℕ). drop j es) (sym k)

  -- entries i + 1 to n - 1 are moved down
  pub take_out : (t : List X) → i < n → n ≤ length es → t ≡ paste es i (drop (i + 1) es) (n - (i + 1)) → take (n - 1) t ≡ remove (take n es) i
  take_out t l m h =
      let k : n - 1 ≡ i + (n - (i + 1)) = omega arith in
      let s : i + 1 ≡ suc i = omega arith in
      let f : i + 1 + (n - (i + 1)) ≡ n = omega arith in
      ap₂ take k h ∙ take-paste es i (drop (i + 1) es) (n - (i + 1)) (omega arith) (omega (arith, length-drop (i + 1) es))
      ∙ ap₂ ◌++◌ (sym (take-take i n es (omega arith))) (sym (drop-take (i + 1) (n - (i + 1)) es) ∙ ap₂ (λ (a b : ℕ). drop a (take b es)) s f)

  pub take_out-behind : (t : List X) → i < n → n ≤ length es → t ≡ paste es i (drop (i + 1) es) (n - (i + 1)) → drop n t ≡ drop n es
  take_out-behind t l m h =
      let k : n - 1 ≡ i + (n - (i + 1)) = omega arith in
      let s : n - 1 + 1 ≡ n = omega arith in
      let f : drop (n - 1) t ≡ drop (n - 1) es = ap₂ drop k h ∙ drop-paste es i (drop (i + 1) es) (n - (i + 1)) (omega arith) (omega (arith, length-drop (i + 1) es)) ∙ ap (λ (j : ℕ). drop j es) (sym k) in
      ap (λ (j : ℕ). drop j t) (sym s) ∙ sym (drop-drop 1 (n - 1) t) ∙ ap (drop 1) f ∙ drop-drop 1 (n - 1) es ∙ ap (λ (j : ℕ). drop j es) s

-- entries i to n - 1 are moved up
pub more-used : {X : Type 0} (x : X) (xs t : List X) (n i : ℕ) → i ≤ n → n < 25 → length xs ≡ 25 → t ≡ paste xs (i + 1) (drop i xs) (n - i) → drop n xs ≡ replicate (25 - n) x →
    drop (n + 1) t ≡ replicate (25 - (n + 1)) x
more-used x xs t n i l m k p h =
    put_in-behind xs n i t l (omega arith) p ∙ sym (drop-drop 1 n xs) ∙ ap (drop 1) h ∙ drop-replicate 1 (25 - n) x ∙ ap (λ (j : ℕ). replicate j x) (omega arith)
