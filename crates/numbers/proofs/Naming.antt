-- Names and the fields that hold them.
use Rattle.std.proofs.Common.{◌≡◌, ℕ, zero, suc, ◌+◌, ◌-◌, ◌≤◌, true, false, ◌&&◌, leb, eqb, Some, None, List, [], ◌∷◌, ◌++◌, length, get_or, take, drop, replicate, sym, refl, ap, ◌∙◌, ap₂, arith}
use Rattle.std.specs.Str.{bytes_eq}
use Rattle.std.proofs.lemmas.Slice.Eq.{bytes_eq-Decides}
use Rattle.std.specs.List.{position, position_or_len}
use Rattle.std.proofs.Math.Bool.{and-true}
use Rattle.std.proofs.lemmas.List.{take_all, drop-replicate}
use Rattle.std.proofs.lemmas.Grind.{common_steps}
use Rattle.std.proofs.lemmas.Bool.Decides.{nat_tests}
use Rattle.std.proofs.lemmas.Bool.{and_parts, and_from, le-leb, ne_eqb}
use Rattle.numbers.specs.Names.{Key, longest_name, name_size, letter, letter_digit_dot, every, good_name, name_field, name_in, is_name_field, NameFields}

-- GOOD NAMES
-- once the first byte and the length are as they should be, the others decide
pub good-by-rest : (s : List ℕ) → 1 ≤ length s → letter (get_or s 0 0) ≡ true → length s ≤ longest_name → every letter_digit_dot (drop 1 s) ≡ good_name s
good-by-rest [] l a h = absurd (omega arith)
good-by-rest (b ∷ bs) l a h = rw (a, le-leb (length (b ∷ bs)) longest_name h, and-true)

pub good_length : (k : Key) → good_name k ≡ true → length k ≤ longest_name
good_length [] h = omega arith
good_length (b ∷ bs) h = grind (arith, nat_tests)

-- FIELDS
pub name-front : (f : List ℕ) → take (length (name_in f)) f ≡ name_in f
name-front [] = refl
name-front (zero ∷ bs) = refl
name-front (suc b ∷ bs) = ap (λ (t : List ℕ). suc b ∷ t) (name-front bs)

front-before : (f : List ℕ) → take (position_or_len (λ b. eqb b 0) f) f ≡ name_in f
front-before [] = refl
front-before (zero ∷ bs) = refl
front-before (suc b ∷ bs) =
    let n = position_or_len (λ b. eqb b 0) bs in
    let e : eqb (suc b) 0 ≡ false = ne_eqb (suc b) 0 (omega arith) in
    let s : 1 + n ≡ suc n = omega arith in
    rw (e, s) (ap (λ (t : List ℕ). suc b ∷ t) (front-before bs))

pub front-found : (f : List ℕ) (n : ℕ) → position (λ b. eqb b 0) f ≡ Some n → take n f ≡ name_in f
front-found f n e = let p : n ≡ position_or_len (λ b. eqb b 0) f = grind (arith, common_steps) in ap (λ (k : ℕ). take k f) p ∙ front-before f

pub front-whole : (f : List ℕ) → position (λ b. eqb b 0) f ≡ None → f ≡ name_in f
front-whole f e = sym (take_all (position_or_len (λ b. eqb b 0) f) f (grind (arith, common_steps))) ∙ front-before f

-- a text put at the front of zeros
pub zero-filled : (t ys : List ℕ) → ys ≡ t → ys ++ drop (length t) (replicate name_size 0) ≡ name_field t
zero-filled t ys e = ap₂ ◌++◌ e (drop-replicate (length t) name_size 0)

back-again : (xs : List ℕ) (m : ℕ) → every letter_digit_dot xs ≡ true → name_in (xs ++ replicate m 0) ≡ xs
back-again [] zero h = refl
back-again [] (suc m) h = refl
back-again (zero ∷ xs) m h = cc
back-again (suc x ∷ xs) m h = ap (λ (l : List ℕ). suc x ∷ l) (back-again xs m (and_parts (letter_digit_dot (suc x)) (every letter_digit_dot xs) h).1)

-- each byte of a good name is a letter, a digit or a dot, so none is 0
pub good-every : (k : Key) → good_name k ≡ true → every letter_digit_dot k ≡ true
good-every [] h = refl
good-every (b ∷ bs) h =
    let p = and_parts (letter b) (every letter_digit_dot bs && leb (length (b ∷ bs)) longest_name) h in
    let q = and_parts (every letter_digit_dot bs) (leb (length (b ∷ bs)) longest_name) p.1 in
    and_from (letter_digit_dot b) (every letter_digit_dot bs) (rw p.0) q.0

pub found : (k : Key) → good_name k ≡ true → name_in (name_field k) ≡ k
found k h = back-again k (name_size - length k) (good-every k h)

pub sized : (k : Key) → good_name k ≡ true → length (name_field k) ≡ name_size
sized k h = grind (arith, common_steps, good_length k h)

pub formed : (k : Key) → good_name k ≡ true → is_name_field (name_field k) ≡ true
formed k h =
    and_from (good_name (name_in (name_field k))) _ (ap good_name (found k h) ∙ h)
    ((bytes_eq-Decides (name_field (name_in (name_field k))) (name_field k)).1 (ap name_field (found k h)))

pub only : (f : List ℕ) → is_name_field f ≡ true → (good_name (name_in f) ≡ true) × (name_field (name_in f) ≡ f)
only f h =
    let p = and_parts (good_name (name_in f)) (bytes_eq (name_field (name_in f)) f) h in
    (p.0, (bytes_eq-Decides (name_field (name_in f)) f).0 p.1)

pub name-fields : NameFields
name-fields = record { found = found; sized = sized; formed = formed; only = only }
