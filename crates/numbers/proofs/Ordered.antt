-- The order of names.
use Rattle.std.proofs.Common.{◌≡◌, ℕ, zero, suc, ◌+◌, ◌-◌, ◌<◌, true, List, [], ◌∷◌, ◌++◌, length, replicate, sym, refl, ap, ◌∙◌, subst, ap₂, arith}
use Rattle.std.proofs.lemmas.Bool.{and_parts}
use Rattle.std.proofs.lemmas.Cmp.{ranked, by_ranked, nat_cmp_total, nat_list_cmp_total}
use Rattle.std.proofs.lemmas.Map.Lookups.{exact_bytes}
use Rattle.std.specs.Ordering.{nat_cmp, ordering_reverse}
use Rattle.std.specs.Cmp.Lexicographic.{slice_cmp}
use Rattle.numbers.specs.Names.{Key, name_size, letter_digit_dot, every, good_name, name_field}
use Rattle.numbers.specs.Order.{Cmp, below, same, above, turn, then, cmpℕ, cmp, IsOrder, NameOrder}
use Rattle.numbers.proofs.Naming.{good-every, good_length}

-- BYTES
pub turnℕ : (m n : ℕ) → cmpℕ n m ≡ turn (cmpℕ m n)
turnℕ zero zero = refl
turnℕ zero (suc n) = refl
turnℕ (suc m) zero = refl
turnℕ (suc m) (suc n) = turnℕ m n

pub sameℕ : (m n : ℕ) → cmpℕ m n ≡ same → m ≡ n
sameℕ zero zero e = refl
sameℕ zero (suc n) e = cc
sameℕ (suc m) zero e = cc
sameℕ (suc m) (suc n) e = ap suc (sameℕ m n e)

itselfℕ : (n : ℕ) → cmpℕ n n ≡ same
itselfℕ zero = refl
itselfℕ (suc n) = itselfℕ n

pub lessℕ : (m n : ℕ) → m < n → cmpℕ m n ≡ below
lessℕ zero zero h = absurd (omega arith)
lessℕ zero (suc n) h = refl
lessℕ (suc m) zero h = absurd (omega arith)
lessℕ (suc m) (suc n) h = lessℕ m n (omega arith)

moreℕ : (m n : ℕ) → n < m → cmpℕ m n ≡ above
moreℕ m n h = turnℕ n m ∙ ap turn (lessℕ n m h)

-- NAMES
-- as the library compares bytes
byte-cmp : (x y : ℕ) → nat_cmp x y ≡ cmpℕ x y
byte-cmp x y =
    by_ranked (x < y) (x ≡ y) (y < x) (nat_cmp x y) (ranked x y (nat_cmp x y) refl) (λ e h. e ∙ sym (lessℕ x y h))
    (λ e h. e ∙ sym (subst (λ (n : ℕ). cmpℕ x n ≡ same) h (itselfℕ x))) (λ e h. e ∙ sym (moreℕ x y h))

pub transℕ : (a b c : ℕ) → cmpℕ a b ≡ below → cmpℕ b c ≡ below → cmpℕ a c ≡ below
transℕ a b c e f = sym (byte-cmp a c) ∙ nat_cmp_total.trans a b c (byte-cmp a b ∙ e) (byte-cmp b c ∙ f)

pub type-order : (a b : Key) → slice_cmp nat_cmp a b ≡ cmp a b
type-order [] [] = refl
type-order [] (y ∷ ys) = refl
type-order (x ∷ xs) [] = refl
type-order (x ∷ xs) (y ∷ ys) = ap₂ then (byte-cmp x y) (type-order xs ys)

turned-back : (o : Cmp) → ordering_reverse o ≡ turn o
turned-back below = refl
turned-back same = refl
turned-back above = refl

pub byte-order : IsOrder Key cmp
byte-order =
    record {
      turned = λ a b. sym (type-order b a) ∙ nat_list_cmp_total.antisymm b a ∙ turned-back (slice_cmp nat_cmp a b) ∙ ap turn (type-order a b);
      carried = λ a b c e f. sym (type-order a c) ∙ nat_list_cmp_total.trans a b c (type-order a b ∙ e) (type-order b c ∙ f);
      alike = λ a b c e. sym (type-order a c) ∙ nat_list_cmp_total.congr a b c (type-order a b ∙ e) ∙ type-order b c;
    }

-- STORED NAMES
zeros-same : (n : ℕ) → cmp (replicate n 0) (replicate n 0) ≡ same
zeros-same zero = refl
zeros-same (suc n) = zeros-same n

-- two names without a 0, filled with zeros to one length
filled : (a b : List ℕ) (m n : ℕ) → every letter_digit_dot a ≡ true → every letter_digit_dot b ≡ true → length a + m ≡ length b + n → cmp (a ++ replicate m 0) (b ++ replicate n 0) ≡ cmp a b
filled [] [] m n h k e = let q : m ≡ n = omega arith in subst (λ (j : ℕ). cmp (replicate m 0) (replicate j 0) ≡ same) q (zeros-same m)
filled [] (zero ∷ b) m n h k e = cc
filled [] (suc y ∷ b) zero n h k e = absurd (omega arith)
filled [] (suc y ∷ b) (suc m) n h k e = refl
filled (zero ∷ a) [] m n h k e = cc
filled (suc x ∷ a) [] m zero h k e = absurd (omega arith)
filled (suc x ∷ a) [] m (suc n) h k e = refl
filled (x ∷ a) (y ∷ b) m n h k e =
    ap (then (cmpℕ x y)) (filled a b m n (and_parts (letter_digit_dot x) (every letter_digit_dot a) h).1 (and_parts (letter_digit_dot y) (every letter_digit_dot b) k).1 (omega arith))

stored-order : (a b : Key) → good_name a ≡ true → good_name b ≡ true → cmp (name_field a) (name_field b) ≡ cmp a b
stored-order a b h k =
    filled a b (name_size - length a) (name_size - length b) (good-every a h) (good-every b k) (omega (arith, good_length a h, good_length b k))

pub name-order : NameOrder
name-order = record { order = byte-order; exact = λ a b e. exact_bytes a b (type-order a b ∙ e); stored_order = stored-order }
