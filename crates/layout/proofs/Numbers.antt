-- Stored numbers.
use Rattle.std.proofs.Common.{◌≡◌, ℕ, ◌+◌, ◌-◌, ◌^◌, ◌<◌, ◌≤◌, ◌⊎◌, Bool, true, false, ltb, List, ◌++◌, length, get_or, take, drop, sym, refl, ap, ◌∙◌, subst, inl, inr, arith}
use Rattle.std.proofs.lemmas.Bool.{ltb-true, ltb-false}
use Rattle.std.proofs.lemmas.List.{get_or-append_right, get_or_append_left, get_or-take, get_or-drop, get_or_past, length-take-le, length-drop, take_at, drop_at, drop-drop, take-append-drop}
use Rattle.std.proofs.lemmas.Nat.{from_le_bytes-to_le_bytes_4, le_bytes_4}
use Rattle.std.proofs.lemmas.Grind.{common_steps}
use Rattle.std.proofs.ByRecursion.{All-get_or}
use Rattle.layout.specs.Words.{Contents, Bytes, word_size, word, stored, part, written, StoredNumbers}

-- a number past n bytes
pub word-past : (p q : Contents) (n i : ℕ) → length p ≡ n → word (p ++ q) (n + i) ≡ word q i
word-past p q n i e =
    let at : (k j : ℕ) → k ≡ n + j → get_or (p ++ q) k 0 ≡ get_or q j 0 = λ k j f. grind (arith, common_steps) in
    rw (at (n + i) i refl, at (n + i + 1) (i + 1) (omega arith), at (n + i + 2) (i + 2) (omega arith), at (n + i + 3) (i + 3) (omega arith))

pub word-stored : (v : ℕ) (q : Contents) → v < 2 ^ 32 → word (stored v ++ q) 0 ≡ v
word-stored v q h = omega (arith, from_le_bytes-to_le_bytes_4 v h)

pub word_at : (p q : Contents) (n v : ℕ) → length p ≡ n → v < 2 ^ 32 → word (p ++ (stored v ++ q)) n ≡ v
word_at p q n v e h = subst (λ (j : ℕ). word (p ++ (stored v ++ q)) j ≡ v) (omega arith) (word-past p (stored v ++ q) n 0 e ∙ word-stored v q h)

pub back : (c : Contents) (i v : ℕ) → i + word_size ≤ length c → v < 2 ^ 32 → word (written c i (stored v)) i ≡ v
back c i v h f = word_at (take i c) (drop (i + word_size) c) i v (length-take-le i c (omega arith)) f

pub others : (c : Contents) (i v k : ℕ) → i + word_size ≤ length c → (k < i) ⊎ (i + word_size ≤ k) → get_or (written c i (stored v)) k 0 ≡ get_or c k 0
others c i v k h (inl l) = grind (arith, get_or_append_left {A = ℕ}, get_or-take {A = ℕ}, length-take-le {A = ℕ})
others c i v k h (inr l) =
    let rest = drop (i + word_size) c in
    get_or-append_right (take i c) (stored v ++ rest) i k 0 (length-take-le i c (omega arith)) (omega arith)
    ∙ get_or-append_right (stored v) rest 4 (k - i) 0 refl (omega arith)
    ∙ get_or-drop (i + word_size) c (k - i - 4) 0 ∙ ap (λ (j : ℕ). get_or c j 0) (omega arith)

-- PARTS
pub part_at : (p q r : List ℕ) (n m : ℕ) → length p ≡ n → length q ≡ m → part (p ++ (q ++ r)) n m ≡ q
part_at p q r n m e f = ap (take m) (drop_at p (q ++ r) n e) ∙ take_at q r m f

pub part-whole : (c : Contents) (i n : ℕ) → drop i c ≡ part c i n ++ drop (i + n) c
part-whole c i n = sym (take-append-drop n (drop i c)) ∙ ap (λ (t : List ℕ). part c i n ++ t) (drop-drop n i c)

pub length_part : (c : Contents) (i n : ℕ) → i + n ≤ length c → length (part c i n) ≡ n
length_part c i n h = length-take-le n (drop i c) (omega (arith, length-drop i c))

pub get_or-part : (c : Contents) (i n k : ℕ) → k < n → get_or (part c i n) k 0 ≡ get_or c (i + k) 0
get_or-part c i n k h = grind (arith, common_steps)

-- A NUMBER'S BYTES
pub word_fits : (c : Contents) (i : ℕ) → Bytes c → i + word_size ≤ length c → word c i < 2 ^ 32
word_fits c i b h =
    let f : (k : ℕ) → k < length c → get_or c k 0 < 256 = λ k l. All-get_or (λ x. x < 256) c k 0 l b in
    omega (arith, f i (omega arith), f (i + 1) (omega arith), f (i + 2) (omega arith), f (i + 3) (omega arith))

pub whole : (c : Contents) (i : ℕ) → Bytes c → i + word_size ≤ length c → stored (word c i) ≡ part c i word_size
whole c i b h =
    let at : (k : ℕ) → k < 4 → get_or (part c i word_size) k 0 ≡ get_or c (i + k) 0 = λ k l. get_or-part c i word_size k l in
    let zero : i + 0 ≡ i = omega arith in
    le_bytes_4 (part c i word_size) (word c i) (length_part c i word_size h) (λ k. small k (ltb k 4) refl)
    (omega (arith, at 0 (omega arith), at 1 (omega arith), at 2 (omega arith), at 3 (omega arith), ap (λ (j : ℕ). get_or c j 0) zero))
  where
    small : (k : ℕ) (t : Bool) → ltb k 4 ≡ t → get_or (part c i word_size) k 0 < 256
    small k true e =
        let l = ltb-true k 4 e in
        subst (λ (x : ℕ). x < 256) (sym (get_or-part c i word_size k l)) (All-get_or (λ x. x < 256) c (i + k) 0 (omega arith) b)
    small k false e = let l = ltb-false k 4 e in subst (λ (x : ℕ). x < 256) (sym (get_or_past (part c i word_size) k 0 (omega (arith, length_part c i word_size h)))) (omega arith)

-- a number's bytes, and what follows them
pub word-whole : (c : Contents) (i : ℕ) → Bytes c → i + word_size ≤ length c → drop i c ≡ stored (word c i) ++ drop (i + word_size) c
word-whole c i b h = part-whole c i word_size ∙ ap (λ (t : List ℕ). t ++ drop (i + word_size) c) (sym (whole c i b h))

pub stored-numbers : StoredNumbers
stored-numbers = record { back = back; others = others; whole = whole }
