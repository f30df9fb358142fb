-- Fields written and read one after another.
use Rattle.std.proofs.Common.{◌≡◌, ℕ, zero, suc, ◌+◌, ◌*◌, ◌^◌, ◌<◌, ◌≤◌, List, [], ◌∷◌, ◌++◌, length, take, drop, sym, refl, ap, ◌∙◌, ap₂, append_assoc, arith}
use Rattle.std.specs.List.{AllByRecursion}
use Rattle.std.proofs.lemmas.List.{length-append, length-take-le, take_at, drop_at, drop-drop, take-append-drop}
use Rattle.std.proofs.lemmas.Grind.{common_steps}
use Rattle.layout.specs.Words.{Contents, Bytes, word_size, words, stored, stored_all, written}
use Rattle.layout.proofs.Numbers.{word_at, word-whole, word_fits}
pub use Rattle.layout.proofs.Numbers.{part_at, part-whole, length_part}

-- WRITING
pub written_none : (c : Contents) (i : ℕ) → written c i [] ≡ c
written_none c i = let e : i + 0 ≡ i = omega arith in ap (λ (j : ℕ). take i c ++ drop j c) e ∙ take-append-drop i c

pub length-written : (c : Contents) (i : ℕ) (bs : List ℕ) → i + length bs ≤ length c → length (written c i bs) ≡ length c
length-written c i bs h =
    grind (arith, common_steps)

-- what is written right behind is written together
pub written-more : (c : Contents) (i n : ℕ) (xs ys : List ℕ) → i + length xs ≡ n → i ≤ length c → written (written c i xs) n ys ≡ written c i (xs ++ ys)
written-more c i n xs ys e h =
    let rest = drop (i + length xs) c in
    let w : written c i xs ≡ (take i c ++ xs) ++ rest = sym (append_assoc (take i c) xs rest) in
    let l : length (take i c ++ xs) ≡ n = length-append (take i c) xs ∙ omega (arith, length-take-le i c h) in
    let k : i + length xs + length ys ≡ i + length (xs ++ ys) = omega (arith, length-append xs ys) in
    let t = take_at (take i c ++ xs) rest n l in
    let d = drop_at (take i c ++ xs) rest n l in
    rw (w, t, ← drop-drop (length ys) n ((take i c ++ xs) ++ rest), d, drop-drop (length ys) (i + length xs) c, k) (simp append_assoc)

pub next : (c s t : Contents) (i n : ℕ) (xs ys : List ℕ) → s ≡ written c i xs → t ≡ written s n ys → i + length xs ≡ n → i ≤ length c → t ≡ written c i (xs ++ ys)
next c s t i n xs ys e f l h = f ∙ ap (λ (x : Contents). written x n ys) e ∙ written-more c i n xs ys l h

-- a field, then two numbers right behind it
pub three-written : (c s t u : Contents) (i j k : ℕ) (xs : List ℕ) (v w : ℕ) → s ≡ written c i xs → t ≡ written s j (stored v) → u ≡ written t k (stored w) → i + length xs ≡ j → j + word_size ≡ k → i ≤ length c → u ≡ written c i (xs ++ (stored v ++ stored w))
three-written c s t u i j k xs v w e f g p q h =
    let a = next c s t i j xs (stored v) e f p h in
    let b = next c t u i k (xs ++ stored v) (stored w) a g (omega (arith, length-append xs (stored v))) h in
    b ∙ ap (written c i) (append_assoc xs (stored v) (stored w))

-- SEVERAL NUMBERS
pub length-stored_all : (ws : List ℕ) → length (stored_all ws) ≡ word_size * length ws
length-stored_all [] = refl
length-stored_all (w ∷ ws) = let h = length-stored_all ws in omega arith

pub stored_all-push : (ws : List ℕ) (w : ℕ) → stored_all (ws ++ w ∷ []) ≡ stored_all ws ++ stored w
stored_all-push [] w = refl
stored_all-push (v ∷ ws) w = ap (λ (t : List ℕ). stored v ++ t) (stored_all-push ws w)

pub length-words : (c : Contents) (i n : ℕ) → length (words c i n) ≡ n
length-words c i zero = refl
length-words c i (suc n) = ap suc (length-words c (i + word_size) n)

-- numbers that were written are read again
pub words-at : (p q : Contents) (ws : List ℕ) (n : ℕ) → length p ≡ n → AllByRecursion (λ w. w < 2 ^ 32) ws → words (p ++ (stored_all ws ++ q)) n (length ws) ≡ ws
words-at p q [] n e h = refl
words-at p q (w ∷ ws) n e h =
    let l : length (p ++ stored w) ≡ n + word_size = length-append p (stored w) ∙ omega arith in
    let t = words-at (p ++ stored w) q ws (n + word_size) l h.1 in
    ap₂ ◌∷◌ (word_at p (stored_all ws ++ q) n w e h.0) (rw append_assoc at t)

-- numbers that were read have the bytes that they were read from
pub words-whole : (c : Contents) (i n : ℕ) → Bytes c → i + word_size * n ≤ length c → drop i c ≡ stored_all (words c i n) ++ drop (i + word_size * n) c
words-whole c i zero b h = let e : i ≡ i + word_size * 0 = omega arith in ap (λ (j : ℕ). drop j c) e
words-whole c i (suc n) b h =
    let e : i + word_size + word_size * n ≡ i + word_size * suc n = omega arith in
    cc (word-whole c i b (omega arith), words-whole c (i + word_size) n b (omega arith))

pub words-fit : (c : Contents) (i n : ℕ) → Bytes c → i + word_size * n ≤ length c → AllByRecursion (λ w. w < 2 ^ 32) (words c i n)
words-fit c i zero b h = tt
words-fit c i (suc n) b h = (word_fits c i b (omega arith), words-fit c (i + word_size) n b (omega arith))
