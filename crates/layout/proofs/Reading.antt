-- What stands in a sector, read.
use Rattle.std.proofs.Common.{◌≡◌, ℕ, zero, suc, ◌+◌, ◌*◌, ◌^◌, ◌<◌, ◌≤◌, Bool, true, false, cond, eqb, Ok, Err, Result, List, [], ◌∷◌, ◌++◌, map, length, get_or, take, drop, sym, refl, ap, ap₂, ◌∙◌, subst, append_assoc, arith}
use Rattle.std.specs.List.{AllByRecursion}
use Rattle.std.proofs.lemmas.List.{ext_get_or, get_or-map, length-map, length-append, length-take-le}
use Rattle.std.proofs.lemmas.Bool.{eqb-true, eqb-false}
use Rattle.std.specs.Fn.{Called}
use Rattle.std.specs.Array.{IsFromFnResultFrom}
use denote.Param.Members.{Mut}
use Rattle.numbers.specs.declared.sector.Address.{Address}
use Rattle.numbers.specs.Names.{name_size}
use Rattle.layout.specs.declared.entry.StoredEntry.{StoredEntry}
use Rattle.layout.specs.Words.{Contents, word_size, word, words, stored, stored_all, part, numbers, addresses_in}
use Rattle.layout.specs.Entries.{StoredValues, file_at, below_at, stored_at, stored_entry_bytes}
use Rattle.layout.proofs.Numbers.{word-past, word-stored}
use Rattle.layout.proofs.Writing.{length-words, words-at, part_at}

-- what was asked of an accepted value, and what was asked next
pub asked : {A B E : Type 0} (g : Result B E → Result A E) (x : Bool) (r : Result B E) (f : E) {a : A} → g (Err f) ≡ Err f → g (cond x r (Err f)) ≡ Ok a → (x ≡ true) × (g r ≡ Ok a)
asked g true r f s e = (refl, e)
asked g false r f s e = cc

get_or-words : (c : Contents) (i n k : ℕ) → k < n → get_or (words c i n) k 0 ≡ word c (i + word_size * k)
get_or-words c i zero k h = absurd (omega arith)
get_or-words c i (suc n) zero h = ap (word c) (omega arith)
get_or-words c i (suc n) (suc k) h = get_or-words c (i + word_size) n k (omega arith) ∙ ap (word c) (omega arith)

-- an array made by calls that leave the closure as it was: what each call says holds of the element there
module _ {F B : Type 0} (g : Mut F (ℕ × Unit {0}) B) (f : F) (R : ℕ → B → Type 0) (each : (i : ℕ) (y : B) (q : F) → Called g f (i, tt) y q → (q ≡ f) × R i y) where
  pub made : (ys : List B) (n i j : ℕ) (p : F) (d : B) → p ≡ f → IsFromFnResultFrom g p ys i n → i ≤ j → j < i + n → R j (get_or ys j d)
  made ys zero i j p d e h l m = absurd (omega arith)
  made ys (suc n) i j p d e (q, y, at, call, rest) l m =
      let now = each i y q (subst (λ (x : F). Called g x (i, tt) y q) e call) in
      go now.1 (λ o. made ys n (i + 1) j q d now.0 rest (omega arith) (omega arith)) (eqb i j) refl
    where
      go : R i y → ((i ≡ j → ⊥) → R j (get_or ys j d)) → (b : Bool) → eqb i j ≡ b → R j (get_or ys j d)
      go r later true h = subst (λ (k : ℕ). R k (get_or ys k d)) (eqb-true i j h) (subst (R i) (sym (at.1 d)) r)
      go r later false h = later (eqb-false i j h)

pub length-addresses : (c : Contents) (i n : ℕ) → length (addresses_in c i n) ≡ n
length-addresses c i n =
    let f : ℕ → Address = λ w. record { 0 = w } in
    length-map (words c i n) f ∙ length-words c i n

-- addresses each of which was read from its place
pub addresses-read : (c : Contents) (i n : ℕ) (list : List Address) → length list ≡ n → ((k : ℕ) → k < n → (get_or list k (record { 0 = 0 })).0 ≡ word c (i + word_size * k)) → list ≡ addresses_in c i n
addresses-read c i n list l f =
    let m : ℕ → Address = λ w. record { 0 = w } in
    ext_get_or (record { 0 = 0 }) list (addresses_in c i n) (l ∙ sym (length-addresses c i n))
    (λ k h. ap m (f k (omega arith) ∙ sym (get_or-words c i n k (omega arith))) ∙ sym (get_or-map m (words c i n) k 0 (record { 0 = 0 }) (omega (arith, length-words c i n))))

-- ADDRESSES AND NUMBERS
pub numbered : (list : List Address) → map (λ (w : ℕ). record { 0 = w }) (numbers list) ≡ list
numbered [] = refl
numbered (a ∷ list) = ap (λ (t : List Address). a ∷ t) (numbered list)

pub numbers-in : (ws : List ℕ) → numbers (map (λ (w : ℕ). record { 0 = w }) ws) ≡ ws
numbers-in [] = refl
numbers-in (w ∷ ws) = ap (λ (t : List ℕ). w ∷ t) (numbers-in ws)

pub addresses-at : (p q : Contents) (list : List Address) (n m : ℕ) → length p ≡ n → length list ≡ m → AllByRecursion (λ w. w < 2 ^ 32) (numbers list) → list ≡ addresses_in (p ++ (stored_all (numbers list) ++ q)) n m
addresses-at p q list n m e l h =
    let k : length (numbers list) ≡ m = length-map list (λ (a : Address). a.0) ∙ l in
    sym (ap (map (λ (w : ℕ). record { 0 = w })) (subst (λ (j : ℕ). words (p ++ (stored_all (numbers list) ++ q)) n j ≡ numbers list) k (words-at p q (numbers list) n e h)) ∙ numbered list)

-- WRITTEN, THEN READ
-- an entry between what stands before and behind it
pub entry-between : (pre rest : Contents) (s : StoredEntry) (i : ℕ) → length pre ≡ i → length s.name.bytes ≡ name_size → s.file.0 < 2 ^ 32 → s.below.0 < 2 ^ 32 → stored_at (pre ++ (stored_entry_bytes s ++ rest)) i ≡ s
entry-between pre rest s i l ln fa fb =
    let n = s.name.bytes in
    let a = s.file.0 in
    let b = s.below.0 in
    let flat : pre ++ (stored_entry_bytes s ++ rest) ≡ pre ++ (n ++ (stored a ++ (stored b ++ rest))) = simp append_assoc in
    let halves : pre ++ (stored_entry_bytes s ++ rest) ≡ (pre ++ n) ++ (stored a ++ (stored b ++ rest)) = simp append_assoc in
    let lf : length (pre ++ n) ≡ i + file_at = length-append pre n ∙ omega arith in
    let k0 : i + file_at ≡ i + file_at + 0 = omega arith in
    let k4 : i + below_at ≡ i + file_at + 4 = omega arith in
    let en = ap (λ (t : Contents). part t i name_size) flat ∙ part_at pre n (stored a ++ (stored b ++ rest)) i name_size l ln in
    let ea = ap₂ word halves k0 ∙ word-past (pre ++ n) (stored a ++ (stored b ++ rest)) (i + file_at) 0 lf ∙ word-stored a (stored b ++ rest) fa in
    let eb = ap₂ word halves k4 ∙ word-past (pre ++ n) (stored a ++ (stored b ++ rest)) (i + file_at) 4 lf ∙ word-stored b rest fb in
    λ j. record { name = record { bytes = en j }; file = record { 0 = ea j }; below = record { 0 = eb j } }

pub stored-values : StoredValues
stored-values =
    record {
      bytes = λ c i n bs f h. part_at (take i c) bs (drop (i + length bs) c) i n (length-take-le i c (omega arith)) f;
      addresses = λ c i n list l f h. sym (addresses-at (take i c) (drop (i + length (stored_all (numbers list))) c) list i n (length-take-le i c (omega arith)) l f);
      entry = λ c i s n a b h. entry-between (take i c) (drop (i + length (stored_entry_bytes s)) c) s i (length-take-le i c (omega arith)) n a b;
    }
