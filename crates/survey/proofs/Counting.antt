-- Sectors met, and those of files, counted.
use Rattle.std.proofs.Common.{◌≡◌, zero-add, ℕ, suc, ◌+◌, ◌<◌, ◌≤◌, Bool, true, false, cond, ◌||◌, eqb, ◌⊎◌, inl, inr, List, [], ◌∷◌, ◌++◌, length, reverse, get_or, set, sum_by, sym, refl, ap, ◌∙◌, add_comm, arith}
use Rattle.std.proofs.lemmas.Bool.{eqb-true, eqb-false, eq-eqb, both_ways, cases_lt, cases_Bool}
use Rattle.std.proofs.lemmas.List.{length-append, get_or-set_same, get_or-set_other, reverse-append}
use Rattle.std.proofs.Math.ListN.{get_or-eq_default}
use Rattle.std.proofs.lemmas.List.Sums.{sum_by-cons, sum_by-set, sum_by-append}
use Rattle.numbers.specs.Names.{Key}
use Rattle.numbers.specs.Lengths.{sectors, last_sector, tables}
use Rattle.tree.specs.Tree.{Entry}
use Rattle.disk.specs.Meaning.{Contents, In}
use Rattle.catalog.specs.Catalogs.{Extent, Row, member, Distinct, rows_of, extents_sectors}
use Rattle.catalog.specs.Lays.{FilesAt}
use Rattle.survey.specs.Lines.{is_met, met_count}

-- MEMBERS of a list
pub member-in : (n : ℕ) (l : List ℕ) → member n l ≡ true → In n l
member-in n [] e = cc
member-in n (x ∷ xs) e = go (eqb n x) refl (member-in n xs) where
  go : (b : Bool) → eqb n x ≡ b → (member n xs ≡ true → In n xs) → (n ≡ x) ⊎ In n xs
  go true q h = inl (eqb-true n x q)
  go false q h = inr (h (sym (ap (λ (b : Bool). b || member n xs) q) ∙ e))

pub in-member : (n : ℕ) (l : List ℕ) → In n l → member n l ≡ true
in-member n [] i = absurd i
in-member n (x ∷ xs) (inl e) = ap (λ (b : Bool). b || member n xs) (eq-eqb n x e)
in-member n (x ∷ xs) (inr i) = or_from_right (eqb n x) (in-member n xs i) where
  or_from_right : (b : Bool) → member n xs ≡ true → (b || member n xs) ≡ true
  or_from_right true m = refl
  or_from_right false m = m

-- COUNTS. A map of which nothing is met
pub count-none : (marks : List Bool) → ((n : ℕ) → is_met marks n ≡ false) → met_count marks ≡ 0
count-none [] h = refl
count-none (b ∷ bs) h =
    let n = count-none bs (λ n. h (suc n)) in
    sum_by-cons (λ (x : Bool). cond x 1 0) b bs ∙ ap (λ (x : Bool). cond x 1 0 + met_count bs) (h 0) ∙ zero-add (met_count bs) ∙ n

met-inside : (marks : List Bool) (n : ℕ) → is_met marks n ≡ true → n < length marks
met-inside marks n e = go (cases_lt n (length marks)) where
  go : (n < length marks) ⊎ (length marks ≤ n) → n < length marks
  go (inl l) = l
  go (inr l) = absurd (both_ways (is_met marks n) (get_or-eq_default marks false l) e)

-- the sectors met are as many as the list has that they are
pub count-met : (l : List ℕ) (marks : List Bool) → Distinct l → ((n : ℕ) → is_met marks n ≡ member n l) → met_count marks ≡ length l
count-met [] marks d h = count-none marks h
count-met (x ∷ xs) marks d h =
    let on : is_met marks x ≡ true = h x ∙ ap (λ (b : Bool). b || member x xs) (eq-eqb x x refl) in
    let i = met-inside marks x on in
    let less = count-met xs (set marks x false) d.1 (λ n. unset n (eqb n x) refl) in
    let one = sum_by-set (λ (b : Bool). cond b 1 0) marks x false false i in
    let at : ◌≡◌ {A = ℕ} (cond (get_or marks x false) 1 0) 1 = ap (λ (b : Bool). cond b 1 0) on in
    omega (arith, less, one, at)
  where
    unset : (n : ℕ) (b : Bool) → eqb n x ≡ b → is_met (set marks x false) n ≡ member n xs
    unset n true q =
        let e : n ≡ x = eqb-true n x q in
        let on : is_met marks x ≡ true = h x ∙ ap (λ (b : Bool). b || member x xs) (eq-eqb x x refl) in
        let out : member x xs ≡ false = not_in (cases_Bool (member x xs)) in
        ap (is_met (set marks x false)) e ∙ get_or-set_same marks x false false (met-inside marks x on) ∙ sym (ap (λ (z : ℕ). member z xs) e ∙ out)
      where
        not_in : (member x xs ≡ true) ⊎ (member x xs ≡ false) → member x xs ≡ false
        not_in (inl m) = absurd (d.0 (member-in x xs m))
        not_in (inr m) = m
    unset n false q = get_or-set_other marks x n false false (eqb-false n x q) ∙ h n ∙ ap (λ (b : Bool). b || member n xs) q

-- FILES. The sum over a list, from either end
pub sum-reverse : (f : Row → ℕ) (rs : List Row) → sum_by f (reverse rs) ≡ sum_by f rs
sum-reverse f [] = refl
sum-reverse f (r ∷ rs) =
    ap (sum_by f) (reverse-append (r ∷ []) rs) ∙ sum_by-append f (reverse rs) (r ∷ []) ∙ ap (λ (n : ℕ). n + sum_by f (r ∷ [])) (sum-reverse f rs)
    ∙ add_comm (sum_by f rs) (sum_by f (r ∷ [])) ∙ sym (sum_by-append f (r ∷ []) rs)

-- the sectors of all files are those that their lengths ask for
pub files-sectors : (shown : ℕ → Contents) (es : List (Entry Key)) (xs : List Extent) → FilesAt shown es xs → sum_by (λ (r : Row). sectors r.long) (rows_of es xs) ≡ length (extents_sectors xs)
files-sectors shown [] [] h = refl
files-sectors shown [] (x ∷ xs) h = absurd h
files-sectors shown (e ∷ es) [] h = absurd h
files-sectors shown (e ∷ es) (x ∷ xs) h =
    let p = h.0.reaches.parts in
    let t = h.0.reaches.tabs in
    let a = length-append x.parts (x.tabs ++ extents_sectors xs) in
    let b = length-append x.tabs (extents_sectors xs) in
    let i = files-sectors shown es xs h.1 in
    sum_by-cons (λ (r : Row). sectors r.long) (record { name = e.0; first = e.1; long = x.long }) (rows_of es xs) ∙ sized x.long (length x.parts) (length x.tabs) p t i a b
  where
    sized : (l p t : ℕ) {s m k n : ℕ} → p ≡ 1 + last_sector l → t ≡ tables (last_sector l) → s ≡ n → m ≡ p + k → k ≡ t + n → sectors l + s ≡ m
    sized l p t pe te i a b = omega (arith, pe, te, i, a, b)

-- and one line for each entry
pub rows-count : (shown : ℕ → Contents) (es : List (Entry Key)) (xs : List Extent) → FilesAt shown es xs → length (rows_of es xs) ≡ length es
rows-count shown [] [] h = refl
rows-count shown [] (x ∷ xs) h = absurd h
rows-count shown (e ∷ es) [] h = absurd h
rows-count shown (e ∷ es) (x ∷ xs) h = ap suc (rows-count shown es xs h.1)
