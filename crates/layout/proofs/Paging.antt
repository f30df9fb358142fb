-- Directory pages, entry by entry.
use Rattle.std.proofs.Common.{◌≡◌, ℕ, suc, ◌+◌, ◌-◌, ◌*◌, ◌<◌, ◌≤◌, Bool, List, [], ◌∷◌, ◌++◌, length, get_or, take, replicate, Ok, Err, Result, sym, refl, ap, ◌∙◌, append_assoc, append-nil, arith}
use Rattle.std.proofs.lemmas.List.{length-append, length-replicate, take_more, drop-replicate, replicate-append-replicate}
use Rattle.layout.specs.declared.entry.Entry.{Entry}
use Rattle.layout.specs.declared.entry.PageFault.{PageFault}
use Rattle.layout.specs.Words.{Contents, sector_size, blank, stored, written}
use Rattle.layout.specs.Entries.{page_mark, zeros_at, entries_at, entry_size, stored_in, check_entry, entry_bytes, all_entry_bytes}
use Rattle.layout.specs.Pages.{prepend, rows_in}
use Rattle.layout.proofs.Writing.{next}

pub entries-push : (es : List Entry) (e : Entry) → all_entry_bytes (es ++ e ∷ []) ≡ all_entry_bytes es ++ entry_bytes e
entries-push [] e = append-nil (entry_bytes e)
entries-push (x ∷ es) e = rw (entries-push es e, append_assoc (entry_bytes x) (all_entry_bytes es) (entry_bytes e))

-- one more entry is written behind the others
pub put-entry-more : (c s t : Contents) (es : List Entry) (i : ℕ) (e : Entry) → i < length es → e ≡ get_or es i e → entries_at ≤ length c → length (entry_bytes e) ≡ entry_size → t ≡ written s (64 + 40 * i) (entry_bytes e) → (s ≡ written c entries_at (all_entry_bytes (take i es))) × (length (all_entry_bytes (take i es)) ≡ entry_size * i) → (t ≡ written c entries_at (all_entry_bytes (take (i + 1) es))) × (length (all_entry_bytes (take (i + 1) es)) ≡ entry_size * (i + 1))
put-entry-more c s t es i e l r h n f inv =
    let m : all_entry_bytes (take (i + 1) es) ≡ all_entry_bytes (take i es) ++ entry_bytes e =
    ap all_entry_bytes (take_more es i e l ∙ ap (λ (x : Entry). take i es ++ x ∷ []) (sym r)) ∙ entries-push (take i es) e in
    let k : entries_at + length (all_entry_bytes (take i es)) ≡ 64 + 40 * i = omega (arith, inv.1) in (
      next c s t entries_at (64 + 40 * i) (all_entry_bytes (take i es)) (entry_bytes e) inv.0 f k h ∙ ap (written c entries_at) (sym m),
      ap length m ∙ length-append (all_entry_bytes (take i es)) (entry_bytes e) ∙ omega (arith, inv.1),
    )

-- behind what is written stand zeros
blank-zeros : (xs : List ℕ) (n : ℕ) → length xs + n ≤ sector_size → written blank 0 xs ≡ written blank 0 (xs ++ replicate n 0)
unfolding blank
blank-zeros xs n h =
    let a : sector_size - (0 + length xs) ≡ n + (sector_size - (0 + length (xs ++ replicate n 0))) = omega (arith, length-append xs (replicate n 0), length-replicate {A = ℕ} n 0) in
    simp (append_assoc, drop-replicate, replicate-append-replicate) (ap (λ (k : ℕ). xs ++ replicate k 0) a)

pub page-written : (s1 s2 s3 s4 : Contents) (m p : ℕ) (es : List ℕ) → s1 ≡ written blank 0 (stored page_mark) → s2 ≡ written s1 4 (stored m) → s3 ≡ written s2 8 (stored p) → s4 ≡ written s3 entries_at es → s4 ≡ written blank 0 (stored page_mark ++ (stored m ++ (stored p ++ (replicate (entries_at - zeros_at) 0 ++ es))))
page-written s1 s2 s3 s4 m p es e1 e2 e3 e4 =
    let x2 = stored page_mark ++ stored m in
    let x3 = x2 ++ stored p in
    let z : List ℕ = replicate (entries_at - zeros_at) 0 in
    let f2 = next blank s1 s2 0 4 (stored page_mark) (stored m) e1 e2 refl (omega arith) in
    let f3 = next blank s2 s3 0 8 x2 (stored p) f2 e3 refl (omega arith) in
    let g3 = f3 ∙ blank-zeros x3 (entries_at - zeros_at) (omega arith) in
    next blank s3 s4 0 entries_at (x3 ++ z) es g3 e4 refl (omega arith)

-- READING, ENTRY BY ENTRY
abbrev pub onto : List Entry → Result (List Entry) PageFault → Result (List Entry) PageFault
onto xs (Ok ys) = Ok (xs ++ ys)
onto xs (Err f) = Err f

onto-more : (xs : List Entry) (e : Entry) (r : Result (List Entry) PageFault) → onto xs (prepend (Ok e) r) ≡ onto (xs ++ e ∷ []) r
onto-more xs e (Ok ys) = ap (λ (t : List Entry). Ok t) (sym (append_assoc xs (e ∷ []) ys))
onto-more xs e (Err f) = refl

module _ (size : ℕ) (leaf : Bool) (c : Contents) (m i : ℕ) (l : i < m) where
  split_rows : rows_in size leaf c i (m - i) ≡ prepend (check_entry size leaf (stored_in c i)) (rows_in size leaf c (i + 1) (m - (i + 1)))
  split_rows =
      let n : m - i ≡ suc (m - (i + 1)) = omega arith in
      let k : suc i ≡ i + 1 = omega arith in
      rw (n, k)

  pub row_read : (all : Result (List Entry) PageFault) (xs ys : List Entry) (e : Entry) → Ok e ≡ check_entry size leaf (stored_in c i) → ys ≡ xs ++ e ∷ [] → all ≡ onto xs (rows_in size leaf c i (m - i)) → all ≡ onto ys (rows_in size leaf c (i + 1) (m - (i + 1)))
  row_read all xs ys e h k inv =
      rw (inv, split_rows, ← h, k) (onto-more xs e (rows_in size leaf c (i + 1) (m - (i + 1))))

  pub row-refused : (all : Result (List Entry) PageFault) (xs : List Entry) (f : PageFault) → Err f ≡ check_entry size leaf (stored_in c i) → all ≡ onto xs (rows_in size leaf c i (m - i)) → all ≡ Err f
  row-refused all xs f h inv = rw (inv, split_rows, ← h)
