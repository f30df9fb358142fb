-- Lists of entries with one put, and without one.
use Rattle.std.proofs.Common.{◌≡◌, suc, ◌≤◌, ◌⊎◌, List, [], ◌∷◌, length, inl, inr, arith}
use Rattle.numbers.specs.Names.{Key}
use Rattle.numbers.specs.Order.{Cmp, below, same, above, cmp}
use Rattle.tree.specs.Tree.{Entry, pick}
use Rattle.tree.specs.Laws.{put, without}
use Rattle.disk.specs.Meaning.{In}

pub put-in : (x : Entry Key) (es : List (Entry Key)) (e : Entry Key) → In e (put cmp x es) → (e ≡ x) ⊎ In e es
put-in x [] e (inl q) = inl q
put-in x [] e (inr j) = absurd j
put-in x (d ∷ es) e i = go (cmp x.0 d.0) (put-in x es e) i
  where
    go : (o : Cmp) → (In e (put cmp x es) → (e ≡ x) ⊎ In e es) → In e (pick o (x ∷ d ∷ es) (x ∷ es) (d ∷ put cmp x es)) → (e ≡ x) ⊎ In e (d ∷ es)
    go below k i = i
    go same k (inl q) = inl q
    go same k (inr j) = inr (inr j)
    go above k (inl q) = inr (inl q)
    go above k (inr j) = elim (k j) [ inl q ↦ inl q | inr l ↦ inr (inr l) ]

pub put-long : (x : Entry Key) (es : List (Entry Key)) → length (put cmp x es) ≤ suc (length es)
put-long x [] = omega arith
put-long x (d ∷ es) = go (cmp x.0 d.0) (put-long x es)
  where
    go : (o : Cmp) → length (put cmp x es) ≤ suc (length es) → length (pick o (x ∷ d ∷ es) (x ∷ es) (d ∷ put cmp x es)) ≤ suc (suc (length es))
    go below k = omega arith
    go same k = omega arith
    go above k = omega arith

pub without-in : (k : Key) (es : List (Entry Key)) (e : Entry Key) → In e (without cmp k es) → In e es
without-in k [] e i = i
without-in k (d ∷ es) e i = go (cmp k d.0) (without-in k es e) i
  where
    go : (o : Cmp) → (In e (without cmp k es) → In e es) → In e (pick o (d ∷ es) es (d ∷ without cmp k es)) → In e (d ∷ es)
    go below r i = i
    go same r i = inr i
    go above r (inl q) = inl q
    go above r (inr j) = inr (r j)

pub without-long : (k : Key) (es : List (Entry Key)) → length (without cmp k es) ≤ length es
without-long k [] = omega arith
without-long k (d ∷ es) = go (cmp k d.0) (without-long k es)
  where
    go : (o : Cmp) → length (without cmp k es) ≤ length es → length (pick o (d ∷ es) es (d ∷ without cmp k es)) ≤ suc (length es)
    go below r = omega arith
    go same r = omega arith
    go above r = omega arith
