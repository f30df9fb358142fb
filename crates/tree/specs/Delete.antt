-- Deleting an entry: a page left with 11 entries gets some from a neighbour through their parent's entry, or is joined with it.
use Rattle.std.specs.Prelude.{ℕ, zero, suc, ◌+◌, ◌-◌, ◌/◌, Bool, cond, List, [], ◌∷◌, ◌++◌, length, ◌==◌, nat_le, nat_lt}
use Rattle.numbers.specs.Order.{Cmp}
use Rattle.tree.specs.Tree.{Entry, Item, item, Page, page, Sub, Tree, fewest, most, pick, Found, absent, at, lookup}
use Rattle.tree.specs.Insert.{Up, one, two, tops, splice, before, cut}

-- what a page lends to a neighbour left with 11: half of what it has more
abbrev pub lent : ℕ → ℕ
lent c = (c - 11) / 2

-- of two neighbours with a and b entries, how many the left one ends with
abbrev pub share : ℕ → ℕ → ℕ
share a b = cond (nat_lt a b) (a + lent b) (a - lent a)

module _ {K S : Type 0} where
  abbrev pub size : Page K S → ℕ
  size (page c xs) = length xs

  -- is the page short of entries?
  abbrev pub lacks : Page K S → Bool
  lacks p = nat_lt (size p) fewest

  -- two neighbours and the entry between them: one page if they fit, else evened out
  abbrev pub even : Page K S → Entry K → Page K S → Up K (Page K S)
  even (page c xs) e (page d ys) =
      let all = xs ++ (item e d ∷ ys) in
      cond (nat_le (length all) most) (one (page c all)) (cut (share (length xs) (length ys)) c all)

  -- a child, the entry right of it and the next child, of which one was changed and may be short; with the pages that changed
  abbrev pub mend_page : Page K S → Entry K → Page K S → Up K (Page K S) × ℕ
  mend_page p e q =
      let u = even p e q in
      cond {A = Up K (Page K S) × ℕ} (lacks p) (u, tops u) (cond (lacks q) (u, tops u) (two p e q, 1))

  -- 1 if the left page has as many entries as before
  abbrev pub regained : Page K S → Up K (Page K S) → ℕ
  regained p (one q) = 0
  regained p (two q e r) = cond (size p == size q) 1 0

abbrev pub mend : (K : Type 0) (n : ℕ) → Sub K n → Entry K → Sub K n → Up K (Sub K n) × ℕ
mend K zero c e d = (two c e d, 0)
mend K (suc n) c e d = mend_page c e d

-- a leaf that gave its largest entry to the parent and got it back has not changed
abbrev pub back : (K : Type 0) (n : ℕ) → Sub K n → Up K (Sub K n) → ℕ
back K zero c u = 0
back K (suc zero) c u = regained c u
back K (suc (suc n)) c u = 0

-- the largest entry of a subtree, what is left of it, and the pages changed below its top
pub data Got (K S : Type 0) : Type 0 where
  none : Got K S
  got : Entry K → S → ℕ → Got K S

-- in a page, where m mends two neighbours
module _ {K S : Type 0} (m : S → Entry K → S → Up K S × ℕ) where
  -- the last child gave its largest entry, or is nothing
  abbrev pub max_last : S → Entry K → Got K S → Got K (Page K S)
  max_last c e none = got e (page c []) 0
  max_last c e (got x d n) = let u = m c e d in got x (splice u.0 []) (n + u.1)

  abbrev pub past : S → Entry K → Got K (Page K S) → Got K (Page K S)
  past c e none = none
  past c e (got x p n) = got x (before c e p) n

  abbrev pub alone : Got K S → Got K (Page K S)
  alone none = none
  alone (got x c n) = got x (page c []) n

  -- where g takes the largest entry out of a child
  abbrev pub max_in : (S → Got K S) → S → List (Item K S) → Got K (Page K S)
  max_in g c [] = alone (g c)
  max_in g c (item e d ∷ []) = max_last c e (g d)
  max_in g c (item e d ∷ y ∷ ys) = past c e (max_in g d (y ∷ ys))

  abbrev pub max_page : (S → Got K S) → Page K S → Got K (Page K S)
  max_page g (page c xs) = max_in g c xs

  -- the entry between c and d goes, its place taken by the largest one under c; b: the pages that are as before
  abbrev pub fill : (Up K S → ℕ) → Got K S → S → List (Item K S) → Page K S × ℕ
  fill b none d xs = (page d xs, 0)
  fill b (got x c n) d xs = let u = m c x d in (splice u.0 xs, n + u.1 - b u.0)

abbrev pub take_max : (K : Type 0) (n : ℕ) → Sub K n → Got K (Sub K n)
take_max K zero t = none
take_max K (suc n) t = max_page (mend K n) (take_max K n) t

-- by what a search has found: the first if it is nothing
abbrev pub if_found : {A : Type 0} → Found → A → A → A
if_found absent a b = a
if_found (at v) a b = b

-- a root without entries takes over its only child's contents
abbrev pub shrink : {K : Type 0} (n : ℕ) → Sub K (suc n) → ℕ → Tree K × ℕ
shrink zero p f = (record { over = zero; root = p }, f)
shrink (suc n) (page c []) f = (record { over = n; root = c }, f - 1)
shrink (suc n) (page c (x ∷ xs)) f = (record { over = suc n; root = page c (x ∷ xs) }, f)

module _ {K : Type 0} (cmp : K → K → Cmp) where
  -- in a page, where f deletes in a child
  abbrev pub del_in : {S : Type 0} → (S → Entry K → S → Up K S × ℕ) → (S → Up K S → ℕ) → (S → Got K S) → (S → S × ℕ) → K → S → List (Item K S) → Page K S × ℕ
  del_in m b g f k c [] = (page (f c).0 [], (f c).1)
  del_in m b g f k c (item e d ∷ []) =
      let u = m (f c).0 e d in let w = m c e (f d).0 in
      pick {A = Page K _ × ℕ} (cmp k e.0) (splice u.0 [], (f c).1 + u.1) (fill m (b c) (g c) d []) (splice w.0 [], (f d).1 + w.1)
  del_in m b g f k c (item e d ∷ y ∷ ys) =
      let u = m (f c).0 e d in let w = del_in m b g f k d (y ∷ ys) in
      pick {A = Page K _ × ℕ} (cmp k e.0) (splice u.0 (y ∷ ys), (f c).1 + u.1) (fill m (b c) (g c) d (y ∷ ys)) (before c e w.0, w.1)

  abbrev pub del_page : {S : Type 0} → (S → Entry K → S → Up K S × ℕ) → (S → Up K S → ℕ) → (S → Got K S) → (S → S × ℕ) → K → Page K S → Page K S × ℕ
  del_page m b g f k (page c xs) = del_in m b g f k c xs

  abbrev pub del : (n : ℕ) → K → Sub K n → Sub K n × ℕ
  del zero k t = (t, 0)
  del (suc n) k t = del_page (mend K n) (back K n) (take_max K n) (del n k) k t

  -- the new tree, and how many pages but the root were changed; a name that is not there changes nothing
  abbrev pub delete : Tree K → K → Tree K × ℕ
  delete t k = let r = del (suc t.over) k t.root in if_found (lookup cmp t k) (t, 0) (shrink t.over r.0 r.1)

-- LOST PAGES. The same, counting the pages that are lost: one where two are joined
abbrev pub mend_loss : (K : Type 0) (n : ℕ) → Sub K n → Entry K → Sub K n → Up K (Sub K n) × ℕ
mend_loss K zero c e d = (two c e d, 0)
mend_loss K (suc n) c e d = let u = (mend_page c e d).0 in (u, 2 - tops u)

abbrev pub take_max_loss : (K : Type 0) (n : ℕ) → Sub K n → Got K (Sub K n)
take_max_loss K zero t = none
take_max_loss K (suc n) t = max_page (mend_loss K n) (take_max_loss K n) t

-- and that of a root without entries over another page
abbrev pub collapse : {K : Type 0} (n : ℕ) → Sub K (suc n) → ℕ
collapse zero p = 0
collapse (suc n) (page c []) = 1
collapse (suc n) (page c (x ∷ xs)) = 0

module _ {K : Type 0} (cmp : K → K → Cmp) where
  abbrev pub del_loss : (n : ℕ) → K → Sub K n → Sub K n × ℕ
  del_loss zero k t = (t, 0)
  del_loss (suc n) k t = del_page cmp (mend_loss K n) (λ c u. 0) (take_max_loss K n) (del_loss n k) k t

  abbrev pub lost : Tree K → K → ℕ
  lost t k = let r = del_loss (suc t.over) k t.root in if_found (lookup cmp t k) 0 (r.1 + collapse t.over r.0)
