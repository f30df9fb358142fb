-- Inserting an entry: a present name's entry is replaced where it stands, a new one goes into a leaf, and a page of 25 is split.
use Rattle.std.specs.Prelude.{ℕ, zero, suc, ◌+◌, ◌-◌, cond, List, [], ◌∷◌, length, take, drop, nat_le}
use Rattle.numbers.specs.Order.{Cmp}
use Rattle.tree.specs.Tree.{Entry, Item, item, Page, page, Sub, Tree, fewest, most, pick}

-- what stands in the place of a child afterwards: one, or two with an entry between them
pub data Up (K S : Type 0) : Type 0 where
  one : S → Up K S
  two : S → Entry K → S → Up K S

module _ {K S : Type 0} where
  abbrev pub tops : Up K S → ℕ
  tops (one p) = 1
  tops (two p e q) = 2

  -- as the first child of a page
  abbrev pub splice : Up K S → List (Item K S) → Page K S
  splice (one c) xs = page c xs
  splice (two c e d) xs = page c (item e d ∷ xs)

  -- a child and an entry put before a page's first
  abbrev pub before : S → Entry K → Page K S → Page K S
  before c e (page d xs) = page c (item e d ∷ xs)

  abbrev pub halves : S → List (Item K S) → List (Item K S) → Up K (Page K S)
  halves c l [] = one (page c l)
  halves c l (item e d ∷ r) = two (page c l) e (page d r)

  -- the left page gets m entries, the next one rises, and the right page gets the others
  abbrev pub cut : ℕ → S → List (Item K S) → Up K (Page K S)
  cut m c xs = halves c (take m xs) (drop m xs)

  -- a page of more than 24 entries is split
  abbrev pub fit : Page K S → Up K (Page K S)
  fit (page c xs) = cond (nat_le (length xs) most) (one (page c xs)) (cut fewest c xs)

-- in a tree of n levels where the root has become u, a page or two: a root of 25 stays root with the middle entry alone
abbrev pub grow : {K : Type 0} (n : ℕ) → Up K (Sub K (suc n)) × ℕ → Tree K × ℕ
grow {K} n u = go u.0
  where
    go : Up K (Sub K (suc n)) → Tree K × ℕ
    go (one p) = (record { over = n; root = p }, u.1 - 1)
    go (two p e q) = (record { over = suc n; root = page p (item e q ∷ []) }, u.1)

-- each with the number of pages that it changes
module _ {K : Type 0} (cmp : K → K → Cmp) where
  -- in a page, where f inserts in a child
  abbrev pub ins_in : {S : Type 0} → (S → Up K S × ℕ) → Entry K → S → List (Item K S) → Page K S × ℕ
  ins_in f x c [] = (splice (f c).0 [], (f c).1)
  ins_in f x c (item e d ∷ xs) =
      let w = ins_in f x d xs in
      pick {A = Page K _ × ℕ} (cmp x.0 e.0) (splice (f c).0 (item e d ∷ xs), (f c).1) (page c (item x d ∷ xs), 0) (before c e w.0, w.1)

  abbrev pub ins_page : {S : Type 0} → (S → Up K S × ℕ) → Entry K → Page K S → Up K (Page K S) × ℕ
  ins_page f x (page c xs) = let w = ins_in f x c xs in (fit w.0, w.1 + tops (fit w.0))

  abbrev pub ins : (n : ℕ) → Entry K → Sub K n → Up K (Sub K n) × ℕ
  ins zero x t = (two t x t, 0)
  ins (suc n) x t = ins_page (ins n x) x t

  -- the new tree, and how many pages but the root were changed
  abbrev pub insert : Tree K → K → ℕ → Tree K × ℕ
  insert t k v = grow t.over (ins (suc t.over) (k, v) t.root)
