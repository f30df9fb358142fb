-- A directory as a tree of pages: entries lead from names to numbers, over any type of names and any order of them.
use Rattle.std.specs.Prelude.{◌≡◌, ℕ, zero, suc, ◌+◌, ◌≤◌, List, [], ◌∷◌, ◌++◌, length}
use Rattle.numbers.specs.Order.{Cmp, below, same, above}

-- a name and the number that it leads to
abbrev pub Entry : Type 0 → Type 0
Entry K = K × ℕ

-- an entry with the child right of it
pub data Item (K S : Type 0) : Type 0 where
  item : Entry K → S → Item K S

-- a page: the child left of its first entry, and its entries
pub data Page (K S : Type 0) : Type 0 where
  page : S → List (Item K S) → Page K S

-- what a child is: n levels of pages. Below a leaf there is nothing, so a leaf is a page like others
abbrev pub Sub : Type 0 → ℕ → Type 0
Sub K zero = Unit {0}
Sub K (suc n) = Page K (Sub K n)

-- a tree: its root, and how many levels there are below it
pub record Tree (K : Type 0) : Type 0 where
  pub over : ℕ
  pub root : Sub K (suc over)

-- the fewest and the most entries of a page other than the root
abbrev pub fewest : ℕ
fewest = 12

abbrev pub most : ℕ
most = 24

-- the most levels
abbrev pub most_levels : ℕ
most_levels = 4

-- the tree of a new directory
abbrev pub empty : (K : Type 0) → Tree K
empty K = record { over = 0; root = page tt [] }

-- by an answer of a compare
abbrev pub pick : {A : Type 0} → Cmp → A → A → A → A
pick below a b c = a
pick same a b c = b
pick above a b c = c

-- each element is as P says
abbrev pub All : {A : Type 0} → (A → Type 0) → List A → Type 0
All P [] = Unit {0}
All P (x ∷ xs) = P x × All P xs

-- what a search finds
pub data Found : Type 0 where
  absent : Found
  at : ℕ → Found

module _ {K : Type 0} where
  -- the entries in order
  abbrev pub flat_rest : {S : Type 0} → (S → List (Entry K)) → List (Item K S) → List (Entry K)
  flat_rest f [] = []
  flat_rest f (item e d ∷ xs) = e ∷ (f d ++ flat_rest f xs)

  abbrev pub flat_page : {S : Type 0} → (S → List (Entry K)) → Page K S → List (Entry K)
  flat_page f (page c xs) = f c ++ flat_rest f xs

  -- the number of pages
  abbrev pub pages_rest : {S : Type 0} → (S → ℕ) → List (Item K S) → ℕ
  pages_rest g [] = 0
  pages_rest g (item e d ∷ xs) = g d + pages_rest g xs

  abbrev pub pages_page : {S : Type 0} → (S → ℕ) → Page K S → ℕ
  pages_page g (page c xs) = 1 + (g c + pages_rest g xs)

  -- an entry's child is as P says
  abbrev pub Child : {S : Type 0} → (S → Type 0) → Item K S → Type 0
  Child P (item e d) = P d

  -- a page of low to 24 entries, its children as P says
  abbrev pub FullPage : {S : Type 0} → (S → Type 0) → ℕ → Page K S → Type 0
  FullPage P low (page c xs) = (low ≤ length xs) × (length xs ≤ most) × P c × All (Child P) xs

abbrev pub flat : (K : Type 0) (n : ℕ) → Sub K n → List (Entry K)
flat K zero t = []
flat K (suc n) t = flat_page (flat K n) t

abbrev pub to_list : {K : Type 0} → Tree K → List (Entry K)
to_list t = flat _ (suc t.over) t.root

abbrev pub pages_of : (K : Type 0) (n : ℕ) → Sub K n → ℕ
pages_of K zero t = 0
pages_of K (suc n) t = pages_page (pages_of K n) t

abbrev pub pages : {K : Type 0} → Tree K → ℕ
pages t = pages_of _ (suc t.over) t.root

abbrev pub levels : {K : Type 0} → Tree K → ℕ
levels t = suc t.over

-- every page has 12 to 24 entries
abbrev pub Full : (K : Type 0) (n : ℕ) → Sub K n → Type 0
Full K zero t = Unit {0}
Full K (suc n) t = FullPage (Full K n) fewest t

-- the fewest entries of a root over n levels
abbrev pub lowest : ℕ → ℕ
lowest zero = 0
lowest (suc n) = 1

module _ {K : Type 0} (cmp : K → K → Cmp) where
  -- k is below every name of a list
  abbrev pub Under : K → List (Entry K) → Type 0
  Under k es = All (λ (x : Entry K). cmp k x.0 ≡ below) es

  -- the names rise
  abbrev pub Rises : List (Entry K) → Type 0
  Rises [] = Unit {0}
  Rises (e ∷ es) = Under e.0 es × Rises es

  -- search: a page at each level
  abbrev pub look_in : {S : Type 0} → (S → Found) → K → S → List (Item K S) → Found
  look_in f k c [] = f c
  look_in f k c (item e d ∷ xs) = pick (cmp k e.0) (f c) (at e.1) (look_in f k d xs)

  abbrev pub look_page : {S : Type 0} → (S → Found) → K → Page K S → Found
  look_page f k (page c xs) = look_in f k c xs

  abbrev pub look : (n : ℕ) → K → Sub K n → Found
  look zero k t = absent
  look (suc n) k t = look_page (look n k) k t

  abbrev pub lookup : Tree K → K → Found
  lookup t k = look (suc t.over) k t.root

  -- names rise through the whole tree, it has at most four levels, and its pages have as many entries as they should
  pub record Good (t : Tree K) : Type 0 where
    pub rises : Rises (to_list t)
    pub few : levels t ≤ most_levels
    pub filled : FullPage (Full K t.over) (lowest t.over) t.root
