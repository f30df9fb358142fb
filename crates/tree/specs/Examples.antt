-- Worked examples, with numbers as names.
use Rattle.std.specs.Prelude.{◌≡◌, ℕ, zero, suc, ◌+◌, ◌*◌, List, [], ◌∷◌, ◌++◌, length, nat_eq}
use Rattle.numbers.specs.Order.{cmpℕ}
use Rattle.tree.specs.Tree.{Entry, Item, item, page, Sub, Tree, Good, to_list}
use Rattle.tree.specs.Insert.{insert}
use Rattle.tree.specs.Delete.{size, delete, lost}
use Rattle.tree.specs.Fresh.{changed}
use Rattle.tree.specs.Laws.{gained}

-- the name n, that leads to n
abbrev pub entry : ℕ → Entry ℕ
entry n = (n, n)

-- n entries from a on
abbrev pub run : ℕ → ℕ → List (Entry ℕ)
run a zero = []
run a (suc n) = entry a ∷ run (suc a) n

-- a leaf of n entries from a on
abbrev pub leaves : ℕ → ℕ → List (Item ℕ (Sub ℕ 0))
leaves a zero = []
leaves a (suc n) = item (entry a) tt ∷ leaves (suc a) n

abbrev pub leaf : ℕ → ℕ → Sub ℕ 1
leaf a n = page tt (leaves a n)

-- trees of one leaf; of a root over two, and over three leaves
abbrev pub single : ℕ → Tree ℕ
single a = record { over = 0; root = leaf 0 a }

abbrev pub double : ℕ → ℕ → Tree ℕ
double a b = record { over = 1; root = page (leaf 0 a) (item (entry a) (leaf (suc a) b) ∷ []) }

abbrev pub triple : ℕ → ℕ → ℕ → Tree ℕ
triple a b c = record { over = 1; root = page (leaf 0 a) (item (entry a) (leaf (suc a) b) ∷ item (entry (suc a + b)) (leaf (suc (suc a + b)) c) ∷ []) }

-- the sizes of the pages: the root, then those below
abbrev pub sizes_below : Sub ℕ 1 → List (Item ℕ (Sub ℕ 1)) → List ℕ
sizes_below p [] = size p ∷ []
sizes_below p (item e q ∷ xs) = size p ∷ sizes_below q xs

abbrev pub shape : (n : ℕ) → Sub ℕ (suc n) → List ℕ
shape zero p = size p ∷ []
shape (suc zero) (page c xs) = length xs ∷ sizes_below c xs
shape (suc (suc n)) p = []

-- from tree t to u: the shape and the changed pages
abbrev pub Turns : Tree ℕ → Tree ℕ → List ℕ → ℕ → Type 0
Turns t u l f = (shape u.over u.root ≡ l) × (changed nat_eq t u ≡ f)

abbrev pub Inserting : Tree ℕ → ℕ → List ℕ → ℕ → Type 0
Inserting t k l f = Turns t (insert cmpℕ t k k).0 l f × ((insert cmpℕ t k k).1 ≡ f)

abbrev pub Deleting : Tree ℕ → ℕ → List ℕ → ℕ → Type 0
Deleting t k l f = Turns t (delete cmpℕ t k).0 l f × ((delete cmpℕ t k).1 ≡ f)

pub record Examples : Type 0 where
  -- a root of 24 gets one more: it stays root with the middle entry alone
  pub split : Inserting (single 24) 24 (1 ∷ 12 ∷ 12 ∷ []) 2
  pub split_gained : gained cmpℕ (single 24) 24 24 ≡ 2
  -- a leaf of 24 below gets one more
  pub split_below : Inserting (double 12 24) 50 (2 ∷ 12 ∷ 12 ∷ 12 ∷ []) 2
  -- a present name
  pub replaced : Turns (double 12 12) (insert cmpℕ (double 12 12) 3 99).0 (1 ∷ 12 ∷ 12 ∷ []) 1
  -- a leaf left with 11 gets entries from its right neighbour, or as the last one from the left
  pub from13 : Deleting (double 12 13) 3 (1 ∷ 12 ∷ 12 ∷ []) 2
  pub from24 : Deleting (double 12 24) 3 (1 ∷ 17 ∷ 18 ∷ []) 2
  pub from_left24 : Deleting (double 24 12) 30 (1 ∷ 18 ∷ 17 ∷ []) 2
  pub middle : Deleting (triple 24 12 13) 30 (2 ∷ 24 ∷ 12 ∷ 12 ∷ []) 2
  -- two leaves are joined
  pub joined : Deleting (triple 12 12 13) 3 (1 ∷ 24 ∷ 13 ∷ []) 1
  pub joined_lost : lost cmpℕ (triple 12 12 13) 3 ≡ 1
  -- a root without entries takes over its only child's contents
  pub collapsed : Deleting (double 12 12) 3 (24 ∷ []) 0
  pub collapsed_lost : lost cmpℕ (double 12 12) 3 ≡ 2
  -- an entry of an inner page: the largest of the leaf left of it takes its place
  pub inner : Deleting (triple 13 13 12) 13 (2 ∷ 12 ∷ 13 ∷ 12 ∷ []) 1
  pub inner_order : to_list (delete cmpℕ (triple 13 13 12) 13).0 ≡ run 0 13 ++ run 14 26
  -- the leaf gives its largest entry and gets it back from a neighbour of 13 or 14: it has not changed
  pub regained13 : Deleting (double 12 13) 12 (1 ∷ 12 ∷ 12 ∷ []) 1
  pub regained14 : Deleting (double 12 14) 12 (1 ∷ 12 ∷ 13 ∷ []) 1
  -- with 15 it has one more
  pub more15 : Deleting (double 12 15) 12 (1 ∷ 13 ∷ 13 ∷ []) 2
  -- a name that is not there
  pub missing : Deleting (double 12 12) 77 (1 ∷ 12 ∷ 12 ∷ []) 0

-- TALL TREES. How many entries a tree of n levels has, if each page has 12
abbrev pub span : ℕ → ℕ
span zero = 0
span (suc n) = span n + 12 * suc (span n)

-- j entries from b on, each with a child right of it that has s entries; f makes a child from a number on
abbrev pub spread : {S : Type 0} → (ℕ → S) → ℕ → ℕ → ℕ → List (Item ℕ S)
spread f s zero b = []
spread f s (suc j) b = item (entry b) (f (suc b)) ∷ spread f s j (suc b + s)

-- a tree of n levels from a on, each page with 12 entries; and a page of j entries over such trees
abbrev pub least : (n : ℕ) → ℕ → Sub ℕ n
least zero a = tt
least (suc n) a = page (least n a) (spread (least n) (span n) 12 (a + span n))

abbrev pub wide : (n j : ℕ) → ℕ → Sub ℕ (suc n)
wide n j a = page (least n a) (spread (least n) (span n) j (a + span n))

-- three levels; on the way to its smallest name, every page is full
abbrev pub brimming : Tree ℕ
brimming = record { over = 2; root = page (page (wide 0 24 1) (spread (least 1) (span 1) 24 25)) (spread (least 2) (span 2) 24 337) }

-- four levels; on the way to its smallest name two pages are joined, and on the level below the root two are evened out
abbrev pub sparse : Tree ℕ
sparse = record { over = 3; root = page (wide 2 12 0) (item (entry 2196) (wide 2 13 2197) ∷ []) }

-- the most pages that an insert and a delete change, six and four, are reached
pub record Reached : Type 0 where
  pub brimming_good : Good cmpℕ brimming
  pub six : changed nat_eq brimming (insert cmpℕ brimming 0 0).0 ≡ 6
  pub sparse_good : Good cmpℕ sparse
  pub four : changed nat_eq sparse (delete cmpℕ sparse 0).0 ≡ 4
