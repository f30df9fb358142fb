-- Worked examples of stored trees: what stays and what is set free.
use Rattle.std.specs.Prelude.{◌≡◌, ℕ, zero, suc, ◌+◌, List, [], ◌∷◌, nat_eq}
use Rattle.numbers.specs.Order.{cmpℕ}
use Rattle.tree.specs.Tree.{Item, item, page}
use Rattle.tree.specs.Delete.{delete}
use Rattle.tree.specs.Stored.{Shown, loaded, insert_stored, replaced, spots_page, spots, set_free}
use Rattle.tree.specs.Examples.{entry, double}

-- the entries of a leaf as stored
abbrev pub stored_leaf : ℕ → ℕ → List (Item ℕ ℕ)
stored_leaf a zero = []
stored_leaf a (suc n) = item (entry a) 0 ∷ stored_leaf (suc a) n

-- a root in sector 0 over leaves in sectors 1 and 2, of 12 and 13 entries
abbrev pub shown : Shown ℕ
shown zero = page 1 (item (entry 12) 2 ∷ [])
shown (suc zero) = page 0 (stored_leaf 0 12)
shown (suc (suc a)) = page 0 (stored_leaf 13 13)

-- free sectors from 10 on
abbrev pub from_ten : ℕ → ℕ
from_ten i = 10 + i

abbrev pub deleted : ℕ → Shown ℕ
deleted k = (replaced nat_eq from_ten shown 1 0 (delete cmpℕ (loaded shown 1 0) k).0).0

abbrev pub inserted : ℕ → Shown ℕ
inserted k = (insert_stored cmpℕ from_ten shown 1 0 (k, k)).1

-- the sectors below the root, and how many were set free
abbrev pub LeavesIn : Shown ℕ → List ℕ → ℕ → Type 0
LeavesIn d l f = (spots_page (spots d 1) (d 0) ≡ l) × (set_free shown 1 0 d 1 ≡ f)

pub record StoredExamples : Type 0 where
  pub before : loaded shown 1 0 ≡ double 12 13
  pub before_in : LeavesIn shown (1 ∷ 2 ∷ []) 0
  -- the left leaf gets its largest entry back and stays in its sector, the right one's sector is set free
  pub regained : LeavesIn (deleted 12) (1 ∷ 10 ∷ []) 1
  -- both leaves change
  pub evened : LeavesIn (deleted 3) (10 ∷ 11 ∷ []) 2
  -- a name into the right leaf
  pub put : LeavesIn (inserted 30) (1 ∷ 10 ∷ []) 1
