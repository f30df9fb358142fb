-- What the tree does, said of the list of its entries, and what it costs. Each for any order of names.
use Rattle.std.specs.Prelude.{◌≡◌, ℕ, suc, ◌+◌, ◌-◌, ◌<◌, ◌≤◌, Bool, ◌⊎◌, List, [], ◌∷◌, length, ◌≢◌}
use Rattle.numbers.specs.Order.{Cmp, same, IsOrder}
use Rattle.tree.specs.Tree.{Entry, Page, Tree, most, Found, absent, at, pick, to_list, pages, levels, most_levels, lookup, Good, empty}
use Rattle.tree.specs.Insert.{Up, one, two, insert}
use Rattle.tree.specs.Delete.{lent, size, even, if_found, delete, lost}
use Rattle.tree.specs.Fresh.{IsSame, changed}

module _ {K : Type 0} (cmp : K → K → Cmp) where
  -- a rising list with x put in its place, or in place of the entry of that name
  abbrev pub put : Entry K → List (Entry K) → List (Entry K)
  put x [] = x ∷ []
  put x (e ∷ es) = pick (cmp x.0 e.0) (x ∷ e ∷ es) (x ∷ es) (e ∷ put x es)

  -- a rising list without the entry of a name
  abbrev pub without : K → List (Entry K) → List (Entry K)
  without k [] = []
  without k (e ∷ es) = pick (cmp k e.0) (e ∷ es) es (e ∷ without k es)

  abbrev pub find : K → List (Entry K) → Found
  find k [] = absent
  find k (e ∷ es) = pick (cmp k e.0) absent (at e.1) (find k es)

-- the most names: one for each sector that a file can begin in
abbrev pub most_names : ℕ
most_names = 16382

-- how many entries the pages have
abbrev pub sizes : {K S : Type 0} → Up K (Page K S) → List ℕ
sizes (one p) = size p ∷ []
sizes (two p e q) = size p ∷ size q ∷ []

-- a page left with 11 entries and a neighbour of c: both with the entry between them become one page, or share evenly
pub record Shares (K S : Type 0) : Type 0 where
  pub joined : (p : Page K S) (e : Entry K) (q : Page K S) → size p + size q ≡ 23 → sizes (even p e q) ≡ 24 ∷ []
  pub from_right : (p : Page K S) (e : Entry K) (q : Page K S) → size p ≡ 11 → 12 < size q → sizes (even p e q) ≡ (11 + lent (size q)) ∷ (size q - lent (size q)) ∷ []
  pub from_left : (p : Page K S) (e : Entry K) (q : Page K S) → 12 < size p → size q ≡ 11 → sizes (even p e q) ≡ (size p - lent (size p)) ∷ (11 + lent (size p)) ∷ []
  -- a neighbour of 13 gives 12 and 12, one of 24 gives 17 and 18
  pub of13 : (p : Page K S) (e : Entry K) (q : Page K S) → size p ≡ 11 → size q ≡ 13 → sizes (even p e q) ≡ 12 ∷ 12 ∷ []
  pub of24 : (p : Page K S) (e : Entry K) (q : Page K S) → size p ≡ 11 → size q ≡ 24 → sizes (even p e q) ≡ 17 ∷ 18 ∷ []

-- for every order of names
abbrev pub AnyOrder : (K : Type 0) → ((K → K → Cmp) → Type 0) → Type 0
AnyOrder K P = (cmp : K → K → Cmp) → IsOrder K cmp → P cmp

module _ {K : Type 0} (cmp : K → K → Cmp) where
  -- search finds what the list of entries has
  abbrev pub LookupFinds : Type 0
  LookupFinds = (t : Tree K) (k : K) → Good cmp t → lookup cmp t k ≡ find cmp k (to_list t)

  -- INSERT. The entries are those before with this one put, and nothing else
  abbrev pub InsertPuts : Type 0
  InsertPuts = (t : Tree K) (k : K) (v : ℕ) → Good cmp t → to_list (insert cmp t k v).0 ≡ put cmp (k, v) (to_list t)

  -- the tree stays good if it keeps to four levels
  abbrev pub InsertKeeps : Type 0
  InsertKeeps = (t : Tree K) (k : K) (v : ℕ) → Good cmp t → levels (insert cmp t k v).0 ≤ most_levels → Good cmp (insert cmp t k v).0

  -- a tree about to grow a fifth level has 54,924 entries at least: with fewer it stays good
  abbrev pub InsertLevels : Type 0
  InsertLevels = (t : Tree K) (k : K) (v : ℕ) → Good cmp t → length (to_list t) < 54924 → Good cmp (insert cmp t k v).0

  -- the level rises only when the root splits, which has 24 entries then
  abbrev pub InsertRises : Type 0
  InsertRises = (t : Tree K) (k : K) (v : ℕ) → Good cmp t →
      let u = (insert cmp t k v).0 in (levels u ≡ levels t) ⊎ ((levels u ≡ suc (levels t)) × (size t.root ≡ most) × (size u.root ≡ 1))

  -- so a directory of at most 16,382 names stays good
  abbrev pub InsertWithin : Type 0
  InsertWithin = (t : Tree K) (k : K) (v : ℕ) → Good cmp t → length (to_list t) ≤ most_names → Good cmp (insert cmp t k v).0

  -- the pages that an insert gains: of a new name, what it changes beyond a page of each level below the root
  abbrev pub gained : Tree K → K → ℕ → ℕ
  gained t k v = if_found (lookup cmp t k) ((insert cmp t k v).1 - t.over) 0

  abbrev pub InsertGains : Type 0
  InsertGains = (t : Tree K) (k : K) (v : ℕ) → Good cmp t → pages (insert cmp t k v).0 ≡ pages t + gained t k v

  -- at most six pages change
  abbrev pub InsertSix : Type 0
  InsertSix = (t : Tree K) (k : K) (v : ℕ) → levels (insert cmp t k v).0 ≤ most_levels → (insert cmp t k v).1 ≤ 6

  -- of a new name a page of each level below the root changes at least, of a present one at most
  abbrev pub InsertPath : Type 0
  InsertPath = (t : Tree K) (k : K) (v : ℕ) → Good cmp t → (lookup cmp t k ≡ absent → t.over ≤ (insert cmp t k v).1) × ((w : ℕ) → lookup cmp t k ≡ at w → (insert cmp t k v).1 ≤ t.over)

  -- F: with a number that the name does not have yet, the changed pages are those counted
  abbrev pub InsertChanges : Type 0
  InsertChanges = (eq : K → K → Bool) → IsSame K eq → (t : Tree K) (k : K) (v : ℕ) → Good cmp t → (lookup cmp t k ≢ at v) → changed eq t (insert cmp t k v).0 ≡ (insert cmp t k v).1

  -- with the number that it has already, and names that compare as same one name, nothing changes
  abbrev pub InsertAgain : Type 0
  InsertAgain = ((a b : K) → cmp a b ≡ same → a ≡ b) → (t : Tree K) (k : K) (v : ℕ) → Good cmp t → lookup cmp t k ≡ at v → (insert cmp t k v).0 ≡ t

  -- DELETE. The entries are those before without this one, and nothing else
  abbrev pub DeleteTakes : Type 0
  DeleteTakes = (t : Tree K) (k : K) → Good cmp t → to_list (delete cmp t k).0 ≡ without cmp k (to_list t)

  -- the tree stays good
  abbrev pub DeleteKeeps : Type 0
  DeleteKeeps = (t : Tree K) (k : K) → Good cmp t → Good cmp (delete cmp t k).0

  -- the pages that are lost
  abbrev pub DeleteLoses : Type 0
  DeleteLoses = (t : Tree K) (k : K) → Good cmp t → pages (delete cmp t k).0 + lost cmp t k ≡ pages t

  -- F: the changed pages are those counted
  abbrev pub DeleteChanges : Type 0
  DeleteChanges = (eq : K → K → Bool) → IsSame K eq → (t : Tree K) (k : K) → Good cmp t → changed eq t (delete cmp t k).0 ≡ (delete cmp t k).1

  -- at most as many pages change as there are levels: four
  abbrev pub DeleteMost : Type 0
  DeleteMost = (t : Tree K) (k : K) → Good cmp t → (delete cmp t k).1 ≤ levels t

  -- the tree of a new directory is good
  abbrev pub EmptyGood : Type 0
  EmptyGood = Good cmp (empty K)
