-- The tree as sectors hold it: a page as stored has the sectors of its children in their place.
use Rattle.std.specs.Prelude.{◌≡◌, ℕ, zero, suc, ◌+◌, ◌<◌, ◌≤◌, Bool, true, false, cond, ◌||◌, ◌⊎◌, List, [], ◌∷◌, ◌++◌, ◌==◌, ◌≢◌}
use Rattle.numbers.specs.Order.{Cmp}
use Rattle.tree.specs.Tree.{Entry, Item, item, Page, page, Sub, Tree, pick, Found, absent, at, lookup, All, Child, pages, levels, most_levels, Good}
use Rattle.tree.specs.Insert.{Up, one, two, splice, before, fit, insert}
use Rattle.tree.specs.Delete.{delete}
use Rattle.tree.specs.Fresh.{IsSame, any_child, same_sub, has, changed}

-- what the sectors show
abbrev pub Shown : Type 0 → Type 0
Shown K = ℕ → Page K ℕ

module _ {K S T : Type 0} (g : S → T) where
  abbrev pub map_rest : List (Item K S) → List (Item K T)
  map_rest [] = []
  map_rest (item e d ∷ xs) = item e (g d) ∷ map_rest xs

  abbrev pub map_page : Page K S → Page K T
  map_page (page c xs) = page (g c) (map_rest xs)

  abbrev pub map_up : Up K S → Up K T
  map_up (one c) = one (g c)
  map_up (two c e d) = two (g c) e (g d)

-- the tree of n levels at a sector, and the tree whose root is there
abbrev pub load : {K : Type 0} → Shown K → (n : ℕ) → ℕ → Sub K n
load d zero a = tt
load d (suc n) a = map_page (load d n) (d a)

abbrev pub loaded : {K : Type 0} → Shown K → ℕ → ℕ → Tree K
loaded d n r = record { over = n; root = load d (suc n) r }

abbrev pub write : {K : Type 0} → Shown K → ℕ → Page K ℕ → Shown K
write d a p = λ (b : ℕ). cond (a == b) p (d b)

-- every sector of the tree of n levels at a is as B says
abbrev pub Each : {K : Type 0} → (ℕ → Type 0) → Page K ℕ → Type 0
Each B (page c xs) = B c × All (Child B) xs

abbrev pub Sectors : {K : Type 0} → (ℕ → Type 0) → Shown K → (n : ℕ) → ℕ → Type 0
Sectors B d zero a = Unit {0}
Sectors B d (suc n) a = B a × Each (Sectors B d n) (d a)

-- for every compare
abbrev pub AnyCompare : (K : Type 0) → ((K → K → Cmp) → Type 0) → Type 0
AnyCompare K P = (cmp : K → K → Cmp) → P cmp

-- SEARCH. What a page says of a name: its number, or under which child to look
pub data Step : Type 0 where
  found : ℕ → Step
  down : ℕ → Step

abbrev pub onward : (ℕ → Found) → Step → Found
onward f (found v) = at v
onward f (down a) = f a

module _ {K : Type 0} (cmp : K → K → Cmp) where
  abbrev pub step_in : K → ℕ → List (Item K ℕ) → Step
  step_in k c [] = down c
  step_in k c (item e d ∷ xs) = pick (cmp k e.0) (down c) (found e.1) (step_in k d xs)

  abbrev pub step : K → Page K ℕ → Step
  step k (page c xs) = step_in k c xs

  -- a sector is read on each level
  abbrev pub seek : Shown K → (n : ℕ) → K → ℕ → Found
  seek d zero k a = absent
  seek d (suc n) k a = onward (seek d n k) (step k (d a))

-- INSERT. The sectors free 0, free 1 and so on are for changed pages, taken one by one; r is the root's
-- b is neither the root's nor one of the free ones from i up to m
abbrev pub Off : (ℕ → ℕ) → ℕ → ℕ → ℕ → ℕ → Type 0
Off free r m i b = ((j : ℕ) → i ≤ j → j < m → free j ≢ b) × (r ≢ b)

module _ {K : Type 0} (free : ℕ → ℕ) where
  -- pages put to the next free sectors
  abbrev pub store : Shown K → ℕ → Up K (Page K ℕ) → Up K ℕ × Shown K × ℕ
  store d i (one p) = (one (free i), write d (free i) p, i + 1)
  store d i (two p e q) = (two (free i) e (free (i + 1)), write (write d (free i) p) (free (i + 1)) q, i + 2)

  -- the root put to its own sector; one of 25 with the middle entry alone, over two pages
  abbrev pub store_root : Shown K → ℕ → ℕ → ℕ → Up K (Page K ℕ) → ℕ × Shown K × ℕ
  store_root d i r n (one p) = (n, write d r p, i)
  store_root d i r n (two p e q) = (suc n, write (write (write d (free i) p) (free (i + 1)) q) r (page (free i) (item e (free (i + 1)) ∷ [])), i + 2)

-- a page's part: changed right here, or the child to go to and the page around what comes back
pub data Way (K : Type 0) : Type 0 where
  here : Page K ℕ → Way K
  into : ℕ → (Up K ℕ → Page K ℕ) → Way K

abbrev pub beyond : {K : Type 0} → ℕ → Entry K → Way K → Way K
beyond c e (here p) = here (before c e p)
beyond c e (into a r) = into a (λ u. before c e (r u))

-- the page after the part below it, where f inserts in a child
abbrev pub around : {K : Type 0} → (ℕ → Up K ℕ × Shown K × ℕ) → Shown K → ℕ → Way K → Page K ℕ × Shown K × ℕ
around f d i (here p) = (p, d, i)
around f d i (into c r) = let s = f c in (r s.0, s.1, s.2)

module _ {K : Type 0} (cmp : K → K → Cmp) where
  abbrev pub way_in : Entry K → ℕ → List (Item K ℕ) → Way K
  way_in x c [] = into c (λ u. splice u [])
  way_in x c (item e d ∷ xs) = pick (cmp x.0 e.0) (into c (λ u. splice u (item e d ∷ xs))) (here (page c (item x d ∷ xs))) (beyond c e (way_in x d xs))

  abbrev pub way : Entry K → Page K ℕ → Way K
  way x (page c xs) = way_in x c xs

module _ {K : Type 0} (cmp : K → K → Cmp) (free : ℕ → ℕ) where
  abbrev pub ins_stored : (n : ℕ) → Entry K → Shown K → ℕ → ℕ → Up K ℕ × Shown K × ℕ
  ins_stored zero x d i a = (two 0 x 0, d, i)
  ins_stored (suc n) x d i a = let w = around (ins_stored n x d i) d i (way cmp x (d a)) in store free w.1 w.2 (fit w.0)

  -- into the tree of n levels below its root at r: the new levels, what the sectors show then, and the free sectors taken
  abbrev pub insert_stored : Shown K → (n r : ℕ) → Entry K → ℕ × Shown K × ℕ
  insert_stored d n r x = let w = around (ins_stored n x d 0) d 0 (way cmp x (d r)) in store_root free w.1 w.2 r n (fit w.0)

-- m free sectors are distinct, and neither they nor the root's are in the tree below the root
pub record Ready {K : Type 0} (free : ℕ → ℕ) (d : Shown K) (n r m : ℕ) : Type 0 where
  pub distinct : (i j : ℕ) → i < m → j < m → free i ≡ free j → i ≡ j
  pub apart : (i : ℕ) → i < m → r ≢ free i
  pub off : Each (Sectors (Off free r m 0) d n) (d r)

-- a stored insert: the new tree is there, F free sectors are taken, and no other sector but the root's is written
pub record Inserted {K : Type 0} (cmp : K → K → Cmp) (free : ℕ → ℕ) (d : Shown K) (n r : ℕ) (k : K) (v : ℕ) : Type 0 where
  pub tree : let s = insert_stored cmp free d n r (k, v) in loaded s.1 s.0 r ≡ (insert cmp (loaded d n r) k v).0
  pub taken : (insert_stored cmp free d n r (k, v)).2 ≡ (insert cmp (loaded d n r) k v).1
  pub kept : (b : ℕ) → Off free r (insert cmp (loaded d n r) k v).1 0 b → (insert_stored cmp free d n r (k, v)).1 b ≡ d b

module _ {K : Type 0} (cmp : K → K → Cmp) where
  abbrev pub SeekLooks : Type 0
  SeekLooks = (d : Shown K) (n r : ℕ) (k : K) → seek cmp d (suc n) k r ≡ lookup cmp (loaded d n r) k

  -- with as many free sectors as pages change
  abbrev pub InsertStores : Type 0
  InsertStores = (free : ℕ → ℕ) (d : Shown K) (n r : ℕ) (k : K) (v : ℕ) →
      Ready free d n r (insert cmp (loaded d n r) k v).1 → Inserted cmp free d n r k v

-- DELETE. Any new tree: pages that stood below the old root stay where they are, the others go to the free sectors
module _ {K : Type 0} (eq : K → K → Bool) (d : Shown K) where
  -- f of the first child that h asks for
  abbrev pub first_in : (ℕ → Bool) → (ℕ → ℕ) → ℕ → List (Item K ℕ) → ℕ
  first_in h f c [] = f c
  first_in h f c (item e a ∷ xs) = cond (h c) (f c) (first_in h f a xs)

  abbrev pub first_page : (ℕ → Bool) → (ℕ → ℕ) → Page K ℕ → ℕ
  first_page h f (page c xs) = first_in h f c xs

  -- the sector where the page s of the tree of m levels at a stands
  abbrev pub where_is : (m : ℕ) → ℕ → (n : ℕ) → Sub K n → ℕ
  where_is zero a n s = a
  where_is (suc m) a n s = cond (same_sub eq (suc m) n (load d (suc m) a) s) a (first_page (λ b. has eq m (load d m b) n s) (λ b. where_is m b n s) (d a))

-- is s a page below the root?
abbrev pub has_below : {K : Type 0} → (K → K → Bool) → Tree K → (n : ℕ) → Sub K n → Bool
has_below eq t n s = any_child (λ c. has eq t.over c n s) t.root

-- children laid one after another, where f lays one
module _ {K S : Type 0} (f : S → Shown K → ℕ → ℕ × Shown K × ℕ) where
  abbrev pub lay_rest : List (Item K S) → Shown K → ℕ → List (Item K ℕ) × Shown K × ℕ
  lay_rest [] d i = ([], d, i)
  lay_rest (item e s ∷ xs) d i = let u = f s d i in let w = lay_rest xs u.1 u.2 in (item e u.0 ∷ w.0, w.1, w.2)

  abbrev pub lay_page : Page K S → Shown K → ℕ → Page K ℕ × Shown K × ℕ
  lay_page (page c xs) d i = let u = f c d i in let w = lay_rest xs u.1 u.2 in (page u.0 w.0, w.1, w.2)

module _ {K : Type 0} (free : ℕ → ℕ) (o : (n : ℕ) → Sub K n → Bool) (place : (n : ℕ) → Sub K n → ℕ) where
  -- a page that o marks stays at its place; another goes behind its children to the next free sector
  abbrev pub lay : (n : ℕ) → Sub K n → Shown K → ℕ → ℕ × Shown K × ℕ
  lay zero s d i = (0, d, i)
  lay (suc n) s d i = let w = lay_page (lay n) s d i in cond {A = ℕ × Shown K × ℕ} (o (suc n) s) (place (suc n) s, d, i) (free w.2, write w.1 (free w.2) w.0, w.2 + 1)

-- the tree u in place of the one of n levels below its root at r: what the sectors show then, and the free sectors taken
abbrev pub replaced : {K : Type 0} → (K → K → Bool) → (ℕ → ℕ) → Shown K → (n r : ℕ) → Tree K → Shown K × ℕ
replaced eq free d n r u =
    let w = lay_page (lay free (has_below eq (loaded d n r)) (λ j s. first_page eq d (λ b. has eq n (load d n b) j s) (λ b. where_is eq d n b j s) (d r)) u.over) u.root d 0 in (write w.1 r w.0, w.2)

-- the tree u is there, as many free sectors are taken as pages change, and no other sector but the root's is written
pub record Replaced {K : Type 0} (eq : K → K → Bool) (free : ℕ → ℕ) (d : Shown K) (n r : ℕ) (u : Tree K) : Type 0 where
  pub tree : loaded (replaced eq free d n r u).0 u.over r ≡ u
  pub taken : (replaced eq free d n r u).1 ≡ changed eq (loaded d n r) u
  pub kept : (b : ℕ) → Off free r (changed eq (loaded d n r) u) 0 b → (replaced eq free d n r u).0 b ≡ d b

-- any new tree of no more levels
abbrev pub ReplaceStores : Type 0 → Type 0
ReplaceStores K = (eq : K → K → Bool) → IsSame K eq → (free : ℕ → ℕ) (d : Shown K) (n r : ℕ) (u : Tree K) → u.over ≤ n → Ready free d n r (changed eq (loaded d n r) u) → Replaced eq free d n r u

-- so a delete, with as many free sectors as it counts changed pages
abbrev pub DeleteStores : {K : Type 0} → (K → K → Cmp) → Type 0
DeleteStores {K} cmp = (eq : K → K → Bool) → IsSame K eq → (free : ℕ → ℕ) (d : Shown K) (n r : ℕ) (k : K) → Good cmp (loaded d n r) →
    Ready free d n r (delete cmp (loaded d n r) k).1 → Replaced eq free d n r (delete cmp (loaded d n r) k).0

-- WHAT IS SET FREE. One of the children of a page is as P says
abbrev pub SomeRest : {K S : Type 0} → (S → Type 0) → List (Item K S) → Type 0
SomeRest P [] = ⊥
SomeRest P (item e d ∷ xs) = P d ⊎ SomeRest P xs

abbrev pub SomeKid : {K S : Type 0} → (S → Type 0) → Page K S → Type 0
SomeKid P (page c xs) = P c ⊎ SomeRest P xs

-- in the tree of n levels at b, the sector a holds a page of j levels: that page is load d j a
abbrev pub Stands : {K : Type 0} → Shown K → (n b j a : ℕ) → Type 0
Stands d zero b j a = ⊥
Stands d (suc n) b j a = ((suc n ≡ j) × (b ≡ a)) ⊎ SomeKid (λ c. Stands d n c j a) (d b)

-- so below the root at r
abbrev pub UnderRoot : {K : Type 0} → Shown K → (n r j a : ℕ) → Type 0
UnderRoot d n r j a = SomeKid (λ c. Stands d n c j a) (d r)

-- d' holds the tree u in place of the one of n levels below its root at r, and m free sectors were taken
pub record Frees {K : Type 0} (eq : K → K → Bool) (free : ℕ → ℕ) (d : Shown K) (n r : ℕ) (d' : Shown K) (u : Tree K) (m : ℕ) : Type 0 where
  -- an old page that is a page of the new tree stays in its sector
  pub stays : (j a : ℕ) → UnderRoot d n r j a → has_below eq u j (load d j a) ≡ true → UnderRoot d' u.over r j a
  -- and only such a page: the sector of any other is one of the new tree no more
  pub only : (j a : ℕ) → UnderRoot d n r j a → (i : ℕ) → UnderRoot d' u.over r i a → has_below eq u j (load d j a) ≡ true
  -- every sector of the new tree was one of the old tree, on the same level, or is one of the free ones
  pub others : (j a : ℕ) → UnderRoot d' u.over r j a → UnderRoot d n r j a ⊎ ((i : ℕ) × (i < m) × (free i ≡ a))

-- any new tree of no more levels, over a good one
abbrev pub ReplaceFrees : {K : Type 0} → (K → K → Cmp) → Type 0
ReplaceFrees {K} cmp = (eq : K → K → Bool) → IsSame K eq → (free : ℕ → ℕ) (d : Shown K) (n r : ℕ) (u : Tree K) → u.over ≤ n → Good cmp (loaded d n r) → let m = changed eq (loaded d n r) u in
    Ready free d n r m → Frees eq free d n r (replaced eq free d n r u).0 u m

-- so a delete
abbrev pub DeleteFrees : {K : Type 0} → (K → K → Cmp) → Type 0
DeleteFrees {K} cmp = (eq : K → K → Bool) → IsSame K eq → (free : ℕ → ℕ) (d : Shown K) (n r : ℕ) (k : K) → Good cmp (loaded d n r) → let u = delete cmp (loaded d n r) k in
    Ready free d n r u.1 → Frees eq free d n r (replaced eq free d n r u.0).0 u.0 u.1

-- an insert of a number that the name does not have yet
abbrev pub InsertFrees : {K : Type 0} → (K → K → Cmp) → Type 0
InsertFrees {K} cmp = (eq : K → K → Bool) → IsSame K eq → (free : ℕ → ℕ) (d : Shown K) (n r : ℕ) (k : K) (v : ℕ) → Good cmp (loaded d n r) → (lookup cmp (loaded d n r) k ≢ at v) → let u = insert cmp (loaded d n r) k v in
    Ready free d n r u.1 → Frees eq free d n r (insert_stored cmp free d n r (k, v)).1 u.0 u.1

-- the sectors of the tree of n levels at b, page by page
abbrev pub spots_rest : {K : Type 0} → (ℕ → List ℕ) → List (Item K ℕ) → List ℕ
spots_rest f [] = []
spots_rest f (item e b ∷ xs) = f b ++ spots_rest f xs

abbrev pub spots_page : {K : Type 0} → (ℕ → List ℕ) → Page K ℕ → List ℕ
spots_page f (page c xs) = f c ++ spots_rest f xs

abbrev pub spots : {K : Type 0} → Shown K → (n b : ℕ) → List ℕ
spots d zero b = []
spots d (suc n) b = b ∷ spots_page (spots d n) (d b)

-- no number twice
abbrev pub Once : List ℕ → Type 0
Once [] = Unit {0}
Once (x ∷ xs) = All (λ (y : ℕ). x ≢ y) xs × Once xs

-- below the root of a good stored tree no sector stands twice
abbrev pub GoodApart : {K : Type 0} → (K → K → Cmp) → Type 0
GoodApart {K} cmp = (d : Shown K) (n r : ℕ) → Good cmp (loaded d n r) → Once (spots_page (spots d n) (d r))

-- is x in a list?
abbrev pub within : ℕ → List ℕ → Bool
within x [] = false
within x (y ∷ l) = x == y || within x l

-- the list has the sectors where pages stand, and no others
abbrev pub SpotsStand : Type 0 → Type 0
SpotsStand K = (d : Shown K) (n r x : ℕ) → let l = spots_page (spots d n) (d r) in ((j : ℕ) → UnderRoot d n r j x → within x l ≡ true) × (within x l ≡ true → (j : ℕ) × UnderRoot d n r j x)

-- how many of a list are not in A
abbrev pub missing : List ℕ → List ℕ → ℕ
missing A [] = 0
missing A (x ∷ xs) = cond (within x A) 0 1 + missing A xs

-- how many sectors below the old root the new tree, of n' levels below its root, uses no more
abbrev pub set_free : {K : Type 0} → Shown K → (n r : ℕ) → Shown K → ℕ → ℕ
set_free d n r d' n' = missing (spots_page (spots d' n') (d' r)) (spots_page (spots d n) (d r))

-- pages before and free sectors taken are as many as pages after and sectors set free
abbrev pub ReplaceBalances : {K : Type 0} → (K → K → Cmp) → Type 0
ReplaceBalances {K} cmp = (eq : K → K → Bool) → IsSame K eq → (free : ℕ → ℕ) (d : Shown K) (n r : ℕ) (u : Tree K) → u.over ≤ n → Good cmp (loaded d n r) → Good cmp u → let m = changed eq (loaded d n r) u in
    Ready free d n r m → pages (loaded d n r) + m ≡ pages u + set_free d n r (replaced eq free d n r u).0 u.over

-- so of a delete
abbrev pub DeleteBalances : {K : Type 0} → (K → K → Cmp) → Type 0
DeleteBalances {K} cmp = (eq : K → K → Bool) → IsSame K eq → (free : ℕ → ℕ) (d : Shown K) (n r : ℕ) (k : K) → Good cmp (loaded d n r) → let u = delete cmp (loaded d n r) k in
    Ready free d n r u.1 → pages (loaded d n r) + u.1 ≡ pages u.0 + set_free d n r (replaced eq free d n r u.0).0 u.0.over

-- and of an insert that keeps to four levels, of a number that the name does not have yet
abbrev pub InsertBalances : {K : Type 0} → (K → K → Cmp) → Type 0
InsertBalances {K} cmp = (eq : K → K → Bool) → IsSame K eq → (free : ℕ → ℕ) (d : Shown K) (n r : ℕ) (k : K) (v : ℕ) → Good cmp (loaded d n r) → (lookup cmp (loaded d n r) k ≢ at v) → let u = insert cmp (loaded d n r) k v in
    levels u.0 ≤ most_levels → Ready free d n r u.1 → pages (loaded d n r) + u.1 ≡ pages u.0 + set_free d n r (insert_stored cmp free d n r (k, v)).1 u.0.over
