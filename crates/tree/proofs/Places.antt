-- In a stored tree whose names rise, a page below the root stands at one place only.
use Rattle.std.proofs.Common.{◌≡◌, ℕ, zero, suc, ◌≤◌, ◌⊎◌, List, [], ◌∷◌, ◌++◌, sym, refl, ap, ◌∙◌, subst, inl, inr, arith}
use Rattle.numbers.specs.Order.{Cmp, below, above, turn, IsOrder}
use Rattle.tree.specs.Tree.{Entry, Item, item, Page, page, Sub, All, Child, flat_rest, flat_page, flat, Full, FullPage, fewest, Under, Rises, Good}
use Rattle.tree.specs.Stored.{Shown, map_rest, map_page, load, loaded, Each, SomeRest, SomeKid, Stands, UnderRoot, spots_rest, spots_page, spots, Once, GoodApart}
use Rattle.tree.proofs.Lists.{all_right, all_join, rises-left, rises-right}
use Rattle.tree.proofs.Marks.{Some}

some_left : {A : Type 0} (P : A → Type 0) (l r : List A) → Some P l → Some P (l ++ r)
some_left P [] r s = absurd s
some_left P (x ∷ l) r (inl s) = inl s
some_left P (x ∷ l) r (inr s) = inr (some_left P l r s)

some_right : {A : Type 0} (P : A → Type 0) (l r : List A) → Some P r → Some P (l ++ r)
some_right P [] r s = s
some_right P (x ∷ l) r s = inr (some_right P l r s)

abbrev In : {K : Type 0} → K → List (Entry K) → Type 0
In {K} k es = Some (λ (x : Entry K). x.0 ≡ k) es

-- a page's own names
abbrev Named : {K S : Type 0} → K → Item K S → Type 0
Named k (item e d) = e.0 ≡ k

abbrev Owns : {K S : Type 0} → K → Page K S → Type 0
Owns k (page c xs) = Some (Named k) xs

module _ {K S T : Type 0} (g : S → T) (k : K) where
  rest-owns : (xs : List (Item K S)) → Some (Named k) xs → Some (Named k) (map_rest g xs)
  rest-owns [] s = s
  rest-owns (item e d ∷ xs) (inl s) = inl s
  rest-owns (item e d ∷ xs) (inr s) = inr (rest-owns xs s)

  owns-rest : (xs : List (Item K S)) → Some (Named k) (map_rest g xs) → Some (Named k) xs
  owns-rest [] s = s
  owns-rest (item e d ∷ xs) (inl s) = inl s
  owns-rest (item e d ∷ xs) (inr s) = inr (owns-rest xs s)

  map-owns : (p : Page K S) → Owns k p → Owns k (map_page g p)
  map-owns (page c xs) s = rest-owns xs s

  owns-map : (p : Page K S) → Owns k (map_page g p) → Owns k p
  owns-map (page c xs) s = owns-rest xs s

-- CHILDREN
module _ {K S : Type 0} (P Q : S → Type 0) where
  some-rest-map : ((c : S) → P c → Q c) → (xs : List (Item K S)) → SomeRest P xs → SomeRest Q xs
  some-rest-map f [] s = s
  some-rest-map f (item e d ∷ xs) (inl s) = inl (f d s)
  some-rest-map f (item e d ∷ xs) (inr s) = inr (some-rest-map f xs s)

  pub kid-map : ((c : S) → P c → Q c) → (p : Page K S) → SomeKid P p → SomeKid Q p
  kid-map f (page c xs) (inl s) = inl (f c s)
  kid-map f (page c xs) (inr s) = inr (some-rest-map f xs s)

module _ {K S : Type 0} (P : S → Type 0) (R : Type 0) (f : (c : S) → P c → R) where
  rest_out : (xs : List (Item K S)) → SomeRest P xs → R
  rest_out [] s = absurd s
  rest_out (item e d ∷ xs) (inl s) = f d s
  rest_out (item e d ∷ xs) (inr s) = rest_out xs s

  pub kid-out : (p : Page K S) → SomeKid P p → R
  kid-out (page c xs) (inl s) = f c s
  kid-out (page c xs) (inr s) = rest_out xs s

module _ {K : Type 0} (P Q : ℕ → Type 0) (R : Type 0) (f : (c : ℕ) → P c → Q c → R) where
  rest-elim : (xs : List (Item K ℕ)) → All (Child P) xs → SomeRest Q xs → R
  rest-elim [] a s = absurd s
  rest-elim (item e d ∷ xs) a (inl s) = f d a.0 s
  rest-elim (item e d ∷ xs) a (inr s) = rest-elim xs a.1 s

  pub kid-elim : (p : Page K ℕ) → Each P p → SomeKid Q p → R
  kid-elim (page c xs) a (inl s) = f c a.0 s
  kid-elim (page c xs) a (inr s) = rest-elim xs a.1 s

module _ {K T : Type 0} (P : T → Type 0) (g : ℕ → T) where
  pub rest-each : (xs : List (Item K ℕ)) → All (Child P) (map_rest g xs) → All (Child (λ (c : ℕ). P (g c))) xs
  rest-each [] a = tt
  rest-each (item e d ∷ xs) a = (a.0, rest-each xs a.1)

  pub full-each : (low : ℕ) (p : Page K ℕ) → FullPage P low (map_page g p) → Each (λ c. P (g c)) p
  full-each low (page c xs) a = (a.2, rest-each xs a.3)

  full-owns : (p : Page K ℕ) → FullPage P fewest (map_page g p) → (k : K) × Owns k p
  full-owns (page c []) a = let z = a.0 in absurd (omega arith)
  full-owns (page c (item e d ∷ xs)) a = (e.0, inl refl)

module _ {K S T : Type 0} (f : T → List (Entry K)) (g : S → T) where
  rest-flat : (xs : List (Item K S)) → flat_rest f (map_rest g xs) ≡ flat_rest (λ c. f (g c)) xs
  rest-flat [] = refl
  rest-flat (item e d ∷ xs) = ap (λ (z : List (Entry K)). e ∷ (f (g d) ++ z)) (rest-flat xs)

  page-flat : (p : Page K S) → flat_page f (map_page g p) ≡ flat_page (λ c. f (g c)) p
  page-flat (page c xs) = ap (λ (z : List (Entry K)). f (g c) ++ z) (rest-flat xs)

-- every page of a full tree has a name of its own
stands-owns : {K : Type 0} (d : Shown K) (n b j a : ℕ) → Full K n (load d n b) → Stands d n b j a → (k : K) × Owns k (d a)
stands-owns d zero b j a h s = absurd s
stands-owns {K} d (suc n) b j a h (inl (p, q)) = subst (λ (z : ℕ). (k : K) × Owns k (d z)) q (full-owns (Full K n) (load d n) (d b) h)
stands-owns {K} d (suc n) b j a h (inr s) =
    kid-elim (λ c. Full K n (load d n c)) (λ c. Stands d n c j a) ((k : K) × Owns k (d a)) (λ c i t. stands-owns d n c j a i t) (d b) (full-each (Full K n) (load d n) fewest (d b) h) s

pub stands-some : {K : Type 0} (d : Shown K) (n b j a : ℕ) → Stands d n b j a → 1 ≤ j
stands-some d zero b j a s = absurd s
stands-some d (suc n) b j a (inl (p, q)) = omega arith
stands-some d (suc n) b j a (inr s) = kid-out (λ c. Stands d n c j a) (1 ≤ j) (λ c t. stands-some d n c j a t) (d b) s

module _ {K : Type 0} (cmp : K → K → Cmp) (ord : IsOrder K cmp) where
  under-not : (k : K) (es : List (Entry K)) → Under cmp k es → In k es → ⊥
  under-not k [] u s = s
  under-not k (e ∷ es) u (inl q) =
      let b : cmp k k ≡ below = subst (λ (z : K). cmp k z ≡ below) q u.0 in
      let t : cmp k k ≡ above = ord.turned k k ∙ ap turn b in
      let z : ◌≡◌ {A = ℕ} 0 1 = cc in absurd (omega arith)
  under-not k (e ∷ es) u (inr s) = under-not k es u.1 s

  -- a name is on one side only
  split-not : (k : K) (l r : List (Entry K)) → Rises cmp (l ++ r) → In k l → In k r → ⊥
  split-not k [] r h i s = i
  split-not k (e ∷ l) r h (inl q) s = under-not k r (subst (λ (z : K). Under cmp z r) q (all_right _ l r h.0)) s
  split-not k (e ∷ l) r h (inr i) s = split-not k l r h.1 i s

  module _ {S : Type 0} (f : S → List (Entry K)) (k : K) where
    owns-in : (xs : List (Item K S)) → Some (Named k) xs → In k (flat_rest f xs)
    owns-in [] s = s
    owns-in (item e d ∷ xs) (inl q) = inl q
    owns-in (item e d ∷ xs) (inr s) = inr (some_right _ (f d) (flat_rest f xs) (owns-in xs s))

    kids-in : (xs : List (Item K S)) → SomeRest (λ d. In k (f d)) xs → In k (flat_rest f xs)
    kids-in [] s = s
    kids-in (item e d ∷ xs) (inl s) = inr (some_left _ (f d) (flat_rest f xs) s)
    kids-in (item e d ∷ xs) (inr s) = inr (some_right _ (f d) (flat_rest f xs) (kids-in xs s))

    kid_in : (c : S) (xs : List (Item K S)) → In k (f c) ⊎ SomeRest (λ d. In k (f d)) xs → In k (f c ++ flat_rest f xs)
    kid_in c xs (inl s) = some_left _ (f c) (flat_rest f xs) s
    kid_in c xs (inr s) = some_right _ (f c) (flat_rest f xs) (kids-in xs s)

    page-in : (p : Page K S) → Owns k p ⊎ SomeKid (λ c. In k (f c)) p → In k (flat_page f p)
    page-in (page c xs) (inl o) = some_right _ (f c) (flat_rest f xs) (owns-in xs o)
    page-in (page c xs) (inr s) = kid_in c xs s

    -- a name of the page is in no child
    own-rest : (c : S) (xs : List (Item K S)) → Rises cmp (f c ++ flat_rest f xs) → Some (Named k) xs → In k (f c) ⊎ SomeRest (λ d. In k (f d)) xs → ⊥
    own-rest c [] r o s = o
    own-rest c (item e d ∷ xs) r o (inl s) = split-not k (f c) (flat_rest f (item e d ∷ xs)) r s (owns-in (item e d ∷ xs) o)
    own-rest c (item e d ∷ xs) r (inl q) (inr s) =
        let h : Rises cmp (e ∷ (f d ++ flat_rest f xs)) = rises-right cmp ord (f c) (e ∷ (f d ++ flat_rest f xs)) r in
        under-not k (f d ++ flat_rest f xs) (subst (λ (z : K). Under cmp z (f d ++ flat_rest f xs)) q h.0) (kid_in d xs s)
    own-rest c (item e d ∷ xs) r (inr o) (inr s) = own-rest d xs (rises-right cmp ord (f c) (e ∷ (f d ++ flat_rest f xs)) r).1 o s

    own-child : (p : Page K S) → Rises cmp (flat_page f p) → Owns k p → SomeKid (λ c. In k (f c)) p → ⊥
    own-child (page c xs) r o s = own-rest c xs r o s

    -- what has a name in one child only is told by each child
    module _ (P Q : S → Type 0) (R : Type 0) (p-in : (c : S) → P c → In k (f c)) (q-in : (c : S) → Q c → In k (f c)) (each : (c : S) → Rises cmp (f c) → P c → Q c → R) where
      two-rest : (c : S) (xs : List (Item K S)) → Rises cmp (f c ++ flat_rest f xs) → P c ⊎ SomeRest P xs → Q c ⊎ SomeRest Q xs → R
      two-rest c xs r (inl s) (inl t) = each c (rises-left cmp ord (f c) (flat_rest f xs) r) s t
      two-rest c xs r (inl s) (inr t) = absurd (split-not k (f c) (flat_rest f xs) r (p-in c s) (kids-in xs (some-rest-map Q (λ d. In k (f d)) q-in xs t)))
      two-rest c xs r (inr s) (inl t) = absurd (split-not k (f c) (flat_rest f xs) r (q-in c t) (kids-in xs (some-rest-map P (λ d. In k (f d)) p-in xs s)))
      two-rest c [] r (inr s) (inr t) = absurd s
      two-rest c (item e d ∷ xs) r (inr s) (inr t) = two-rest d xs (rises-right cmp ord (f c) (e ∷ (f d ++ flat_rest f xs)) r).1 s t

      two-kids : (p : Page K S) → Rises cmp (flat_page f p) → SomeKid P p → SomeKid Q p → R
      two-kids (page c xs) r s t = two-rest c xs r s t

  module _ (d : Shown K) (k : K) where
    abbrev N : ℕ → ℕ → List (Entry K)
    N n b = flat K n (load d n b)

    stands-in : (n b j a : ℕ) → Owns k (d a) → Stands d n b j a → In k (N n b)
    stands-in zero b j a o s = absurd s
    stands-in (suc n) b j a o (inl (p, q)) = rw (page-flat (flat K n) (load d n) (d b)) (page-in (N n) k (d b) (inl (subst (λ (z : ℕ). Owns k (d z)) (sym q) o)))
    stands-in (suc n) b j a o (inr s) =
        rw (page-flat (flat K n) (load d n) (d b)) (page-in (N n) k (d b) (inr (kid-map (λ c. Stands d n c j a) (λ c. In k (N n c)) (λ c t. stands-in n c j a o t) (d b) s)))

    unique : (i a j a' : ℕ) → Owns k (d a) → Owns k (d a') → (n b : ℕ) → Rises cmp (N n b) → Stands d n b i a → Stands d n b j a' → (i ≡ j) × (a ≡ a')
    unique i a j a' o o' zero b r s t = absurd s
    unique i a j a' o o' (suc n) b r (inl (p, q)) (inl (p', q')) = (sym p ∙ p', sym q ∙ q')
    unique i a j a' o o' (suc n) b r (inl (p, q)) (inr t) =
        absurd (own-child (N n) k (d b) (rw (page-flat (flat K n) (load d n) (d b)) at r) (subst (λ (z : ℕ). Owns k (d z)) (sym q) o) (kid-map (λ c. Stands d n c j a') (λ c. In k (N n c)) (λ c t. stands-in n c j a' o' t) (d b) t))
    unique i a j a' o o' (suc n) b r (inr s) (inl (p, q)) =
        absurd (own-child (N n) k (d b) (rw (page-flat (flat K n) (load d n) (d b)) at r) (subst (λ (z : ℕ). Owns k (d z)) (sym q) o') (kid-map (λ c. Stands d n c i a) (λ c. In k (N n c)) (λ c t. stands-in n c i a o t) (d b) s))
    unique i a j a' o o' (suc n) b r (inr s) (inr t) =
        two-kids (N n) k (λ c. Stands d n c i a) (λ c. Stands d n c j a') ((i ≡ j) × (a ≡ a')) (λ c s. stands-in n c i a o s) (λ c s. stands-in n c j a' o' s) (λ c h s t. unique i a j a' o o' n c h s t) (d b)
        (rw (page-flat (flat K n) (load d n) (d b)) at r) s t

  module _ (d : Shown K) (n r : ℕ) (g : Good cmp (loaded d n r)) where
    rise : Rises cmp (flat_page (λ c. flat K n (load d n c)) (d r))
    rise = rw (page-flat (flat K n) (load d n) (d r)) at g.rises

    unique-root : (k : K) (i a j a' : ℕ) → Owns k (d a) → Owns k (d a') → UnderRoot d n r i a → UnderRoot d n r j a' → (i ≡ j) × (a ≡ a')
    unique-root k i a j a' o o' s t =
        two-kids (λ c. flat K n (load d n c)) k (λ c. Stands d n c i a) (λ c. Stands d n c j a') ((i ≡ j) × (a ≡ a')) (λ c s. stands-in d k n c i a o s) (λ c s. stands-in d k n c j a' o' s)
        (λ c h s t. unique d k i a j a' o o' n c h s t) (d r) rise s t

    root-owns : (j a : ℕ) → UnderRoot d n r j a → (k : K) × Owns k (d a)
    root-owns j a s = kid-elim (λ c. Full K n (load d n c)) (λ c. Stands d n c j a) ((k : K) × Owns k (d a)) (λ c i t. stands-owns d n c j a i t) (d r) (full-each (Full K n) (load d n) _ (d r) g.filled) s

    -- no sector is on two levels
    pub one-level : (i j a : ℕ) → UnderRoot d n r i a → UnderRoot d n r j a → i ≡ j
    one-level i j a s t = let o = root-owns i a s in (unique-root o.0 i a j a o.1 o.1 s t).0

    -- no page is in two sectors
    pub one-sector : (j a b : ℕ) → UnderRoot d n r j a → UnderRoot d n r j b → load d j a ≡ load d j b → a ≡ b
    one-sector zero a b s t e = let z : 1 ≤ 0 = kid-out (λ c. Stands d n c 0 a) (1 ≤ 0) (λ c t. stands-some d n c 0 a t) (d r) s in absurd (omega arith)
    one-sector (suc j) a b s t e =
        let o = root-owns (suc j) a s in
        let k = o.0 in
        let p : Owns k (map_page (load d j) (d b)) = subst (λ (z : Sub K (suc j)). Owns k z) e (map-owns (load d j) k (d a) o.1) in
        (unique-root k (suc j) a (suc j) b o.1 (owns-map (load d j) k (d b) p) s t).1

-- NO SECTOR TWICE
abbrev pub Mem : ℕ → List ℕ → Type 0
Mem x l = Some (λ (y : ℕ). y ≡ x) l

pub mem-split : (x : ℕ) (l r : List ℕ) → Mem x (l ++ r) → Mem x l ⊎ Mem x r
mem-split x [] r s = inr s
mem-split x (y ∷ l) r (inl s) = inl (inl s)
mem-split x (y ∷ l) r (inr s) = go (mem-split x l r s)
  where
    go : Mem x l ⊎ Mem x r → Mem x (y ∷ l) ⊎ Mem x r
    go (inl s) = inl (inr s)
    go (inr s) = inr s

pub not-mem : (x : ℕ) (l : List ℕ) → (Mem x l → ⊥) → All (λ (y : ℕ). x ≡ y → ⊥) l
not-mem x [] h = tt
not-mem x (y ∷ l) h = (λ e. h (inl (sym e)), not-mem x l (λ s. h (inr s)))

once_join : (l r : List ℕ) → Once l → Once r → ((x : ℕ) → Mem x l → Mem x r → ⊥) → Once (l ++ r)
once_join [] r a b h = b
once_join (y ∷ l) r a b h = (all_join _ l r a.0 (not-mem y r (λ s. h y (inl refl) s)), once_join l r a.1 b (λ x s t. h x (inr s) t))

module _ {K : Type 0} (f : ℕ → List ℕ) (P : ℕ → ℕ → Type 0) (x : ℕ) where
  pull-spots : ((c : ℕ) → Mem x (f c) → (j : ℕ) × P j c) → (xs : List (Item K ℕ)) → Mem x (spots_rest f xs) → (j : ℕ) × SomeRest (P j) xs
  pull-spots h [] s = absurd s
  pull-spots h (item e c ∷ xs) s = go (pull-spots h xs) (mem-split x (f c) (spots_rest f xs) s)
    where
      go : (Mem x (spots_rest f xs) → (j : ℕ) × SomeRest (P j) xs) → Mem x (f c) ⊎ Mem x (spots_rest f xs) → (j : ℕ) × (P j c ⊎ SomeRest (P j) xs)
      go r (inl s) = let t = h c s in (t.0, inl t.1)
      go r (inr s) = let t = r s in (t.0, inr t.1)

  pull-page : ((c : ℕ) → Mem x (f c) → (j : ℕ) × P j c) → (p : Page K ℕ) → Mem x (spots_page f p) → (j : ℕ) × SomeKid (P j) p
  pull-page h (page c xs) s = go (mem-split x (f c) (spots_rest f xs) s)
    where
      go : Mem x (f c) ⊎ Mem x (spots_rest f xs) → (j : ℕ) × (P j c ⊎ SomeRest (P j) xs)
      go (inl s) = let t = h c s in (t.0, inl t.1)
      go (inr s) = let t = pull-spots h xs s in (t.0, inr t.1)

  push-spots : (j : ℕ) → ((c : ℕ) → P j c → Mem x (f c)) → (xs : List (Item K ℕ)) → SomeRest (P j) xs → Mem x (spots_rest f xs)
  push-spots j h [] s = s
  push-spots j h (item e c ∷ xs) (inl s) = some_left _ (f c) (spots_rest f xs) (h c s)
  push-spots j h (item e c ∷ xs) (inr s) = some_right _ (f c) (spots_rest f xs) (push-spots j h xs s)

  push-page : (j : ℕ) → ((c : ℕ) → P j c → Mem x (f c)) → (p : Page K ℕ) → SomeKid (P j) p → Mem x (spots_page f p)
  push-page j h (page c xs) (inl s) = some_left _ (f c) (spots_rest f xs) (h c s)
  push-page j h (page c xs) (inr s) = some_right _ (f c) (spots_rest f xs) (push-spots j h xs s)

-- the sectors of a tree are those where its pages stand
module _ {K : Type 0} (d : Shown K) (x : ℕ) where
  spot-stands : (n b : ℕ) → Mem x (spots d n b) → (j : ℕ) × Stands d n b j x
  spot-stands zero b s = absurd s
  spot-stands (suc n) b (inl q) = (suc n, inl (refl, q))
  spot-stands (suc n) b (inr s) = let t = pull-page (spots d n) (λ j c. Stands d n c j x) x (λ c i. spot-stands n c i) (d b) s in (t.0, inr t.1)

  stands-spot : (j n b : ℕ) → Stands d n b j x → Mem x (spots d n b)
  stands-spot j zero b s = s
  stands-spot j (suc n) b (inl (p, q)) = inl q
  stands-spot j (suc n) b (inr s) = inr (push-page (spots d n) (λ j c. Stands d n c j x) x j (λ c i. stands-spot j n c i) (d b) s)

  pub spot-under : (n r : ℕ) → Mem x (spots_page (spots d n) (d r)) → (j : ℕ) × UnderRoot d n r j x
  spot-under n r s = pull-page (spots d n) (λ j c. Stands d n c j x) x (λ c i. spot-stands n c i) (d r) s

  pub under-spot : (n r j : ℕ) → UnderRoot d n r j x → Mem x (spots_page (spots d n) (d r))
  under-spot n r j s = push-page (spots d n) (λ j c. Stands d n c j x) x j (λ c i. stands-spot j n c i) (d r) s

stands-level : {K : Type 0} (d : Shown K) (n b j a : ℕ) → Stands d n b j a → j ≤ n
stands-level d zero b j a s = absurd s
stands-level d (suc n) b j a (inl (p, q)) = omega arith
stands-level d (suc n) b j a (inr s) = kid-out (λ c. Stands d n c j a) (j ≤ suc n) (λ c t. let i = stands-level d n c j a t in omega arith) (d b) s

module _ {K : Type 0} (cmp : K → K → Cmp) (ord : IsOrder K cmp) (d : Shown K) where
  abbrev M : ℕ → ℕ → List (Entry K)
  M n b = flat K n (load d n b)

  module _ (n : ℕ) (deeper : (c : ℕ) → Rises cmp (M n c) → Full K n (load d n c) → Once (spots d n c)) where
    once-rest : (c : ℕ) (xs : List (Item K ℕ)) → Rises cmp (M n c ++ flat_rest (M n) xs) → Full K n (load d n c) → All (Child (λ (c : ℕ). Full K n (load d n c))) xs → Once (spots d n c ++ spots_rest (spots d n) xs)
    once-rest c [] r f a = once_join (spots d n c) [] (deeper c (rises-left cmp ord (M n c) [] r) f) tt (λ x s t. t)
    once-rest c (item e b ∷ xs) r f a =
        once_join (spots d n c) (spots d n b ++ spots_rest (spots d n) xs) (deeper c (rises-left cmp ord (M n c) (flat_rest (M n) (item e b ∷ xs)) r) f)
        (once-rest b xs (rises-right cmp ord (M n c) (e ∷ (M n b ++ flat_rest (M n) xs)) r).1 a.0 a.1)
        (λ x s t.
        let u = spot-stands d x n c s in
        let k = stands-owns d n c u.0 x f u.1 in
        let v = pull-spots (spots d n) (λ j c. Stands d n c j x) x (λ c i. spot-stands d x n c i) (item e b ∷ xs) t in
        split-not cmp ord k.0 (M n c) (flat_rest (M n) (item e b ∷ xs)) r (stands-in cmp ord d k.0 n c u.0 x k.1 u.1)
        (kids-in cmp ord (M n) k.0 (item e b ∷ xs) (some-rest-map (λ c. Stands d n c v.0 x) (λ c. In k.0 (M n c)) (λ c i. stands-in cmp ord d k.0 n c v.0 x k.1 i) (item e b ∷ xs) v.1)))

    once-page : (p : Page K ℕ) → Rises cmp (flat_page (M n) p) → Each (λ c. Full K n (load d n c)) p → Once (spots_page (spots d n) p)
    once-page (page c xs) r h = once-rest c xs r h.0 h.1

  once-spots : (n b : ℕ) → Rises cmp (M n b) → Full K n (load d n b) → Once (spots d n b)
  once-spots zero b r f = tt
  once-spots (suc n) b r f = (
    not-mem b (spots_page (spots d n) (d b)) (λ s.
        let u = spot-under d b n b s in
        let k = full-owns (Full K n) (load d n) (d b) f in
        let z = (unique cmp ord d k.0 (suc n) b u.0 b k.1 k.1 (suc n) b r (inl (refl, refl)) (inr u.1)).0 in
        let y : u.0 ≤ n = kid-out (λ c. Stands d n c u.0 b) (u.0 ≤ n) (λ c t. stands-level d n c u.0 b t) (d b) u.1 in
        absurd (omega arith)),
    once-page n (λ c i j. once-spots n c i j) (d b) (rw (page-flat (flat K n) (load d n) (d b)) at r) (full-each (Full K n) (load d n) fewest (d b) f),
  )

pub good-apart : {K : Type 0} (cmp : K → K → Cmp) → IsOrder K cmp → GoodApart cmp
good-apart {K} cmp ord d n r g = once-page cmp ord d n (λ c i j. once-spots cmp ord d n c i j) (d r) (rw (page-flat (flat K n) (load d n) (d r)) at g.rises) (full-each (Full K n) (load d n) _ (d r) g.filled)
