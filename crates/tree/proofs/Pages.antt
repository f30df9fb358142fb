-- Pages gained, lost and changed.
use Rattle.std.proofs.Common.{◌≡◌, ℕ, zero, suc, ◌+◌, ◌*◌, ◌≤◌, Bool, true, false, cond, leb, List, [], ◌∷◌, ◌++◌, length, take, drop, sym, refl, ap, ◌∙◌, arith}
use Rattle.std.proofs.lemmas.List.{take-append-drop}
use Rattle.numbers.specs.Order.{Cmp, below, same, above, IsOrder}
use Rattle.tree.specs.Tree.{absent, at, lookup, Rises, Good, Entry, Item, item, Page, page, Sub, flat_rest, flat_page, flat, pick, Tree, to_list, All, pages_rest, pages_page, pages_of, pages}
use Rattle.tree.specs.Insert.{Up, one, two, tops, splice, before, halves, cut, fit, ins_in, ins_page, ins, grow, insert}
use Rattle.tree.specs.Laws.{find, InsertSix}
use Rattle.tree.proofs.Lists.{all_left, all_right, all_map, not-found}
use Rattle.tree.proofs.Look.{lookup-finds}

module _ {K : Type 0} where
  abbrev pub pages_up : {S : Type 0} → (S → ℕ) → Up K S → ℕ
  pages_up π (one c) = π c
  pages_up π (two c e d) = π c + π d

  module _ {S : Type 0} (π : S → ℕ) where
    pub splice-pages : (u : Up K S) (xs : List (Item K S)) → pages_page π (splice u xs) ≡ 1 + (pages_up π u + pages_rest π xs)
    splice-pages (one c) xs = refl
    splice-pages (two c e d) xs = omega arith

    pub before-pages : (c : S) (e : Entry K) (p : Page K S) → pages_page π (before c e p) ≡ π c + pages_page π p
    before-pages c e (page d xs) = omega arith

    pub rest-pages : (l r : List (Item K S)) → pages_rest π (l ++ r) ≡ pages_rest π l + pages_rest π r
    rest-pages [] r = omega arith
    rest-pages (item e d ∷ l) r = let h = rest-pages l r in omega arith

    halves-pages : (c : S) (l r : List (Item K S)) → pages_up (pages_page π) (halves c l r) ≡ tops (halves c l r) + (π c + (pages_rest π l + pages_rest π r))
    halves-pages c l [] = omega arith
    halves-pages c l (item e d ∷ r) = omega arith

    pub cut-pages : (m : ℕ) (c : S) (xs : List (Item K S)) → pages_up (pages_page π) (cut m c xs) ≡ tops (cut m c xs) + (π c + pages_rest π xs)
    cut-pages m c xs =
        let h = halves-pages c (take m xs) (drop m xs) in
        let i : pages_rest π xs ≡ pages_rest π (take m xs) + pages_rest π (drop m xs) = ap (pages_rest π) (sym (take-append-drop m xs)) ∙ rest-pages (take m xs) (drop m xs) in
        omega arith

    pub fit-pages : (p : Page K S) → pages_up (pages_page π) (fit p) + 1 ≡ tops (fit p) + pages_page π p
    fit-pages (page c xs) = go (leb (length xs) 24)
      where
        go : (b : Bool) → pages_up (pages_page π) (cond b (one (page c xs)) (cut 12 c xs)) + 1 ≡ tops (cond b (one (page c xs)) (cut 12 c xs)) + pages_page π (page c xs)
        go true = omega arith
        go false = let h = cut-pages 12 c xs in omega arith

  pub tops-pos : {S : Type 0} (u : Up K S) → (1 ≤ tops u) × (tops u ≤ 2)
  tops-pos (one p) = omega arith
  tops-pos (two p e q) = omega arith

module _ {K : Type 0} (cmp : K → K → Cmp) (ord : IsOrder K cmp) where
  -- no entry has the name
  abbrev pub LacksName : K → List (Entry K) → Type 0
  LacksName k l = All (λ (x : Entry K). cmp k x.0 ≡ same → ⊥) l

  find-lacks : (k : K) (l : List (Entry K)) → Rises cmp l → find cmp k l ≡ absent → LacksName k l
  find-lacks k [] r h = tt
  find-lacks k (e ∷ l) r h = go (cmp k e.0) refl (find-lacks k l r.1) h
    where
      differs : {A : Type 0} → above ≡ same → A
      differs h = let z : ◌≡◌ {A = ℕ} 0 1 = cc in absurd (omega arith)

      differs' : {A : Type 0} → below ≡ same → A
      differs' h = let z : ◌≡◌ {A = ℕ} 0 1 = cc in absurd (omega arith)

      not-below : (a : K) → cmp k a ≡ below → cmp k a ≡ same → ⊥
      not-below a b s = differs' (sym b ∙ s)

      go : (o : Cmp) → cmp k e.0 ≡ o → (find cmp k l ≡ absent → LacksName k l) → pick o absent (at e.1) (find cmp k l) ≡ absent → LacksName k (e ∷ l)
      go below b i h = (not-below e.0 b, all_map _ _ l (λ x c. not-below x.0 (ord.carried k e.0 x.0 b c)) r.0)
      go same b i h = absurd (not-found e.1 (sym h))
      go above b i h = (λ s. differs (sym b ∙ s), i h)

  module _ {S : Type 0} (π : S → ℕ) where
    module _ (φ : S → List (Entry K)) (f : S → Up K S × ℕ) (x : Entry K) (n : ℕ) (right : (c : S) → LacksName x.0 (φ c) → (f c).1 + π c ≡ n + pages_up π (f c).0) where
      ins_in-pages : (c : S) (xs : List (Item K S)) → LacksName x.0 (φ c ++ flat_rest φ xs) → (ins_in cmp f x c xs).1 + (1 + (π c + pages_rest π xs)) ≡ n + pages_page π (ins_in cmp f x c xs).0
      ins_in-pages c [] a = let h = right c (all_left _ (φ c) [] a) in let i = splice-pages π (f c).0 [] in omega arith
      ins_in-pages c (item e d ∷ xs) a = go (cmp x.0 e.0) refl (ins_in-pages d xs (all_right _ (φ c) _ a).1)
        where
          w : Page K S × ℕ
          w = ins_in cmp f x d xs

          go : (o : Cmp) → cmp x.0 e.0 ≡ o → w.1 + (1 + (π d + pages_rest π xs)) ≡ n + pages_page π w.0 →
              (pick {A = Page K S × ℕ} o (splice (f c).0 (item e d ∷ xs), (f c).1) (page c (item x d ∷ xs), 0) (before c e w.0, w.1)).1 + (1 + (π c + (π d + pages_rest π xs)))
              ≡ n + pages_page π (pick {A = Page K S × ℕ} o (splice (f c).0 (item e d ∷ xs), (f c).1) (page c (item x d ∷ xs), 0) (before c e w.0, w.1)).0
          go below b i = let h = right c (all_left _ (φ c) _ a) in let j = splice-pages π (f c).0 (item e d ∷ xs) in omega arith
          go same b i = absurd ((all_right _ (φ c) _ a).0 b)
          go above b i = let j = before-pages π c e w.0 in omega arith

      pub ins_page-pages : (p : Page K S) → LacksName x.0 (flat_page φ p) → (ins_page cmp f x p).1 + pages_page π p ≡ suc n + pages_up (pages_page π) (ins_page cmp f x p).0
      ins_page-pages (page c xs) a = let h = ins_in-pages c xs a in let i = fit-pages π (ins_in cmp f x c xs).0 in omega arith

  pub ins-pages : (n : ℕ) (x : Entry K) (t : Sub K n) → LacksName x.0 (flat K n t) → (ins cmp n x t).1 + pages_of K n t ≡ n + pages_up (pages_of K n) (ins cmp n x t).0
  ins-pages zero x t a = omega arith
  ins-pages (suc n) x t a = ins_page-pages (pages_of K n) (flat K n) (ins cmp n x) x n (λ c h. ins-pages n x c h) t a

  pub ins-pos : (n : ℕ) (x : Entry K) (t : Sub K (suc n)) → 1 ≤ (ins cmp (suc n) x t).1
  ins-pos n x (page c xs) = let h = tops-pos (fit (ins_in cmp (ins cmp n x) x c xs).0) in omega arith

  grow-pages : (n : ℕ) (u : Up K (Sub K (suc n))) (k P : ℕ) → 1 ≤ k → k + P ≡ suc n + pages_up (pages_of K (suc n)) u → (grow n (u, k)).1 + P ≡ n + pages (grow n (u, k)).0
  grow-pages n (one p) k P h e = omega arith
  grow-pages n (two p s q) k P h e = omega arith

  pub insert-pages : (t : Tree K) (k : K) (v : ℕ) → Good cmp t → lookup cmp t k ≡ absent → (insert cmp t k v).1 + pages t ≡ t.over + pages (insert cmp t k v).0
  insert-pages t k v g a =
      let u = ins cmp (suc t.over) (k, v) t.root in
      grow-pages t.over u.0 u.1 (pages t) (ins-pos t.over (k, v) t.root)
      (ins-pages (suc t.over) (k, v) t.root (find-lacks k (to_list t) g.rises (sym (lookup-finds cmp ord t k g) ∙ a)))

  -- F
  module _ {S : Type 0} (f : S → Up K S × ℕ) (x : Entry K) (n : ℕ) (small : (c : S) → (f c).1 ≤ n) where
    ins_in-small : (c : S) (xs : List (Item K S)) → (ins_in cmp f x c xs).1 ≤ n
    ins_in-small c [] = small c
    ins_in-small c (item e d ∷ xs) = go (cmp x.0 e.0) (ins_in-small d xs)
      where
        w : Page K S × ℕ
        w = ins_in cmp f x d xs

        go : (o : Cmp) → w.1 ≤ n → (pick {A = Page K S × ℕ} o (splice (f c).0 (item e d ∷ xs), (f c).1) (page c (item x d ∷ xs), 0) (before c e w.0, w.1)).1 ≤ n
        go below i = small c
        go same i = omega arith
        go above i = i

    ins_page-small : (p : Page K S) → (ins_page cmp f x p).1 ≤ n + tops (ins_page cmp f x p).0
    ins_page-small (page c xs) = let h = ins_in-small c xs in omega arith

  ins-small : (n : ℕ) (x : Entry K) (t : Sub K n) → (ins cmp n x t).1 ≤ 2 * n
  ins-small zero x t = omega arith
  ins-small (suc n) x t =
      let h = ins_page-small (ins cmp n x) x (2 * n) (λ c. ins-small n x c) t in let i = tops-pos (ins_page cmp (ins cmp n x) x t).0 in omega arith

  grow-small : (n : ℕ) (u : Up K (Sub K (suc n))) (k : ℕ) → k ≤ 2 * n + tops u → (grow n (u, k)).1 ≤ 2 * (grow n (u, k)).0.over
  grow-small n (one p) k h = omega arith
  grow-small n (two p s q) k h = omega arith

  pub insert-six : InsertSix cmp
  insert-six t k v l =
      let x : Entry K = (k, v) in
      let u = ins cmp (suc t.over) x t.root in
      let h = grow-small t.over u.0 u.1 (ins_page-small (ins cmp t.over x) x (2 * t.over) (λ c. ins-small t.over x c) t.root) in
      omega arith
