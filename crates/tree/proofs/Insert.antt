use Rattle.std.proofs.Common.{◌≡◌, ℕ, zero, suc, Bool, true, false, cond, leb, List, [], ◌∷◌, ◌++◌, length, take, drop, sym, refl, ap, ◌∙◌, append_assoc, append-nil}
use Rattle.std.proofs.lemmas.List.{take-append-drop}
use Rattle.numbers.specs.Order.{Cmp, below, same, above, IsOrder}
use Rattle.tree.specs.Tree.{Entry, Item, item, Page, page, Sub, flat_rest, flat_page, flat, pick, to_list, Rises}
use Rattle.tree.specs.Insert.{Up, one, two, splice, before, halves, cut, fit, ins_in, ins_page, ins, grow}
use Rattle.tree.specs.Laws.{put, InsertPuts}
use Rattle.tree.proofs.Lists.{rises-left, rises-right, rises-mid, past_same, past-above, put-skip, put-left}

module _ {K : Type 0} where
  abbrev pub flat_up : {S : Type 0} → (S → List (Entry K)) → Up K S → List (Entry K)
  flat_up φ (one c) = φ c
  flat_up φ (two c e d) = φ c ++ (e ∷ φ d)

  module _ {S : Type 0} (φ : S → List (Entry K)) where
    pub splice-flat : (u : Up K S) (xs : List (Item K S)) → flat_page φ (splice u xs) ≡ flat_up φ u ++ flat_rest φ xs
    splice-flat (one c) xs = refl
    splice-flat (two c e d) xs = sym (append_assoc (φ c) (e ∷ φ d) (flat_rest φ xs))

    pub before-flat : (c : S) (e : Entry K) (p : Page K S) → flat_page φ (before c e p) ≡ φ c ++ (e ∷ flat_page φ p)
    before-flat c e (page d xs) = refl

    pub rest-append : (l r : List (Item K S)) → flat_rest φ (l ++ r) ≡ flat_rest φ l ++ flat_rest φ r
    rest-append [] r = refl
    rest-append (item e d ∷ l) r = rw (rest-append l r) (ap (λ (z : List (Entry K)). e ∷ z) (sym (append_assoc (φ d) (flat_rest φ l) (flat_rest φ r))))

    pub halves-flat : (c : S) (l r : List (Item K S)) → flat_up (flat_page φ) (halves c l r) ≡ φ c ++ flat_rest φ (l ++ r)
    halves-flat c l [] = rw append-nil
    halves-flat c l (item e d ∷ r) = rw (rest-append l (item e d ∷ r)) (append_assoc (φ c) (flat_rest φ l) (flat_rest φ (item e d ∷ r)))

    pub cut-flat : (m : ℕ) (c : S) (xs : List (Item K S)) → flat_up (flat_page φ) (cut m c xs) ≡ φ c ++ flat_rest φ xs
    cut-flat m c xs = halves-flat c (take m xs) (drop m xs) ∙ ap (λ (z : List (Item K S)). φ c ++ flat_rest φ z) (take-append-drop m xs)

    pub fit-flat : (p : Page K S) → flat_up (flat_page φ) (fit p) ≡ flat_page φ p
    fit-flat (page c xs) = go (leb (length xs) 24)
      where
        go : (b : Bool) → flat_up (flat_page φ) (cond b (one (page c xs)) (cut 12 c xs)) ≡ flat_page φ (page c xs)
        go true = refl
        go false = cut-flat 12 c xs

module _ {K : Type 0} (cmp : K → K → Cmp) (ord : IsOrder K cmp) where
  module _ {S : Type 0} (φ : S → List (Entry K)) where
    module _ (f : S → Up K S × ℕ) (x : Entry K) (right : (c : S) → Rises cmp (φ c) → flat_up φ (f c).0 ≡ put cmp x (φ c)) where
      ins_in-flat : (c : S) (xs : List (Item K S)) → Rises cmp (φ c ++ flat_rest φ xs) → flat_page φ (ins_in cmp f x c xs).0 ≡ put cmp x (φ c ++ flat_rest φ xs)
      ins_in-flat c [] h = splice-flat φ (f c).0 [] ∙ rw (append-nil (φ c)) (rw append-nil (right c (rises-left cmp ord (φ c) [] h)))
      ins_in-flat c (item e d ∷ xs) h = go (cmp x.0 e.0) refl (ins_in-flat d xs (rises-right cmp ord (φ c) _ h).1)
        where
          r : List (Entry K)
          r = φ d ++ flat_rest φ xs

          go : (o : Cmp) → cmp x.0 e.0 ≡ o → flat_page φ (ins_in cmp f x d xs).0 ≡ put cmp x (φ d ++ flat_rest φ xs) →
              flat_page φ (pick {A = Page K S × ℕ} o (splice (f c).0 (item e d ∷ xs), (f c).1) (page c (item x d ∷ xs), 0) (before c e (ins_in cmp f x d xs).0, (ins_in cmp f x d xs).1)).0 ≡ put cmp x (φ c ++ (e ∷ (φ d ++ flat_rest φ xs)))
          go below b i = splice-flat φ (f c).0 (item e d ∷ xs) ∙ ap (λ (z : List (Entry K)). z ++ (e ∷ r)) (right c (rises-left cmp ord (φ c) (e ∷ r) h)) ∙ sym (put-left cmp ord x (φ c) e r b)
          go same b i = sym (put-skip cmp ord x (φ c) (e ∷ r) (past_same cmp ord x.0 e (φ c) b (rises-mid cmp ord (φ c) e r h)) ∙ rw b)
          go above b i = before-flat φ c e (ins_in cmp f x d xs).0 ∙ rw i (sym (put-skip cmp ord x (φ c) (e ∷ r) (past-above cmp ord x.0 e (φ c) b (rises-mid cmp ord (φ c) e r h)) ∙ rw b))

      pub ins_page-flat : (p : Page K S) → Rises cmp (flat_page φ p) → flat_up (flat_page φ) (ins_page cmp f x p).0 ≡ put cmp x (flat_page φ p)
      ins_page-flat (page c xs) h = fit-flat φ (ins_in cmp f x c xs).0 ∙ ins_in-flat c xs h

  pub ins-flat : (n : ℕ) (x : Entry K) (t : Sub K n) → Rises cmp (flat K n t) → flat_up (flat K n) (ins cmp n x t).0 ≡ put cmp x (flat K n t)
  ins-flat zero x t h = refl
  ins-flat (suc n) x t h = ins_page-flat (flat K n) (ins cmp n x) x (λ c g. ins-flat n x c g) t h

  pub grow-flat : (n : ℕ) (u : Up K (Sub K (suc n))) (k : ℕ) → to_list (grow n (u, k)).0 ≡ flat_up (flat K (suc n)) u
  grow-flat n (one p) k = refl
  grow-flat n (two p e q) k = rw append-nil

  pub insert-puts : InsertPuts cmp
  insert-puts t k v g = let u = ins cmp (suc t.over) (k, v) t.root in grow-flat t.over u.0 u.1 ∙ ins-flat (suc t.over) (k, v) t.root g.rises
