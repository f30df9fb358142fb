-- Where search finds a name: its home. A name that stands in a page of a tree is found there and nowhere else.
use Rattle.std.proofs.Common.{◌≡◌, ℕ, zero, suc, List, [], ◌∷◌, ◌++◌, length, refl, ap, ◌∙◌}
use Rattle.numbers.specs.Order.{Cmp, below, same, above, turn, IsOrder}
use Rattle.tree.specs.Tree.{Entry, Item, item, Page, page, Sub, pick, absent, at, All, flat_rest, Under, Rises}
use Rattle.tree.specs.Laws.{find}
use Rattle.tree.proofs.Order.{flip}
use Rattle.tree.proofs.Lists.{Over, rises-right, rises-mid, past_same, past-above, find-skip}
use Rattle.tree.proofs.Marks.{Home}

-- the entry is as P says
abbrev pub Each : {K S : Type 0} → (Entry K → Type 0) → Item K S → Type 0
Each P (item e d) = P e

pub each_map : {K S : Type 0} (P Q : Entry K → Type 0) (xs : List (Item K S)) → ((e : Entry K) → P e → Q e) → All (Each P) xs → All (Each Q) xs
each_map P Q [] f a = tt
each_map P Q (item e d ∷ xs) f a = (f e a.0, each_map P Q xs f a.1)

module _ {K : Type 0} (cmp : K → K → Cmp) where
  abbrev pub home_in : {S : Type 0} → (S → Home) → ℕ → ℕ → K → S → List (Item K S) → Home
  home_in f m l k c [] = f c
  home_in f m l k c (item e d ∷ xs) = pick (cmp k e.0) (f c) (m, l, e.1) (home_in f m l k d xs)

  abbrev pub home_page : {S : Type 0} → (S → Home) → ℕ → K → Page K S → Home
  home_page f m k (page c xs) = home_in f m (length xs) k c xs

  abbrev pub home : (n : ℕ) → K → Sub K n → Home
  home zero k t = (0, 0, 0)
  home (suc n) k t = home_page (home n k) (suc n) k t

module _ {K : Type 0} (cmp : K → K → Cmp) (ord : IsOrder K cmp) where
  itself : (a : K) → cmp a a ≡ same
  itself a = go (cmp a a) (ord.turned a a)
    where
      go : (c : Cmp) → c ≡ turn c → c ≡ same
      go below e = cc
      go same e = refl
      go above e = cc

  home_in-same : {S : Type 0} (f g : S → Home) (m l : ℕ) (a b : K) → cmp a b ≡ same → ((c : S) → f c ≡ g c) → (c : S) (xs : List (Item K S)) → home_in cmp f m l a c xs ≡ home_in cmp g m l b c xs
  home_in-same f g m l a b s h c [] = h c
  home_in-same f g m l a b s h c (item e d ∷ xs) = ap (λ (z : Cmp). pick z (f c) (m, l, e.1) (home_in cmp f m l a d xs)) (ord.alike a b e.0 s) ∙ go (cmp b e.0) (home_in-same f g m l a b s h d xs)
    where
      go : (o : Cmp) → home_in cmp f m l a d xs ≡ home_in cmp g m l b d xs → pick o (f c) (m, l, e.1) (home_in cmp f m l a d xs) ≡ pick o (g c) (m, l, e.1) (home_in cmp g m l b d xs)
      go below i = h c
      go same i = refl
      go above i = i

  pub home_same : (n : ℕ) (t : Sub K n) (a b : K) → cmp a b ≡ same → home cmp n a t ≡ home cmp n b t
  home_same zero t a b s = refl
  home_same (suc n) (page c xs) a b s = home_in-same (home cmp n a) (home cmp n b) (suc n) (length xs) a b s (λ d. home_same n d a b s) c xs

  find-over : (k e : K) (v : ℕ) (l : List (Entry K)) → Over cmp ord e l → find cmp k l ≡ at v → cmp k e ≡ below
  find-over k e v [] h f = cc
  find-over k e v (x ∷ l) h f = go (cmp k x.0) refl (find-over k e v l h.1) f
    where
      go : (o : Cmp) → cmp k x.0 ≡ o → (find cmp k l ≡ at v → cmp k e ≡ below) → pick o absent (at x.1) (find cmp k l) ≡ at v → cmp k e ≡ below
      go below b i f = cc
      go same b i f = ord.alike k x.0 e b ∙ h.0
      go above b i f = i f

  find-under : (k e : K) (v : ℕ) (l : List (Entry K)) → Under cmp e l → find cmp k l ≡ at v → cmp k e ≡ above
  find-under k e v [] h f = cc
  find-under k e v (x ∷ l) h f = go (cmp k x.0) refl (find-under k e v l h.1) f
    where
      go : (o : Cmp) → cmp k x.0 ≡ o → (find cmp k l ≡ at v → cmp k e ≡ above) → pick o absent (at x.1) (find cmp k l) ≡ at v → cmp k e ≡ above
      go below b i f = cc
      go same b i f = ord.alike k x.0 e b ∙ flip cmp ord e x.0 h.0
      go above b i f = i f

  find-more : (k : K) (v : ℕ) (l r : List (Entry K)) → find cmp k l ≡ at v → find cmp k (l ++ r) ≡ at v
  find-more k v [] r f = cc
  find-more k v (x ∷ l) r f = go (cmp k x.0) (find-more k v l r) f
    where
      go : (o : Cmp) → (find cmp k l ≡ at v → find cmp k (l ++ r) ≡ at v) → pick o absent (at x.1) (find cmp k l) ≡ at v → pick o absent (at x.1) (find cmp k (l ++ r)) ≡ at v
      go below i f = f
      go same i f = f
      go above i f = i f

  module _ {S : Type 0} (φ : S → List (Entry K)) (m l : ℕ) where
    -- k stands under the first child, or behind it
    pub home-first : (f : S → Home) (k : K) (v : ℕ) (c : S) (xs : List (Item K S)) → Rises cmp (φ c ++ flat_rest φ xs) → find cmp k (φ c) ≡ at v →
        (home_in cmp f m l k c xs ≡ f c) × (find cmp k (φ c ++ flat_rest φ xs) ≡ at v)
    home-first f k v c [] r h = (refl, find-more k v (φ c) [] h)
    home-first f k v c (item e d ∷ xs) r h = (rw (find-over k e.0 v (φ c) (rises-mid cmp ord (φ c) e _ r) h) refl, find-more k v (φ c) _ h)

    pub home-later : (f : S → Home) (k : K) (v : ℕ) (c : S) (e : Entry K) (d : S) (xs : List (Item K S)) → Rises cmp (φ c ++ (e ∷ (φ d ++ flat_rest φ xs))) → find cmp k (φ d ++ flat_rest φ xs) ≡ at v →
        (home_in cmp f m l k c (item e d ∷ xs) ≡ home_in cmp f m l k d xs) × (find cmp k (φ c ++ (e ∷ (φ d ++ flat_rest φ xs))) ≡ at v)
    home-later f k v c e d xs r h =
        let b = find-under k e.0 v (φ d ++ flat_rest φ xs) (rises-right cmp ord (φ c) _ r).0 h in
        (rw b refl, find-skip cmp ord k (φ c) _ (past-above cmp ord k e (φ c) b (rises-mid cmp ord (φ c) e _ r)) ∙ rw b h)

    -- each entry of a page is at home in it
    pub home-own : (f : K → S → Home) (c : S) (xs : List (Item K S)) → Rises cmp (φ c ++ flat_rest φ xs) →
        All (Each (λ e. (home_in cmp (f e.0) m l e.0 c xs ≡ (m, l, e.1)) × (find cmp e.0 (φ c ++ flat_rest φ xs) ≡ at e.1))) xs
    home-own f c [] r = tt
    home-own f c (item e d ∷ xs) r = (
      (rw (itself e.0) refl, find-skip cmp ord e.0 (φ c) _ (past_same cmp ord e.0 e (φ c) (itself e.0) (rises-mid cmp ord (φ c) e _ r)) ∙ rw (itself e.0) refl),
      each_map _ _ xs (λ g h. let i = home-later (f g.0) g.0 g.1 c e d xs r h.1 in (i.0 ∙ h.0, i.1)) (home-own f d xs (rises-right cmp ord (φ c) _ r).1),
    )
