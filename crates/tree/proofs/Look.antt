use Rattle.std.proofs.Common.{◌≡◌, ℕ, zero, suc, List, [], ◌∷◌, ◌++◌, sym, refl, ◌∙◌, append-nil}
use Rattle.numbers.specs.Order.{Cmp, below, same, above, IsOrder}
use Rattle.tree.specs.Tree.{Entry, Item, item, Page, page, Sub, flat_rest, flat_page, flat, pick, Found, at, look_in, look_page, look, Rises}
use Rattle.tree.specs.Laws.{find, LookupFinds}
use Rattle.tree.proofs.Lists.{rises-left, rises-right, rises-mid, past_same, past-above, find-skip, find-left}

module _ {K : Type 0} (cmp : K → K → Cmp) (ord : IsOrder K cmp) where
  module _ {S : Type 0} (φ : S → List (Entry K)) (k : K) (f : S → Found) (right : (c : S) → Rises cmp (φ c) → f c ≡ find cmp k (φ c)) where
    look_in-finds : (c : S) (xs : List (Item K S)) → Rises cmp (φ c ++ flat_rest φ xs) → look_in cmp f k c xs ≡ find cmp k (φ c ++ flat_rest φ xs)
    look_in-finds c [] h = rw append-nil (right c (rises-left cmp ord (φ c) [] h))
    look_in-finds c (item e d ∷ xs) h = go (cmp k e.0) refl (look_in-finds d xs (rises-right cmp ord (φ c) _ h).1)
      where
        r : List (Entry K)
        r = φ d ++ flat_rest φ xs

        go : (o : Cmp) → cmp k e.0 ≡ o → look_in cmp f k d xs ≡ find cmp k (φ d ++ flat_rest φ xs) → pick o (f c) (at e.1) (look_in cmp f k d xs) ≡ find cmp k (φ c ++ (e ∷ (φ d ++ flat_rest φ xs)))
        go below b i = right c (rises-left cmp ord (φ c) (e ∷ r) h) ∙ sym (find-left cmp ord k (φ c) e r b)
        go same b i = sym (find-skip cmp ord k (φ c) (e ∷ r) (past_same cmp ord k e (φ c) b (rises-mid cmp ord (φ c) e r h)) ∙ rw b)
        go above b i = i ∙ sym (find-skip cmp ord k (φ c) (e ∷ r) (past-above cmp ord k e (φ c) b (rises-mid cmp ord (φ c) e r h)) ∙ rw b)

    pub look_page-finds : (p : Page K S) → Rises cmp (flat_page φ p) → look_page cmp f k p ≡ find cmp k (flat_page φ p)
    look_page-finds (page c xs) h = look_in-finds c xs h

  look-finds : (n : ℕ) (k : K) (t : Sub K n) → Rises cmp (flat K n t) → look cmp n k t ≡ find cmp k (flat K n t)
  look-finds zero k t h = refl
  look-finds (suc n) k t h = look_page-finds (flat K n) k (look cmp n k) (λ c g. look-finds n k c g) t h

  pub lookup-finds : LookupFinds cmp
  lookup-finds t k g = look-finds (suc t.over) k t.root g.rises
