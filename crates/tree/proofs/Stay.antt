-- What stands where: a place and the page there, and what stays when other sectors are written.
use Rattle.std.proofs.Common.{◌≡◌, ℕ, zero, suc, Bool, true, false, cond, ◌||◌, ◌⊎◌, List, [], ◌∷◌, sym, refl, ◌∙◌, subst, inl, inr}
use Rattle.std.proofs.lemmas.Bool.{or_cases, or_left, or_right, false≢true}
use Rattle.tree.specs.Tree.{Item, item, Page, page, Sub, All, Child}
use Rattle.tree.specs.Fresh.{IsSame, any_rest, any_child, same_sub, has}
use Rattle.tree.specs.Stored.{Shown, map_rest, map_page, load, Each, Sectors, first_in, first_page, where_is, SomeRest, SomeKid, Stands}
use Rattle.tree.proofs.Old.{sub_refl, level-same}
use Rattle.tree.proofs.Shared.{sub-exact}
use Rattle.tree.proofs.Places.{kid-map, kid-elim}

-- a child asked for is there
module _ {K T : Type 0} (h : T → Bool) (g : ℕ → T) where
  some-any-rest : (xs : List (Item K ℕ)) → SomeRest (λ c. h (g c) ≡ true) xs → any_rest h (map_rest g xs) ≡ true
  some-any-rest [] s = absurd s
  some-any-rest (item e d ∷ xs) (inl s) = or_left (h (g d)) (any_rest h (map_rest g xs)) s
  some-any-rest (item e d ∷ xs) (inr s) = or_right (h (g d)) (any_rest h (map_rest g xs)) (some-any-rest xs s)

  pub some-any : (p : Page K ℕ) → SomeKid (λ c. h (g c) ≡ true) p → any_child h (map_page g p) ≡ true
  some-any (page c xs) (inl s) = or_left (h (g c)) (any_rest h (map_rest g xs)) s
  some-any (page c xs) (inr s) = or_right (h (g c)) (any_rest h (map_rest g xs)) (some-any-rest xs s)

module _ {K : Type 0} (P Q R : ℕ → Type 0) (f : (c : ℕ) → P c → Q c → R c) where
  zip-rest : (xs : List (Item K ℕ)) → All (Child P) xs → SomeRest Q xs → SomeRest R xs
  zip-rest [] a s = s
  zip-rest (item e d ∷ xs) a (inl s) = inl (f d a.0 s)
  zip-rest (item e d ∷ xs) a (inr s) = inr (zip-rest xs a.1 s)

  pub zip-kid : (p : Page K ℕ) → Each P p → SomeKid Q p → SomeKid R p
  zip-kid (page c xs) a (inl s) = inl (f c a.0 s)
  zip-kid (page c xs) a (inr s) = inr (zip-rest xs a.1 s)

-- what stands in a tree that stands in another
pub stands-trans : {K : Type 0} (d : Shown K) (j a i x : ℕ) → Stands d j a i x → (n b : ℕ) → Stands d n b j a → Stands d n b i x
stands-trans d j a i x s zero b t = absurd t
stands-trans d j a i x s (suc n) b (inl (p, q)) = subst (λ (z : ℕ). Stands d (suc n) z i x) (sym q) (subst (λ (z : ℕ). Stands d z a i x) (sym p) s)
stands-trans d j a i x s (suc n) b (inr t) = inr (kid-map (λ c. Stands d n c j a) (λ c. Stands d n c i x) (λ c u. stands-trans d j a i x s n c u) (d b) t)

-- every sector of a tree within is one of the tree
pub sectors-sub : {K : Type 0} (B : ℕ → Type 0) (d : Shown K) (j x n a : ℕ) → Sectors B d n a → Stands d n a j x → Sectors B d j x
sectors-sub B d j x zero a h s = absurd s
sectors-sub B d j x (suc n) a h (inl (p, q)) = subst (λ (z : ℕ). Sectors B d z x) p (subst (λ (z : ℕ). Sectors B d (suc n) z) q h)
sectors-sub B d j x (suc n) a h (inr s) = kid-elim (Sectors B d n) (λ c. Stands d n c j x) (Sectors B d j x) (λ c i t. sectors-sub B d j x n c i t) (d a) h.1 s

pub sectors-at : {K : Type 0} (B : ℕ → Type 0) (d : Shown K) (j x n a : ℕ) → Sectors B d n a → Stands d n a j x → B x
sectors-at B d j x zero a h s = absurd s
sectors-at B d j x (suc n) a h (inl (p, q)) = subst B q h.0
sectors-at B d j x (suc n) a h (inr s) = kid-elim (Sectors B d n) (λ c. Stands d n c j x) (B x) (λ c i t. sectors-at B d j x n c i t) (d a) h.1 s

module _ {K : Type 0} (d d' : Shown K) (B : ℕ → Type 0) (keep : (b : ℕ) → B b → d' b ≡ d b) (j x : ℕ) where
  pub stands-back : (n a : ℕ) → Sectors B d n a → Stands d' n a j x → Stands d n a j x
  stands-back zero a h s = s
  stands-back (suc n) a h (inl s) = inl s
  stands-back (suc n) a h (inr s) = inr (zip-kid (Sectors B d n) (λ c. Stands d' n c j x) (λ c. Stands d n c j x) (λ c i t. stands-back n c i t) (d a) h.1 (subst (λ (z : Page K ℕ). SomeKid (λ c. Stands d' n c j x) z) (keep a h.0) s))

module _ {K : Type 0} (eq : K → K → Bool) (is : IsSame K eq) (d : Shown K) where
  -- the page that stands in a tree is one of its pages
  pub stands-has : (j a n b : ℕ) → Stands d n b j a → has eq n (load d n b) j (load d j a) ≡ true
  stands-has j a zero b s = absurd s
  stands-has j a (suc n) b (inl (p, q)) =
      or_left _ _ (subst (λ (z : ℕ). same_sub eq (suc n) j (load d (suc n) b) (load d j z) ≡ true) q (subst (λ (z : ℕ). same_sub eq (suc n) z (load d (suc n) b) (load d z b) ≡ true) p (sub_refl eq is (suc n) (load d (suc n) b))))
  stands-has j a (suc n) b (inr s) =
      or_right (same_sub eq (suc n) j (load d (suc n) b) (load d j a)) (any_child (λ c. has eq n c j (load d j a)) (load d (suc n) b))
      (some-any (λ c. has eq n c j (load d j a)) (load d n) (d b) (kid-map (λ c. Stands d n c j a) (λ c. has eq n (load d n c) j (load d j a) ≡ true) (λ c t. stands-has j a n c t) (d b) s))

  -- a page of a tree stands somewhere in it
  same-stands : (j : ℕ) (s : Sub K j) (n b : ℕ) → same_sub eq n j (load d n b) s ≡ true → (n ≡ j) × (load d j b ≡ s)
  same-stands j s n b e = go (level-same eq is n j (load d n b) s e) s e
    where
      go : n ≡ j → (s : Sub K j) → same_sub eq n j (load d n b) s ≡ true → (n ≡ j) × (load d j b ≡ s)
      go q = subst (λ (z : ℕ). (s : Sub K z) → same_sub eq n z (load d n b) s ≡ true → (n ≡ z) × (load d z b ≡ s)) q (λ s e. (refl, sub-exact eq is n (load d n b) s e))

  -- where a page is looked for it stands
  first_rest : (j : ℕ) (s : Sub K j) (m : ℕ) (h : ℕ → Bool) (f : ℕ → ℕ) → ((b : ℕ) → h b ≡ true → Stands d m b j (f b) × (load d j (f b) ≡ s)) → (c : ℕ) (xs : List (Item K ℕ)) → (g : Sub K m → Bool) → ((b : ℕ) → g (load d m b) ≡ h b) →
      (g (load d m c) || any_rest g (map_rest (load d m) xs)) ≡ true → let a = first_in eq d h f c xs in (Stands d m c j a ⊎ SomeRest (λ b. Stands d m b j a) xs) × (load d j a ≡ s)
  first_rest j s m h f each c [] g same e = go (or_cases (g (load d m c)) false e)
    where
      go : (g (load d m c) ≡ true) ⊎ (false ≡ true) → (Stands d m c j (f c) ⊎ ⊥) × (load d j (f c) ≡ s)
      go (inl e) = let t = each c (sym (same c) ∙ e) in (inl t.0, t.1)
      go (inr e) = absurd (false≢true e)
  first_rest j s m h f each c (item x b ∷ xs) g same e = go (h c) refl (first_rest j s m h f each b xs g same)
    where
      v : ℕ
      v = first_in eq d h f b xs

      go : (o : Bool) → h c ≡ o → ((g (load d m b) || any_rest g (map_rest (load d m) xs)) ≡ true → (Stands d m b j v ⊎ SomeRest (λ b. Stands d m b j v) xs) × (load d j v ≡ s)) →
          (Stands d m c j (cond o (f c) v) ⊎ (Stands d m b j (cond o (f c) v) ⊎ SomeRest (λ b. Stands d m b j (cond o (f c) v)) xs)) × (load d j (cond o (f c) v) ≡ s)
      go true q r = let t = each c q in (inl t.0, t.1)
      go false q r = let t = r (rw (same c ∙ q) at e) in (inr t.0, t.1)

  pub first-stands : (j : ℕ) (s : Sub K j) (m : ℕ) → ((b : ℕ) → has eq m (load d m b) j s ≡ true → let a = where_is eq d m b j s in Stands d m b j a × (load d j a ≡ s)) → (p : Page K ℕ) → any_child (λ c. has eq m c j s) (map_page (load d m) p) ≡ true →
      let a = first_page eq d (λ b. has eq m (load d m b) j s) (λ b. where_is eq d m b j s) p in SomeKid (λ b. Stands d m b j a) p × (load d j a ≡ s)
  first-stands j s m each (page c xs) e = first_rest j s m (λ b. has eq m (load d m b) j s) (λ b. where_is eq d m b j s) each c xs (λ c. has eq m c j s) (λ b. refl) e

  pub where-stands : (j : ℕ) (s : Sub K j) (m a : ℕ) → has eq m (load d m a) j s ≡ true → let b = where_is eq d m a j s in Stands d m a j b × (load d j b ≡ s)
  where-stands j s zero a e = absurd (false≢true e)
  where-stands j s (suc m) a e = go (same_sub eq (suc m) j (load d (suc m) a) s) refl (first-stands j s m (λ b i. where-stands j s m b i) (d a)) e
    where
      v : ℕ
      v = first_page eq d (λ b. has eq m (load d m b) j s) (λ b. where_is eq d m b j s) (d a)

      go : (o : Bool) → same_sub eq (suc m) j (load d (suc m) a) s ≡ o → (any_child (λ c. has eq m c j s) (map_page (load d m) (d a)) ≡ true → SomeKid (λ b. Stands d m b j v) (d a) × (load d j v ≡ s)) →
          (o || any_child (λ c. has eq m c j s) (map_page (load d m) (d a))) ≡ true → (((suc m ≡ j) × (a ≡ cond o a v)) ⊎ SomeKid (λ b. Stands d m b j (cond o a v)) (d a)) × (load d j (cond o a v) ≡ s)
      go true q r e = let p = same-stands j s (suc m) a q in (inl (p.0, refl), p.1)
      go false q r e = let t = r e in (inr t.0, t.1)
