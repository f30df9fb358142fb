-- Pages of an old tree: the same page is one page, and below a page that is old no page is new.
use Rattle.std.proofs.Common.{◌≡◌, ℕ, zero, suc, ◌+◌, ◌≤◌, Bool, true, false, cond, ◌&&◌, ◌||◌, List, [], ◌∷◌, refl, ap, ap₂, arith}
use Rattle.std.proofs.lemmas.Bool.{and_parts, false≢true}
use Rattle.tree.specs.Tree.{Item, item, Page, page, Sub, Tree, pages_rest}
use Rattle.tree.specs.Fresh.{IsSame, any_child, same_entry, same_rest, same_sub, has, sum_children, unmarked, changed}
use Rattle.tree.specs.Stored.{has_below}
use Rattle.tree.proofs.Old.{entry-exact, level-same, has-closed, kids-closed}
use Rattle.tree.proofs.Marks.{rest-old, EachChild}

module _ {K : Type 0} (eq : K → K → Bool) (is : IsSame K eq) where
  rest-exact : {S : Type 0} (f : S → S → Bool) → ((a b : S) → f a b ≡ true → a ≡ b) → (xs ys : List (Item K S)) → same_rest eq f xs ys ≡ true → xs ≡ ys
  rest-exact f h [] [] e = refl
  rest-exact f h [] (y ∷ ys) e = absurd (false≢true e)
  rest-exact f h (x ∷ xs) [] e = absurd (false≢true e)
  rest-exact {S} f h (item a c ∷ xs) (item b d ∷ ys) e =
      let p = and_parts (same_entry eq a b) (f c d && same_rest eq f xs ys) e in
      let q = and_parts (f c d) (same_rest eq f xs ys) p.1 in
      ap₂ (λ (i : Item K S) (l : List (Item K S)). i ∷ l) (ap₂ item (entry-exact eq is a b p.0) (h c d q.0)) (rest-exact f h xs ys q.1)

  pub sub-exact : (n : ℕ) (s t : Sub K n) → same_sub eq n n s t ≡ true → s ≡ t
  sub-exact zero s t h = refl
  sub-exact (suc n) (page c xs) (page d ys) h =
      let p = and_parts (same_sub eq n n c d) (same_rest eq (same_sub eq n n) xs ys) h in ap₂ page (sub-exact n c d p.0) (rest-exact (same_sub eq n n) (λ a b e. sub-exact n a b e) xs ys p.1)

  -- WITH A PAGE BELOW THE ROOT ITS CHILDREN ARE THERE TOO
  below-kids : (m : ℕ) (q : Sub K (suc m)) (n : ℕ) (p : Sub K (suc (suc n))) → any_child (λ c. has eq m c (suc (suc n)) p) q ≡ true → EachChild (λ x. any_child (λ c. has eq m c (suc n) x) q ≡ true) p
  below-kids m (page c ys) n p h = kids-closed eq is m n (λ x. any_child (λ c. has eq m c (suc n) x) (page c ys) ≡ true) p (λ d k. has-closed eq is m d n p k) c ys (λ x k. k) h

  pub below_none : (t : Tree K) (n : ℕ) (s : Sub K (suc n)) → has_below eq t (suc n) s ≡ true → unmarked K (has_below eq t) (suc n) s ≡ 0
  below_none t zero (page c xs) h = rw h (let j = leaf xs in omega arith)
    where
      leaf : (xs : List (Item K (Sub K 0))) → pages_rest (unmarked K (has_below eq t) 0) xs ≡ 0
      leaf [] = refl
      leaf (item e d ∷ xs) = let z = leaf xs in omega arith
  below_none t (suc n) (page c xs) h =
      let k = below-kids t.over t.root n (page c xs) h in
      let i = below_none t n c k.0 in
      let j = rest-old (λ d. has_below eq t (suc n) d ≡ true) (unmarked K (has_below eq t) (suc n)) (λ d e. below_none t n d e) xs k.1 in
      rw h (omega arith)

  -- ON LEVELS BELOW THE ROOT, A PAGE OF THE TREE IS A PAGE BELOW THE ROOT
  has-below : (t : Tree K) (n : ℕ) (s : Sub K n) → n ≤ t.over → has eq (suc t.over) t.root n s ≡ has_below eq t n s
  has-below t n s l = go (same_sub eq (suc t.over) n t.root s) refl
    where
      go : (b : Bool) → same_sub eq (suc t.over) n t.root s ≡ b → (b || has_below eq t n s) ≡ has_below eq t n s
      go true e = let z = level-same eq is (suc t.over) n t.root s e in absurd (omega arith)
      go false e = refl

rest-same : {K S : Type 0} (f g : S → ℕ) → ((c : S) → f c ≡ g c) → (xs : List (Item K S)) → pages_rest f xs ≡ pages_rest g xs
rest-same f g h [] = refl
rest-same f g h (item e d ∷ xs) = let i = h d in let j = rest-same f g h xs in omega arith

sum_same : {K S : Type 0} (f g : S → ℕ) → ((c : S) → f c ≡ g c) → (p : Page K S) → sum_children f p ≡ sum_children g p
sum_same f g h (page c xs) = let i = h c in let j = rest-same f g h xs in omega arith

unmarked-same : (K : Type 0) (o o' : (n : ℕ) → Sub K n → Bool) (m : ℕ) → ((n : ℕ) (s : Sub K n) → n ≤ m → o n s ≡ o' n s) → (n : ℕ) (s : Sub K n) → n ≤ m → unmarked K o n s ≡ unmarked K o' n s
unmarked-same K o o' m h zero s l = refl
unmarked-same K o o' m h (suc n) s l =
    let i = sum_same (unmarked K o n) (unmarked K o' n) (λ c. unmarked-same K o o' m h n c (omega arith)) s in
    let j : cond (o (suc n) s) 0 1 ≡ cond (o' (suc n) s) 0 1 = ap (λ (b : Bool). cond b 0 1) (h (suc n) s l) in ap₂ (λ (a b : ℕ). a + b) j i

pub changed-below : {K : Type 0} (eq : K → K → Bool) → IsSame K eq → (t u : Tree K) → u.over ≤ t.over → changed eq t u ≡ sum_children (unmarked K (has_below eq t) u.over) u.root
changed-below {K} eq is t u l =
    sum_same (unmarked K (λ n s. has eq (suc t.over) t.root n s) u.over) (unmarked K (has_below eq t) u.over)
    (λ c. unmarked-same K (λ n s. has eq (suc t.over) t.root n s) (has_below eq t) u.over (λ n s i. has-below eq is t n s (omega arith)) u.over c (omega arith)) u.root
