-- Old pages are marked, and every name has a home: what tells a new page from each marked one.
use Rattle.std.proofs.Common.{◌≡◌, ℕ, zero, suc, ◌≤◌, Bool, true, false, ◌⊎◌, List, [], ◌∷◌, ◌++◌, length, sym, refl, ap, ◌∙◌, inl, inr, arith}
use Rattle.std.proofs.lemmas.Bool.{false_from_ne_true}
use Rattle.numbers.specs.Order.{Cmp, same}
use Rattle.tree.specs.Tree.{Item, item, Page, page, Sub, All, Child, pages_rest, pages_page, Full}
use Rattle.tree.specs.Fresh.{unmarked}
use Rattle.tree.proofs.Lists.{all_left, all_right, child_map}

-- some element is as P says
abbrev pub Some : {A : Type 0} → (A → Type 0) → List A → Type 0
Some P [] = ⊥
Some P (x ∷ xs) = P x ⊎ Some P xs

-- all but one at most
abbrev pub AllBut : {A : Type 0} → (A → Type 0) → List A → Type 0
AllBut P [] = Unit {0}
AllBut P (x ∷ xs) = (P x × AllBut P xs) ⊎ All P xs

pub some-not : {A : Type 0} (P : A → Type 0) (xs : List A) → Some (λ x. P x → ⊥) xs → All P xs → ⊥
some-not P [] s a = s
some-not P (x ∷ xs) (inl n) a = n a.0
some-not P (x ∷ xs) (inr s) a = some-not P xs s a.1

pub some-map : {A : Type 0} (P Q : A → Type 0) (xs : List A) → ((x : A) → P x → Q x) → Some P xs → Some Q xs
some-map P Q [] f s = s
some-map P Q (x ∷ xs) f (inl p) = inl (f x p)
some-map P Q (x ∷ xs) f (inr s) = inr (some-map P Q xs f s)

pub some-mid : {A : Type 0} (P : A → Type 0) (l : List A) (x : A) (r : List A) → P x → Some P (l ++ (x ∷ r))
some-mid P [] x r p = inl p
some-mid P (y ∷ l) x r p = inr (some-mid P l x r p)

pub some-all : {A : Type 0} (P : A → Type 0) (xs : List A) → 1 ≤ length xs → All P xs → Some P xs
some-all P [] h a = absurd (omega arith)
some-all P (x ∷ xs) h a = inl a.0

pub all_but : {A : Type 0} (P : A → Type 0) (xs : List A) → All P xs → AllBut P xs
all_but P [] a = tt
all_but P (x ∷ xs) a = inl (a.0, all_but P xs a.1)

pub but-left : {A : Type 0} (P : A → Type 0) (l r : List A) → AllBut P (l ++ r) → AllBut P l
but-left P [] r a = tt
but-left P (x ∷ l) r (inl a) = inl (a.0, but-left P l r a.1)
but-left P (x ∷ l) r (inr a) = inr (all_left P l r a)

pub but-right : {A : Type 0} (P : A → Type 0) (l r : List A) → AllBut P (l ++ r) → AllBut P r
but-right P [] r a = a
but-right P (x ∷ l) r (inl a) = but-right P l r a.1
but-right P (x ∷ l) r (inr a) = all_but P r (all_right P l r a)

pub but-tail : {A : Type 0} (P : A → Type 0) (x : A) (xs : List A) → AllBut P (x ∷ xs) → AllBut P xs
but-tail P x xs (inl a) = a.1
but-tail P x xs (inr a) = all_but P xs a

pub but-some : {A : Type 0} (P : A → Type 0) (xs : List A) → 2 ≤ length xs → AllBut P xs → Some P xs
but-some P [] h a = absurd (omega arith)
but-some P (x ∷ xs) h (inl a) = inl a.0
but-some P (x ∷ xs) h (inr a) = inr (some-all P xs (omega arith) a)

-- where a name stands: on which level from the leaves up, in a page of how many entries, with which number
abbrev pub Home : Type 0
Home = ℕ × ℕ × ℕ

module _ {K : Type 0} where
  abbrev pub AtHome : {S : Type 0} → (K → Home) → ℕ → ℕ → Item K S → Type 0
  AtHome home n l (item e d) = home e.0 ≡ (n, l, e.1)

  abbrev pub SomeChild : {S : Type 0} → (S → Type 0) → Page K S → Type 0
  SomeChild P (page c xs) = P c ⊎ Some (Child P) xs

  abbrev pub EachChild : {S : Type 0} → (S → Type 0) → Page K S → Type 0
  EachChild P (page c xs) = P c × All (Child P) xs

  pub each-child : {S : Type 0} (P Q : S → Type 0) → ((c : S) → P c → Q c) → (p : Page K S) → EachChild P p → EachChild Q p
  each-child P Q f (page c xs) h = (f c h.0, child_map P Q f xs h.1)

  abbrev pub MarkedPage : {S : Type 0} → (Page K S → Bool) → (S → Type 0) → Page K S → Type 0
  MarkedPage o M (page c xs) = (o (page c xs) ≡ true) × M c × All (Child M) xs

  pub resized : {S : Type 0} (home : K → Home) (n l m : ℕ) (xs : List (Item K S)) → (l ≡ m → ⊥) → Some (AtHome home n l) xs → Some (λ i. AtHome home n m i → ⊥) xs
  resized {S} home n l m xs h s = some-map _ _ xs go s
    where
      go : (i : Item K S) → AtHome home n l i → AtHome home n m i → ⊥
      go (item e d) p q = h (ap (λ (z : Home). z.1) (sym p ∙ q))

  pub rest-old : {S : Type 0} (O : S → Type 0) (ψ : S → ℕ) → ((c : S) → O c → ψ c ≡ 0) → (xs : List (Item K S)) → All (Child O) xs → pages_rest ψ xs ≡ 0
  rest-old O ψ old [] a = refl
  rest-old O ψ old (item e d ∷ xs) a = let h = old d a.0 in let i = rest-old O ψ old xs a.1 in omega arith

-- o marks every page of a tree
abbrev pub Marked : (K : Type 0) → ((n : ℕ) → Sub K n → Bool) → (n : ℕ) → Sub K n → Type 0
Marked K o zero t = Unit {0}
Marked K o (suc n) t = MarkedPage (o (suc n)) (Marked K o n) t

-- a full tree of marked pages
abbrev pub Held : (K : Type 0) → ((n : ℕ) → Sub K n → Bool) → (n : ℕ) → Sub K n → Type 0
Held K o n t = Full K n t × Marked K o n t

module _ {K : Type 0} (cmp : K → K → Cmp) (o : (n : ℕ) → Sub K n → Bool) (home : K → Home) where
  -- a page that o does not mark; below a leaf there is none
  abbrev pub New : (n : ℕ) → Sub K n → Type 0
  New zero t = ⊥
  New (suc n) t = o (suc n) t ≡ false

  pub record Marks : Type 0 where
    -- names that compare as same have one home
    pub respects : (a b : K) → cmp a b ≡ same → home a ≡ home b
    -- no page with a new child is marked
    pub closed : (n : ℕ) (p : Sub K (suc n)) → o (suc n) p ≡ true → SomeChild (New n) p → ⊥
    -- the entries of a marked page are at home
    pub own : (n : ℕ) (c : Sub K n) (xs : List (Item K (Sub K n))) → o (suc n) (page c xs) ≡ true → All (AtHome home (suc n) (length xs)) xs

  module _ (marks : Marks) where
    pub new-child : (n : ℕ) (p : Sub K (suc n)) → SomeChild (New n) p → New (suc n) p
    new-child n p s = false_from_ne_true (o (suc n) p) (λ e. marks.closed n p e s)

    pub new-stray : (n : ℕ) (c : Sub K n) (xs : List (Item K (Sub K n))) → Some (λ i. AtHome home (suc n) (length xs) i → ⊥) xs → New (suc n) (page c xs)
    new-stray n c xs s = false_from_ne_true (o (suc n) (page c xs)) (λ e. some-not _ xs s (marks.own n c xs e))

    -- some entry is from a page of another size
    pub new-resized : (n l : ℕ) (c : Sub K n) (xs : List (Item K (Sub K n))) → (l ≡ length xs → ⊥) → Some (AtHome home (suc n) l) xs → New (suc n) (page c xs)
    new-resized n l c xs h s = new-stray n c xs (resized home (suc n) l (length xs) xs h s)

  -- a marked tree has no unmarked page, and a new page counts
  pub old-none : (n : ℕ) (t : Sub K n) → Marked K o n t → unmarked K o n t ≡ 0
  old-none zero t h = refl
  old-none (suc n) (page c xs) h = rw h.0 (let i = old-none n c h.1 in let j = rest-old (Marked K o n) (unmarked K o n) (λ d k. old-none n d k) xs h.2 in omega arith)

  pub held_none : (n : ℕ) (t : Sub K n) → Held K o n t → unmarked K o n t ≡ 0
  held_none n t h = old-none n t h.1

  pub new-counts : (n : ℕ) (p : Sub K (suc n)) → New (suc n) p → unmarked K o (suc n) p ≡ pages_page (unmarked K o n) p
  new-counts n (page c xs) h = rw h refl
