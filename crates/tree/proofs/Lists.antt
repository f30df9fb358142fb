-- Lists of entries that rise, and the children behind them.
use Rattle.std.proofs.Common.{◌≡◌, ℕ, List, [], ◌∷◌, ◌++◌, refl, ap, ◌∙◌, arith}
use Rattle.numbers.specs.Order.{Cmp, below, same, above, IsOrder}
use Rattle.tree.specs.Tree.{Entry, pick, All, Under, Rises, absent, at, Item, item, Child}
use Rattle.tree.specs.Laws.{put, without, find}
use Rattle.tree.proofs.Order.{flip', above_same, above-above}

pub all_left : {A : Type 0} (P : A → Type 0) (l r : List A) → All P (l ++ r) → All P l
all_left P [] r h = tt
all_left P (x ∷ l) r h = (h.0, all_left P l r h.1)

pub all_right : {A : Type 0} (P : A → Type 0) (l r : List A) → All P (l ++ r) → All P r
all_right P [] r h = h
all_right P (x ∷ l) r h = all_right P l r h.1

pub all_join : {A : Type 0} (P : A → Type 0) (l r : List A) → All P l → All P r → All P (l ++ r)
all_join P [] r h k = k
all_join P (x ∷ l) r h k = (h.0, all_join P l r h.1 k)

pub all_map : {A : Type 0} (P Q : A → Type 0) (l : List A) → ((x : A) → P x → Q x) → All P l → All Q l
all_map P Q [] f h = tt
all_map P Q (x ∷ l) f h = (f x h.0, all_map P Q l f h.1)

pub child_map : {K S : Type 0} (P Q : S → Type 0) → ((c : S) → P c → Q c) → (xs : List (Item K S)) → All (Child P) xs → All (Child Q) xs
child_map P Q f [] a = tt
child_map P Q f (item e d ∷ xs) a = (f d a.0, child_map P Q f xs a.1)

pub child_both : {K S : Type 0} (P Q : S → Type 0) (xs : List (Item K S)) → All (Child P) xs → All (Child Q) xs → All (Child (λ (c : S). P c × Q c)) xs
child_both P Q [] a b = tt
child_both P Q (item e d ∷ xs) a b = ((a.0, b.0), child_both P Q xs a.1 b.1)

pub not-found : (v : ℕ) → absent ≡ at v → ⊥
not-found v h = let z : ◌≡◌ {A = ℕ} 0 1 = cc in absurd (omega arith)

pub not-nil : {A : Type 0} (l : List A) (x : A) (r : List A) → l ++ (x ∷ r) ≡ [] → ◌≡◌ {A = ℕ} 0 1
not-nil [] x r h = cc
not-nil (y ∷ l) x r h = cc

module _ {K : Type 0} (cmp : K → K → Cmp) (ord : IsOrder K cmp) where
  -- every one of l is below k
  abbrev pub Over : K → List (Entry K) → Type 0
  Over k l = All (λ (x : Entry K). cmp x.0 k ≡ below) l

  -- k is above every one of l
  abbrev pub Past : K → List (Entry K) → Type 0
  Past k l = All (λ (x : Entry K). cmp k x.0 ≡ above) l

  pub rises-left : (l r : List (Entry K)) → Rises cmp (l ++ r) → Rises cmp l
  rises-left [] r h = tt
  rises-left (x ∷ l) r h = (all_left _ l r h.0, rises-left l r h.1)

  pub rises-right : (l r : List (Entry K)) → Rises cmp (l ++ r) → Rises cmp r
  rises-right [] r h = h
  rises-right (x ∷ l) r h = rises-right l r h.1

  pub rises-mid : (l : List (Entry K)) (e : Entry K) (r : List (Entry K)) → Rises cmp (l ++ (e ∷ r)) → Over e.0 l
  rises-mid [] e r h = tt
  rises-mid (x ∷ l) e r h = ((all_right _ l (e ∷ r) h.0).0, rises-mid l e r h.1)

  pub past_same : (k : K) (e : Entry K) (l : List (Entry K)) → cmp k e.0 ≡ same → Over e.0 l → Past k l
  past_same k e l s h = all_map _ _ l (λ x b. above_same cmp ord x.0 e.0 k b s) h

  pub past-above : (k : K) (e : Entry K) (l : List (Entry K)) → cmp k e.0 ≡ above → Over e.0 l → Past k l
  past-above k e l s h = all_map _ _ l (λ x b. above-above cmp ord x.0 e.0 k b s) h

  -- PUT
  pub put-skip : (x : Entry K) (l r : List (Entry K)) → Past x.0 l → put cmp x (l ++ r) ≡ l ++ put cmp x r
  put-skip x [] r h = refl
  put-skip x (e ∷ l) r h = rw h.0 (ap (λ (z : List (Entry K)). e ∷ z) (put-skip x l r h.1))

  pub put-left : (x : Entry K) (l : List (Entry K)) (e : Entry K) (r : List (Entry K)) → cmp x.0 e.0 ≡ below → put cmp x (l ++ (e ∷ r)) ≡ put cmp x l ++ (e ∷ r)
  put-left x [] e r b = rw b
  put-left x (a ∷ l) e r b = go (cmp x.0 a.0) (put-left x l e r b)
    where
      go : (c : Cmp) → put cmp x (l ++ (e ∷ r)) ≡ put cmp x l ++ (e ∷ r) → pick c (x ∷ a ∷ (l ++ (e ∷ r))) (x ∷ (l ++ (e ∷ r))) (a ∷ put cmp x (l ++ (e ∷ r))) ≡ pick c (x ∷ a ∷ l) (x ∷ l) (a ∷ put cmp x l) ++ (e ∷ r)
      go below h = refl
      go same h = refl
      go above h = ap (λ (z : List (Entry K)). a ∷ z) h

  -- what is under a key below x's is still, with x in
  pub put_under : (k : K) (x : Entry K) (l : List (Entry K)) → cmp k x.0 ≡ below → Under cmp k l → Under cmp k (put cmp x l)
  put_under k x [] b h = (b, tt)
  put_under k x (e ∷ l) b h = go (cmp x.0 e.0) (put_under k x l b h.1)
    where
      go : (c : Cmp) → Under cmp k (put cmp x l) → Under cmp k (pick c (x ∷ e ∷ l) (x ∷ l) (e ∷ put cmp x l))
      go below r = (b, h)
      go same r = (b, h.1)
      go above r = (h.0, r)

  pub under-trans : (k : K) (e : Entry K) (l : List (Entry K)) → cmp k e.0 ≡ below → Under cmp e.0 l → Under cmp k l
  under-trans k e l b h = all_map _ _ l (λ x c. ord.carried k e.0 x.0 b c) h

  pub under_same : (k : K) (e : Entry K) (l : List (Entry K)) → cmp k e.0 ≡ same → Under cmp e.0 l → Under cmp k l
  under_same k e l s h = all_map _ _ l (λ x c. ord.alike k e.0 x.0 s ∙ c) h

  pub put-rises : (x : Entry K) (l : List (Entry K)) → Rises cmp l → Rises cmp (put cmp x l)
  put-rises x [] h = (tt, tt)
  put-rises x (e ∷ l) h = go (cmp x.0 e.0) refl (put-rises x l h.1)
    where
      go : (c : Cmp) → cmp x.0 e.0 ≡ c → Rises cmp (put cmp x l) → Rises cmp (pick c (x ∷ e ∷ l) (x ∷ l) (e ∷ put cmp x l))
      go below b r = ((b, under-trans x.0 e l b h.0), h)
      go same b r = (under_same x.0 e l b h.0, h.1)
      go above b r = (put_under e.0 x l (flip' cmp ord x.0 e.0 b) h.0, r)

  -- WITHOUT
  pub without-skip : (k : K) (l r : List (Entry K)) → Past k l → without cmp k (l ++ r) ≡ l ++ without cmp k r
  without-skip k [] r h = refl
  without-skip k (e ∷ l) r h = rw h.0 (ap (λ (z : List (Entry K)). e ∷ z) (without-skip k l r h.1))

  pub without-left : (k : K) (l : List (Entry K)) (e : Entry K) (r : List (Entry K)) → cmp k e.0 ≡ below → without cmp k (l ++ (e ∷ r)) ≡ without cmp k l ++ (e ∷ r)
  without-left k [] e r b = rw b
  without-left k (a ∷ l) e r b = go (cmp k a.0) (without-left k l e r b)
    where
      go : (c : Cmp) → without cmp k (l ++ (e ∷ r)) ≡ without cmp k l ++ (e ∷ r) → pick c (a ∷ (l ++ (e ∷ r))) (l ++ (e ∷ r)) (a ∷ without cmp k (l ++ (e ∷ r))) ≡ pick c (a ∷ l) l (a ∷ without cmp k l) ++ (e ∷ r)
      go below h = refl
      go same h = refl
      go above h = ap (λ (z : List (Entry K)). a ∷ z) h

  pub without_all : (P : Entry K → Type 0) (k : K) (l : List (Entry K)) → All P l → All P (without cmp k l)
  without_all P k [] h = tt
  without_all P k (e ∷ l) h = go (cmp k e.0) (without_all P k l h.1)
    where
      go : (c : Cmp) → All P (without cmp k l) → All P (pick c (e ∷ l) l (e ∷ without cmp k l))
      go below r = h
      go same r = h.1
      go above r = (h.0, r)

  pub without-rises : (k : K) (l : List (Entry K)) → Rises cmp l → Rises cmp (without cmp k l)
  without-rises k [] h = tt
  without-rises k (e ∷ l) h = go (cmp k e.0) (without-rises k l h.1)
    where
      go : (c : Cmp) → Rises cmp (without cmp k l) → Rises cmp (pick c (e ∷ l) l (e ∷ without cmp k l))
      go below r = h
      go same r = h.1
      go above r = (without_all _ k l h.0, r)

  -- FIND
  pub find_absent : (k : K) (l : List (Entry K)) → find cmp k l ≡ absent → without cmp k l ≡ l
  find_absent k [] h = refl
  find_absent k (e ∷ l) h = go (cmp k e.0) (find_absent k l) h
    where
      go : (c : Cmp) → (find cmp k l ≡ absent → without cmp k l ≡ l) → pick c absent (at e.1) (find cmp k l) ≡ absent → pick c (e ∷ l) l (e ∷ without cmp k l) ≡ e ∷ l
      go below r h = refl
      go same r h = cc
      go above r h = ap (λ (z : List (Entry K)). e ∷ z) (r h)

  pub find-skip : (k : K) (l r : List (Entry K)) → Past k l → find cmp k (l ++ r) ≡ find cmp k r
  find-skip k [] r h = refl
  find-skip k (e ∷ l) r h = rw h.0 (find-skip k l r h.1)

  pub find-left : (k : K) (l : List (Entry K)) (e : Entry K) (r : List (Entry K)) → cmp k e.0 ≡ below → find cmp k (l ++ (e ∷ r)) ≡ find cmp k l
  find-left k [] e r b = rw b
  find-left k (a ∷ l) e r b = rw (find-left k l e r b)
