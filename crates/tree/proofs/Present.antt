-- Inserting a name that is there.
use Rattle.std.proofs.Common.{◌≡◌, ℕ, zero, suc, ◌+◌, ◌-◌, ◌≤◌, List, [], ◌∷◌, length, sym, refl, ap, ◌∙◌, ap₂, arith}
use Rattle.std.proofs.lemmas.Bool.{le-leb}
use Rattle.numbers.specs.Order.{Cmp, below, same, above, IsOrder}
use Rattle.tree.specs.Tree.{Entry, Item, item, Page, page, Sub, pick, Found, absent, at, look_in, look_page, look, lookup, Tree, All, Child, Full, FullPage, lowest, Good, pages_rest, pages_page, pages_of, pages}
use Rattle.tree.specs.Delete.{size, if_found}
use Rattle.tree.specs.Insert.{Up, one, two, splice, before, fit, ins_in, ins_page, ins, grow, insert}
use Rattle.tree.specs.Laws.{InsertAgain, InsertPath, InsertGains}
use Rattle.tree.proofs.Lists.{not-found}
use Rattle.tree.proofs.Pages.{before-pages, insert-pages, tops-pos}

module _ {K : Type 0} (cmp : K → K → Cmp) (ord : IsOrder K cmp) where
  size-before : {S : Type 0} (c : S) (e : Entry K) (p : Page K S) → size (before c e p) ≡ suc (size p)
  size-before c e (page d xs) = refl

  fit-one : {S : Type 0} (p : Page K S) → size p ≤ 24 → fit p ≡ one p
  fit-one (page c xs) h = rw (le-leb (length xs) 24 h)

  record Kept {S : Type 0} (π : S → ℕ) (n a : ℕ) (r : Up K S × ℕ) : Type 0 where
    it : S
    is : r.0 ≡ one it
    same-pages : π it ≡ a
    few : r.1 ≤ n

  module _ {S : Type 0} (P : S → Type 0) (π : S → ℕ) (n : ℕ) (x : Entry K) (w : ℕ) (f : S → Up K S × ℕ) (g : S → Found)
      (right : (c : S) → P c → g c ≡ at w → Kept π n (π c) (f c)) where
    ins_in-kept : (c : S) (xs : List (Item K S)) → P c → All (Child P) xs → look_in cmp g x.0 c xs ≡ at w →
        let r = ins_in cmp f x c xs in (size r.0 ≡ length xs) × (pages_page π r.0 ≡ 1 + (π c + pages_rest π xs)) × (r.1 ≤ n)
    ins_in-kept c [] p a e = let k = right c p e in let i = k.same-pages in rw k.is (refl, omega arith, k.few)
    ins_in-kept c (item s d ∷ xs) p a e = go (cmp x.0 s.0) (λ e. ins_in-kept d xs a.0 a.1 e) e
      where
        v : Page K S × ℕ
        v = ins_in cmp f x d xs

        go : (o : Cmp) → (look_in cmp g x.0 d xs ≡ at w → (size v.0 ≡ length xs) × (pages_page π v.0 ≡ 1 + (π d + pages_rest π xs)) × (v.1 ≤ n)) →
            pick o (g c) (at s.1) (look_in cmp g x.0 d xs) ≡ at w →
            let r = pick {A = Page K S × ℕ} o (splice (f c).0 (item s d ∷ xs), (f c).1) (page c (item x d ∷ xs), 0) (before c s v.0, v.1) in
            (size r.0 ≡ suc (length xs)) × (pages_page π r.0 ≡ 1 + (π c + (π d + pages_rest π xs))) × (r.1 ≤ n)
        go below i e = let k = right c p e in let j = k.same-pages in rw k.is (refl, omega arith, k.few)
        go same i e = (refl, refl, omega arith)
        go above i e = let h = i e in let j = before-pages π c s v.0 in let l = size-before c s v.0 in (omega arith, omega arith, h.2)

    ins_page-kept : (low : ℕ) (p : Page K S) → FullPage P low p → look_page cmp g x.0 p ≡ at w → Kept (pages_page π) (suc n) (pages_page π p) (ins_page cmp f x p)
    ins_page-kept low (page c xs) h e =
        let k = ins_in-kept c xs h.2 h.3 e in
        let l : size (ins_in cmp f x c xs).0 ≤ 24 = omega arith in
        let o = fit-one (ins_in cmp f x c xs).0 l in
        record { it = (ins_in cmp f x c xs).0; is = o; same-pages = k.1; few = rw o (omega arith) }

  ins-kept : (n : ℕ) (x : Entry K) (w : ℕ) (t : Sub K n) → Full K n t → look cmp n x.0 t ≡ at w → Kept (pages_of K n) n (pages_of K n t) (ins cmp n x t)
  ins-kept zero x w t h e = absurd (not-found w e)
  ins-kept (suc n) x w t h e = ins_page-kept (Full K n) (pages_of K n) n x w (ins cmp n x) (look cmp n x.0) (λ c p i. ins-kept n x w c p i) 12 t h e

  grow-kept : (n : ℕ) (u : Up K (Sub K (suc n))) (k : ℕ) (p : Sub K (suc n)) (a : ℕ) → u ≡ one p → pages_of K (suc n) p ≡ a → k ≤ suc n → (pages (grow n (u, k)).0 ≡ a) × ((grow n (u, k)).1 ≤ n)
  grow-kept n u k p a e h l = rw e (h, omega arith)

  insert-present : (t : Tree K) (k : K) (v w : ℕ) → Good cmp t → lookup cmp t k ≡ at w → (pages (insert cmp t k v).0 ≡ pages t) × ((insert cmp t k v).1 ≤ t.over)
  insert-present t k v w g e =
      let x : Entry K = (k, v) in
      let u = ins cmp (suc t.over) x t.root in
      let h = ins_page-kept (Full K t.over) (pages_of K t.over) t.over x w (ins cmp t.over x) (look cmp t.over k) (λ c p i. ins-kept t.over x w c p i) (lowest t.over) t.root g.filled e in
      grow-kept t.over u.0 u.1 h.it (pages t) h.is h.same-pages h.few

  -- a new name: a page of each level changes at least
  module _ {S : Type 0} (n : ℕ) (x : Entry K) (f : S → Up K S × ℕ) (g : S → Found) (right : (c : S) → g c ≡ absent → n ≤ (f c).1) where
    ins_in-least : (c : S) (xs : List (Item K S)) → look_in cmp g x.0 c xs ≡ absent → n ≤ (ins_in cmp f x c xs).1
    ins_in-least c [] q = right c q
    ins_in-least c (item e d ∷ xs) q = go (cmp x.0 e.0) (ins_in-least d xs) q
      where
        w : Page K S × ℕ
        w = ins_in cmp f x d xs

        go : (o : Cmp) → (look_in cmp g x.0 d xs ≡ absent → n ≤ w.1) → pick o (g c) (at e.1) (look_in cmp g x.0 d xs) ≡ absent →
            n ≤ (pick {A = Page K S × ℕ} o (splice (f c).0 (item e d ∷ xs), (f c).1) (page c (item x d ∷ xs), 0) (before c e w.0, w.1)).1
        go below i q = right c q
        go same i q = absurd (not-found e.1 (sym q))
        go above i q = i q

    ins_page-least : (p : Page K S) → look_page cmp g x.0 p ≡ absent → suc n ≤ (ins_page cmp f x p).1
    ins_page-least (page c xs) q = let h = ins_in-least c xs q in let i = tops-pos (fit (ins_in cmp f x c xs).0) in omega arith

  ins-least : (n : ℕ) (x : Entry K) (t : Sub K n) → look cmp n x.0 t ≡ absent → n ≤ (ins cmp n x t).1
  ins-least zero x t q = omega arith
  ins-least (suc n) x t q = ins_page-least n x (ins cmp n x) (look cmp n x.0) (λ c h. ins-least n x c h) t q

  grow-least : (n : ℕ) (u : Up K (Sub K (suc n))) (k : ℕ) → suc n ≤ k → n ≤ (grow n (u, k)).1
  grow-least n (one p) k h = omega arith
  grow-least n (two p e q) k h = omega arith

  insert-least : (t : Tree K) (k : K) (v : ℕ) → lookup cmp t k ≡ absent → t.over ≤ (insert cmp t k v).1
  insert-least t k v q = let u = ins cmp (suc t.over) (k, v) t.root in grow-least t.over u.0 u.1 (ins-least (suc t.over) (k, v) t.root q)

  pub insert-path : InsertPath cmp
  insert-path t k v g = (λ e. insert-least t k v e, λ w e. (insert-present t k v w g e).1)

  pub insert-gains : InsertGains cmp
  insert-gains t k v g = go (lookup cmp t k) refl
    where
      go : (o : Found) → lookup cmp t k ≡ o → pages (insert cmp t k v).0 ≡ pages t + if_found o ((insert cmp t k v).1 - t.over) 0
      go absent e = let h = insert-pages cmp ord t k v g e in let i = insert-least t k v e in omega arith
      go (at w) e = let h = insert-present t k v w g e in omega (arith, h.0)

  -- a name that leads there already
  module _ {S : Type 0} (P : S → Type 0) (exact : (a b : K) → cmp a b ≡ same → a ≡ b) (x : Entry K) (f : S → Up K S × ℕ) (g : S → Found) (right : (c : S) → P c → g c ≡ at x.1 → (f c).0 ≡ one c) where
    ins_in-again : (c : S) (xs : List (Item K S)) → P c → All (Child P) xs → look_in cmp g x.0 c xs ≡ at x.1 → (ins_in cmp f x c xs).0 ≡ page c xs
    ins_in-again c [] p a q = ap (λ (u : Up K S). splice u []) (right c p q)
    ins_in-again c (item e d ∷ xs) p a q = go (cmp x.0 e.0) refl (ins_in-again d xs a.0 a.1) q
      where
        w : Page K S × ℕ
        w = ins_in cmp f x d xs

        value : {a b : ℕ} → at a ≡ at b → a ≡ b
        value h = cc

        go : (o : Cmp) → cmp x.0 e.0 ≡ o → (look_in cmp g x.0 d xs ≡ at x.1 → w.0 ≡ page d xs) → pick o (g c) (at e.1) (look_in cmp g x.0 d xs) ≡ at x.1 →
            (pick {A = Page K S × ℕ} o (splice (f c).0 (item e d ∷ xs), (f c).1) (page c (item x d ∷ xs), 0) (before c e w.0, w.1)).0 ≡ page c (item e d ∷ xs)
        go below b i q = ap (λ (u : Up K S). splice u (item e d ∷ xs)) (right c p q)
        go same b i q = ap (λ (z : Entry K). page c (item z d ∷ xs)) (ap₂ (λ (k : K) (v : ℕ). (k, v)) (exact x.0 e.0 b) (sym (value q)))
        go above b i q = ap (before c e) (i q)

    ins_page-again : (low : ℕ) (p : Page K S) → FullPage P low p → look_page cmp g x.0 p ≡ at x.1 → (ins_page cmp f x p).0 ≡ one p
    ins_page-again low (page c xs) h q = ap fit (ins_in-again c xs h.2 h.3 q) ∙ fit-one (page c xs) h.1

  ins-again : ((a b : K) → cmp a b ≡ same → a ≡ b) → (n : ℕ) (x : Entry K) (t : Sub K n) → Full K n t → look cmp n x.0 t ≡ at x.1 → (ins cmp n x t).0 ≡ one t
  ins-again exact zero x t h e = absurd (not-found x.1 e)
  ins-again exact (suc n) x t h e = ins_page-again (Full K n) exact x (ins cmp n x) (look cmp n x.0) (λ c p i. ins-again exact n x c p i) 12 t h e

  grow-again : (n : ℕ) (u : Up K (Sub K (suc n))) (k : ℕ) (p : Sub K (suc n)) → u ≡ one p → (grow n (u, k)).0 ≡ record { over = n; root = p }
  grow-again n u k p e = rw e refl

  pub insert-again : InsertAgain cmp
  insert-again exact t k v g e =
      let u = ins cmp (suc t.over) (k, v) t.root in
      grow-again t.over u.0 u.1 t.root (ins_page-again (Full K t.over) exact (k, v) (ins cmp t.over (k, v)) (look cmp t.over k) (λ c p i. ins-again exact t.over (k, v) c p i) (lowest t.over) t.root g.filled e)
