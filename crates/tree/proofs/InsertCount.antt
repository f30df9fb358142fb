-- What an insert counts are the pages of the new tree that are not marked.
use Rattle.std.proofs.Common.{◌≡◌, ℕ, zero, suc, ◌+◌, ◌≤◌, Bool, true, false, cond, leb, ◌⊎◌, List, [], ◌∷◌, ◌++◌, length, take, drop, sym, refl, ap, ◌∙◌, subst, inl, inr, arith}
use Rattle.std.proofs.lemmas.List.{take-append-drop, length-take, length-drop}
use Rattle.std.proofs.lemmas.Bool.{leb-false}
use Rattle.numbers.specs.Order.{Cmp, below, same, above}
use Rattle.tree.specs.Tree.{Entry, Item, item, Page, page, Sub, pick, Found, at, All, Child, pages_page, FullPage, Full, look_in, look}
use Rattle.tree.specs.Insert.{Up, one, two, tops, splice, before, halves, cut, fit, ins_in, ins, grow}
use Rattle.tree.specs.Fresh.{sum_children, unmarked}
use Rattle.tree.proofs.Lists.{child_both}
use Rattle.tree.proofs.Pages.{pages_up, splice-pages, before-pages, fit-pages}
use Rattle.tree.proofs.Marks.{Some, AllBut, but-left, but-right, but-tail, but-some, Home, AtHome, SomeChild, Marked, rest-old, New, Marks, new-child, new-stray, new-resized, new-counts, Held, held_none}

-- of what stands in a child's place: one is new
abbrev pub NewUp : {K S : Type 0} → (S → Type 0) → Up K S → Type 0
NewUp N (one c) = N c
NewUp N (two c e d) = Unit {0}

-- a page of size l or one more: with as many, a child is new or an entry not at home; with one more, all but one are at home
module _ {K S : Type 0} (N : S → Type 0) (home : K → Home) (m l : ℕ) where
  abbrev pub Altered : ℕ → Page K S → Type 0
  Altered a (page c xs) = ((length xs ≡ a) × (SomeChild N (page c xs) ⊎ Some (λ i. AtHome home m l i → ⊥) xs)) ⊎ ((length xs ≡ suc a) × AllBut (AtHome home m l) xs)

  splice-altered : (u : Up K S) (xs : List (Item K S)) → NewUp N u → All (AtHome home m l) xs → Altered (length xs) (splice u xs)
  splice-altered (one c) xs n a = inl (refl, inl (inl n))
  splice-altered (two c e d) xs n a = inr (refl, inr a)

  before-altered : (a : ℕ) (c : S) (e : Entry K) (w : Page K S) → home e.0 ≡ (m, l, e.1) → Altered a w → Altered (suc a) (before c e w)
  before-altered a c e (page d xs) h (inl (s, inl (inl n))) = inl (ap suc s, inl (inr (inl n)))
  before-altered a c e (page d xs) h (inl (s, inl (inr n))) = inl (ap suc s, inl (inr (inr n)))
  before-altered a c e (page d xs) h (inl (s, inr n)) = inl (ap suc s, inr (inr n))
  before-altered a c e (page d xs) h (inr (s, b)) = inr (ap suc s, inl (h, b))

module _ {K : Type 0} (cmp : K → K → Cmp) {S : Type 0} (O N : S → Type 0) (ψ : S → ℕ) (old : (c : S) → O c → ψ c ≡ 0) (home : K → Home) (respects : (a b : K) → cmp a b ≡ same → home a ≡ home b) (m l : ℕ)
    (x : Entry K) (f : S → Up K S × ℕ) (g : S → Found) (right : (c : S) → O c → (g c ≡ at x.1 → ⊥) → (pages_up ψ (f c).0 ≡ (f c).1) × NewUp N (f c).0) where
  pub ins_in-new : (c : S) (xs : List (Item K S)) → O c → All (Child O) xs → All (AtHome home m l) xs → (look_in cmp g x.0 c xs ≡ at x.1 → ⊥) →
      let r = ins_in cmp f x c xs in (pages_page ψ r.0 ≡ 1 + r.1) × Altered N home m l (length xs) r.0
  ins_in-new c [] p a h q = let i = right c p q in let j = splice-pages ψ (f c).0 [] in (omega (arith, i.0), splice-altered N home m l (f c).0 [] i.1 tt)
  ins_in-new c (item e d ∷ xs) p a h q = go (cmp x.0 e.0) refl (ins_in-new d xs a.0 a.1 h.1) q
    where
      w : Page K S × ℕ
      w = ins_in cmp f x d xs

      go : (o : Cmp) → cmp x.0 e.0 ≡ o → ((look_in cmp g x.0 d xs ≡ at x.1 → ⊥) → (pages_page ψ w.0 ≡ 1 + w.1) × Altered N home m l (length xs) w.0) →
          (pick o (g c) (at e.1) (look_in cmp g x.0 d xs) ≡ at x.1 → ⊥) →
          let r = pick {A = Page K S × ℕ} o (splice (f c).0 (item e d ∷ xs), (f c).1) (page c (item x d ∷ xs), 0) (before c e w.0, w.1) in
          (pages_page ψ r.0 ≡ 1 + r.1) × Altered N home m l (suc (length xs)) r.0
      go below b i q =
          let i = right c p q in let j = splice-pages ψ (f c).0 (item e d ∷ xs) in let k = rest-old O ψ old (item e d ∷ xs) a in
          (omega (arith, i.0), splice-altered N home m l (f c).0 (item e d ∷ xs) i.1 h)
      go same b i q =
          let j = old c p in let k = rest-old O ψ old (item e d ∷ xs) a in
          (omega arith, inl (refl, inr (inl (λ s. q (ap at (ap (λ (z : Home). z.2) (sym h.0 ∙ sym (respects x.0 e.0 b) ∙ s)))))))
      go above b i q =
          let r = i q in let j = old c p in let k = before-pages ψ c e w.0 in
          (omega (arith, r.0), before-altered N home m l (length xs) c e w.0 h.0 r.1)

module _ {K : Type 0} (cmp : K → K → Cmp) (o : (n : ℕ) → Sub K n → Bool) (home : K → Home) (marks : Marks cmp o home) where
  abbrev pub Fresh : (n : ℕ) → Sub K n → Type 0
  Fresh n t = New cmp o home n t

  abbrev ψ : (n : ℕ) → Sub K n → ℕ
  ψ n t = unmarked K o n t

  altered-new : (n l : ℕ) (c : Sub K n) (xs : List (Item K (Sub K n))) → 1 ≤ l → Altered (Fresh n) home (suc n) l l (page c xs) → Fresh (suc n) (page c xs)
  altered-new n l c xs h (inl (s, inl n')) = new-child cmp o home marks n (page c xs) n'
  altered-new n l c xs h (inl (s, inr n')) = new-stray cmp o home marks n c xs (subst (λ (z : ℕ). Some (λ i. AtHome home (suc n) z i → ⊥) xs) (sym s) n')
  altered-new n l c xs h (inr (s, b)) = new-resized cmp o home marks n l c xs (λ e. absurd (omega arith)) (but-some _ xs (omega arith) b)

  -- of two, both are new
  abbrev pub SplitNew : (n : ℕ) → Up K (Sub K n) → Type 0
  SplitNew n (one p) = Unit {0}
  SplitNew n (two p e q) = Fresh n p × Fresh n q

  halves_new : (n l : ℕ) (c : Sub K n) (left right : List (Item K (Sub K n))) → length left ≡ 12 → length right ≡ 13 → l ≡ 24 → AllBut (AtHome home (suc n) l) left → AllBut (AtHome home (suc n) l) right →
      SplitNew (suc n) (halves c left right)
  halves_new n l c left [] s r e a b = absurd (omega arith)
  halves_new n l c left (item f d ∷ right) s r e a b = (
    new-resized cmp o home marks n l c left (λ h. absurd (omega arith)) (but-some _ left (omega arith) a),
    new-resized cmp o home marks n l d right (λ h. absurd (omega arith)) (but-some _ right (omega arith) (but-tail _ (item f d) right b)),
  )

  split-new : (n l : ℕ) (w : Sub K (suc n)) → l ≤ 24 → Altered (Fresh n) home (suc n) l l w → SplitNew (suc n) (fit w)
  split-new n l (page c xs) h a = go (leb (length xs) 24) refl a
    where
      H : Item K (Sub K n) → Type 0
      H = AtHome home (suc n) l

      go : (b : Bool) → leb (length xs) 24 ≡ b → Altered (Fresh n) home (suc n) l l (page c xs) → SplitNew (suc n) (cond b (one (page c xs)) (cut 12 c xs))
      go true e a = tt
      go false e (inl (s, a)) = let i = leb-false (length xs) 24 e in absurd (omega arith)
      go false e (inr (s, a)) =
          let i = leb-false (length xs) 24 e in
          let j : AllBut H (take 12 xs ++ drop 12 xs) = rw take-append-drop a in
          halves_new n l c (take 12 xs) (drop 12 xs) (rw length-take (omega arith)) (rw length-drop (omega arith)) (omega arith) (but-left H (take 12 xs) (drop 12 xs) j) (but-right H (take 12 xs) (drop 12 xs) j)

  split_one : (n : ℕ) (c : Sub K n) (left right : List (Item K (Sub K n))) → 1 ≤ length right → NewUp (Fresh (suc n)) (halves c left right)
  split_one n c left [] h = absurd (omega arith)
  split_one n c left (item e d ∷ right) h = tt

  fit-new : (n l : ℕ) (w : Sub K (suc n)) → 1 ≤ l → Altered (Fresh n) home (suc n) l l w → NewUp (Fresh (suc n)) (fit w)
  fit-new n l (page c xs) h a = go (leb (length xs) 24) refl
    where
      go : (b : Bool) → leb (length xs) 24 ≡ b → NewUp (Fresh (suc n)) (cond b (one (page c xs)) (cut 12 c xs))
      go true e = altered-new n l c xs h a
      go false e = let i = leb-false (length xs) 24 e in split_one n c (take 12 xs) (drop 12 xs) (rw length-drop (omega arith))

  up-counts : (n : ℕ) (u : Up K (Sub K (suc n))) → NewUp (Fresh (suc n)) u → SplitNew (suc n) u → pages_up (ψ (suc n)) u ≡ pages_up (pages_page (ψ n)) u
  up-counts n (one p) h s = new-counts cmp o home n p h
  up-counts n (two p e q) h s = let i = new-counts cmp o home n p s.0 in let j = new-counts cmp o home n q s.1 in omega arith

  -- the page before it is fitted
  page-new : (n low : ℕ) (x : Entry K) (c : Sub K n) (xs : List (Item K (Sub K n))) → ((d : Sub K n) → Held K o n d → (look cmp n x.0 d ≡ at x.1 → ⊥) → (pages_up (ψ n) (ins cmp n x d).0 ≡ (ins cmp n x d).1) × NewUp (Fresh n) (ins cmp n x d).0) →
      FullPage (Full K n) low (page c xs) → Marked K o (suc n) (page c xs) → (look cmp (suc n) x.0 (page c xs) ≡ at x.1 → ⊥) →
      let r = ins_in cmp (ins cmp n x) x c xs in (pages_page (ψ n) r.0 ≡ 1 + r.1) × Altered (Fresh n) home (suc n) (length xs) (length xs) r.0
  page-new n low x c xs right h k q =
      ins_in-new cmp (Held K o n) (Fresh n) (ψ n) (held_none cmp o home n) home marks.respects (suc n) (length xs) x (ins cmp n x) (look cmp n x.0) right c xs (h.2, k.1) (child_both (Full K n) (Marked K o n) xs h.3 k.2) (marks.own n c xs k.0) q

  ins-new : (n : ℕ) (x : Entry K) (t : Sub K n) → Held K o n t → (look cmp n x.0 t ≡ at x.1 → ⊥) → (pages_up (ψ n) (ins cmp n x t).0 ≡ (ins cmp n x t).1) × NewUp (Fresh n) (ins cmp n x t).0
  ins-new zero x t h q = (refl, tt)
  ins-new (suc n) x (page c xs) h q =
      let w = ins_in cmp (ins cmp n x) x c xs in
      let r = page-new n 12 x c xs (ins-new n x) h.0 h.1 q in
      let s = fit-new n (length xs) w.0 (omega (arith, h.0.0)) r.1 in
      let i = up-counts n (fit w.0) s (split-new n (length xs) w.0 h.0.1 r.1) in
      let j = fit-pages (ψ n) w.0 in
      (omega (arith, r.0), s)

  -- every page that comes back is new
  abbrev pub AllNew : (n : ℕ) → Up K (Sub K n) → Type 0
  AllNew n (one p) = Fresh n p
  AllNew n (two p e q) = Fresh n p × Fresh n q

  all_new : (n : ℕ) (u : Up K (Sub K n)) → NewUp (Fresh n) u → SplitNew n u → AllNew n u
  all_new n (one p) h s = h
  all_new n (two p e q) h s = s

  pub ins-fresh : (n : ℕ) (x : Entry K) (t : Sub K (suc n)) → Held K o (suc n) t → (look cmp (suc n) x.0 t ≡ at x.1 → ⊥) → AllNew (suc n) (ins cmp (suc n) x t).0
  ins-fresh n x (page c xs) h q =
      let w = ins_in cmp (ins cmp n x) x c xs in
      let r = page-new n 12 x c xs (ins-new n x) h.0 h.1 q in
      all_new (suc n) (fit w.0) (fit-new n (length xs) w.0 (omega (arith, h.0.0)) r.1) (split-new n (length xs) w.0 h.0.1 r.1)

  pub root-fresh : (n low : ℕ) (x : Entry K) (p : Sub K (suc n)) → FullPage (Full K n) low p → Marked K o (suc n) p → (look cmp (suc n) x.0 p ≡ at x.1 → ⊥) → SplitNew (suc n) (ins cmp (suc n) x p).0
  root-fresh n low x (page c xs) h k q =
      let w = ins_in cmp (ins cmp n x) x c xs in
      let r = page-new n low x c xs (ins-new n x) h k q in split-new n (length xs) w.0 h.1 r.1

  grow-new : (n : ℕ) (u : Up K (Sub K (suc n))) (k : ℕ) → SplitNew (suc n) u → pages_up (pages_page (ψ n)) u ≡ k → let r = grow n (u, k) in sum_children (ψ r.0.over) r.0.root ≡ r.1
  grow-new n (one (page c xs)) k s e = omega arith
  grow-new n (two p f q) k s e = let i = new-counts cmp o home n p s.0 in let j = new-counts cmp o home n q s.1 in omega arith

  pub root-new : (n low : ℕ) (x : Entry K) (p : Sub K (suc n)) → FullPage (Full K n) low p → Marked K o (suc n) p → (look cmp (suc n) x.0 p ≡ at x.1 → ⊥) →
      let r = grow n (ins cmp (suc n) x p) in sum_children (ψ r.0.over) r.0.root ≡ r.1
  root-new n low x (page c xs) h k q =
      let w = ins_in cmp (ins cmp n x) x c xs in
      let r = page-new n low x c xs (ins-new n x) h k q in
      let j = fit-pages (ψ n) w.0 in
      grow-new n (fit w.0) (w.1 + tops (fit w.0)) (split-new n (length xs) w.0 h.1 r.1) (omega (arith, r.0))
