-- Two neighbours evened out or joined: both are new.
use Rattle.std.proofs.Common.{◌≡◌, ℕ, suc, pred, ◌+◌, ◌-◌, ◌<◌, ◌≤◌, Bool, true, false, cond, leb, ◌⊎◌, List, [], ◌∷◌, ◌++◌, length, take, drop, refl, ap₂, inl, inr, arith}
use Rattle.std.proofs.Math.Seq.{take-append-add, drop-append-add}
use Rattle.std.proofs.lemmas.List.{take-append-drop, length-take, length-drop, length-append, take-append-le, drop-append-le}
use Rattle.std.proofs.lemmas.Bool.{le-leb, lt-leb, lt-ltb, le-ltb, cases_lt}
use Rattle.numbers.specs.Order.{Cmp}
use Rattle.tree.specs.Tree.{Entry, Item, item, Page, page, Sub, All, pages_page, FullPage, Full}
use Rattle.tree.specs.Insert.{Up, one, two, tops, halves, cut}
use Rattle.tree.specs.Delete.{lent, share, even, mend_page}
use Rattle.tree.specs.Fresh.{unmarked}
use Rattle.tree.proofs.Mend.{mended}
use Rattle.tree.proofs.Fill.{EachUp}
use Rattle.tree.proofs.Lists.{all_left, all_right}
use Rattle.tree.proofs.Pages.{pages_up, rest-pages, cut-pages}
use Rattle.tree.proofs.Marks.{some-mid, some-all, Home, AtHome, Marked, rest-old, New, Marks, new-stray, new-resized, old-none, new-counts, Held, held_none}

-- what two neighbours become
module _ {K S : Type 0} (c : S) (xs : List (Item K S)) (e : Entry K) (d : S) (ys : List (Item K S)) where
  long : length (xs ++ (item e d ∷ ys)) ≡ length xs + suc (length ys)
  long = length-append xs (item e d ∷ ys)

  pub even-joins : length xs + length ys ≤ 23 → even (page c xs) e (page d ys) ≡ one (page c (xs ++ (item e d ∷ ys)))
  even-joins h = rw (le-leb (length (xs ++ (item e d ∷ ys))) 24 (omega (arith, long))) refl

  pub even-right : length xs ≡ 11 → 13 ≤ length ys → even (page c xs) e (page d ys) ≡ halves c (xs ++ (item e d ∷ take (pred (lent (length ys))) ys)) (drop (pred (lent (length ys))) ys)
  even-right h k =
      let j = pred (lent (length ys)) in
      let s : share (length xs) (length ys) ≡ length xs + suc j = rw (lt-ltb (length xs) (length ys) (omega arith)) (omega arith) in
      rw (lt-leb (length (xs ++ (item e d ∷ ys))) 24 (omega (arith, long))) (rw s (ap₂ (halves c) (take-append-add xs (item e d ∷ ys) (suc j)) (drop-append-add xs (item e d ∷ ys) (suc j))))

  pub even-left : 13 ≤ length xs → length ys ≡ 11 →
      even (page c xs) e (page d ys) ≡ halves c (take (length xs - lent (length xs)) xs) (drop (length xs - lent (length xs)) xs ++ (item e d ∷ ys))
  even-left h k =
      let m = length xs - lent (length xs) in
      let s : share (length xs) (length ys) ≡ m = rw (le-ltb (length xs) (length ys) (omega arith)) refl in
      rw (lt-leb (length (xs ++ (item e d ∷ ys))) 24 (omega (arith, long))) (rw s (ap₂ (halves c) (take-append-le m xs (item e d ∷ ys) (omega arith)) (drop-append-le m xs (item e d ∷ ys) (omega arith))))

pub even-pages : {K S : Type 0} (π : S → ℕ) (p : Page K S) (e : Entry K) (q : Page K S) → pages_up (pages_page π) (even p e q) + 2 ≡ tops (even p e q) + (pages_page π p + pages_page π q)
even-pages {K} {S} π (page c xs) e (page d ys) = go (leb (length (xs ++ (item e d ∷ ys))) 24)
  where
    all : List (Item K S)
    all = xs ++ (item e d ∷ ys)

    go : (b : Bool) → let u = cond b (one (page c all)) (cut (share (length xs) (length ys)) c all) in pages_up (pages_page π) u + 2 ≡ tops u + (pages_page π (page c xs) + pages_page π (page d ys))
    go true = let r = rest-pages π xs (item e d ∷ ys) in omega arith
    go false = let r = rest-pages π xs (item e d ∷ ys) in let s = cut-pages π (share (length xs) (length ys)) c all in omega arith

-- of what stands in the place of two: one at least is as N says
module _ {K S : Type 0} (N : S → Type 0) where
  abbrev pub SomeUp : Up K S → Type 0
  SomeUp (one c) = N c
  SomeUp (two c e d) = N c ⊎ N d

  pub each-some : (u : Up K S) → EachUp N u → SomeUp u
  each-some (one c) h = h
  each-some (two c e d) h = inl h.0

module _ {K : Type 0} (cmp : K → K → Cmp) (o : (n : ℕ) → Sub K n → Bool) (home : K → Home) (marks : Marks cmp o home) where
  abbrev Fresh : (n : ℕ) → Sub K n → Type 0
  Fresh n t = New cmp o home n t

  abbrev ψ : (n : ℕ) → Sub K n → ℕ
  ψ n t = unmarked K o n t

  -- e is not at home on level n
  abbrev pub Away : ℕ → Entry K → Type 0
  Away n e = (l v : ℕ) → home e.0 ≡ (n, l, v) → ⊥

  away-new : (n : ℕ) (c : Sub K n) (l : List (Item K (Sub K n))) (e : Entry K) (d : Sub K n) (r : List (Item K (Sub K n))) → Away (suc n) e → Fresh (suc n) (page c (l ++ (item e d ∷ r)))
  away-new n c l e d r a = new-stray cmp o home marks n c (l ++ (item e d ∷ r)) (some-mid _ l (item e d) r (λ h. a _ _ h))

  -- one of the two lent some of its entries to the other
  halves-right : (n l : ℕ) (c : Sub K n) (left right : List (Item K (Sub K n))) → Fresh (suc n) (page c left) → 2 ≤ length right → length right ≤ l → All (AtHome home (suc n) l) right → EachUp (Fresh (suc n)) (halves c left right)
  halves-right n l c left [] f h k a = absurd (omega arith)
  halves-right n l c left (item g b ∷ right) f h k a = (f, new-resized cmp o home marks n l b right (λ i. absurd (omega arith)) (some-all _ right (omega arith) a.1))

  halves-left : (n l : ℕ) (c : Sub K n) (left more : List (Item K (Sub K n))) (e : Entry K) (d : Sub K n) (ys : List (Item K (Sub K n))) → 1 ≤ length left → length left < l → 1 ≤ length more →
      All (AtHome home (suc n) l) left → Away (suc n) e → EachUp (Fresh (suc n)) (halves c left (more ++ (item e d ∷ ys)))
  halves-left n l c left [] e d ys h k i a w = absurd (omega arith)
  halves-left n l c left (item g b ∷ more) e d ys h k i a w =
      (new-resized cmp o home marks n l c left (λ j. absurd (omega arith)) (some-all _ left h a), away-new n b more e d ys w)

  -- of ys, all at home in a page of that size, what is left after dropping j
  dropped : (n j l : ℕ) (ys : List (Item K (Sub K n))) → All (AtHome home (suc n) l) ys → All (AtHome home (suc n) l) (drop j ys)
  dropped n j l ys a = all_right _ (take j ys) (drop j ys) (rw take-append-drop a)

  taken : (n j l : ℕ) (ys : List (Item K (Sub K n))) → All (AtHome home (suc n) l) ys → All (AtHome home (suc n) l) (take j ys)
  taken n j l ys a = all_left _ (take j ys) (drop j ys) (rw take-append-drop a)

  even-right-new : (n : ℕ) (c : Sub K n) (xs : List (Item K (Sub K n))) (e : Entry K) (d : Sub K n) (ys : List (Item K (Sub K n))) → length xs ≡ 11 → 12 ≤ length ys → All (AtHome home (suc n) (length ys)) ys → Away (suc n) e →
      EachUp (Fresh (suc n)) (even (page c xs) e (page d ys))
  even-right-new n c xs e d ys h k a w = go (cases_lt (length ys) 13)
    where
      go : (length ys < 13) ⊎ (13 ≤ length ys) → EachUp (Fresh (suc n)) (even (page c xs) e (page d ys))
      go (inl l) = rw (even-joins c xs e d ys (omega arith)) (away-new n c xs e d ys w)
      go (inr l) =
          let j = pred (lent (length ys)) in
          rw (even-right c xs e d ys h l) (halves-right n (length ys) c (xs ++ (item e d ∷ take j ys)) (drop j ys) (away-new n c xs e d (take j ys) w) (rw length-drop (omega arith)) (rw length-drop (omega arith)) (dropped n j (length ys) ys a))

  even-left-new : (n : ℕ) (c : Sub K n) (xs : List (Item K (Sub K n))) (e : Entry K) (d : Sub K n) (ys : List (Item K (Sub K n))) → 12 ≤ length xs → length ys ≡ 11 → All (AtHome home (suc n) (length xs)) xs → Away (suc n) e →
      EachUp (Fresh (suc n)) (even (page c xs) e (page d ys))
  even-left-new n c xs e d ys h k a w = go (cases_lt (length xs) 13)
    where
      go : (length xs < 13) ⊎ (13 ≤ length xs) → EachUp (Fresh (suc n)) (even (page c xs) e (page d ys))
      go (inl l) = rw (even-joins c xs e d ys (omega arith)) (away-new n c xs e d ys w)
      go (inr l) =
          let m = length xs - lent (length xs) in
          rw (even-left c xs e d ys l k) (halves-left n (length xs) c (take m xs) (drop m xs) e d ys (rw length-take (omega arith)) (rw length-take (omega arith)) (rw length-drop (omega arith)) (taken n m (length xs) xs a) w)

  each_counts : (n : ℕ) (u : Up K (Sub K (suc n))) → EachUp (Fresh (suc n)) u → pages_up (ψ (suc n)) u ≡ pages_up (pages_page (ψ n)) u
  each_counts n (one p) h = new-counts cmp o home n p h
  each_counts n (two p e q) h = let i = new-counts cmp o home n p h.0 in let j = new-counts cmp o home n q h.1 in omega arith

  -- a page changed, with i changed pages below it
  abbrev pub Changed : (n : ℕ) → Sub K (suc n) → ℕ → Type 0
  Changed n p i = (pages_page (ψ n) p ≡ 1 + i) × Fresh (suc n) p

  pub held_one : (n low : ℕ) (p : Sub K (suc n)) → FullPage (Full K n) low p → Marked K o (suc n) p → pages_page (ψ n) p ≡ 1
  held_one n low (page c xs) f m =
      let i = old-none cmp o home n c m.1 in let j = rest-old (Marked K o n) (ψ n) (λ d k. old-none cmp o home n d k) xs m.2 in omega arith

  abbrev Mended : (n : ℕ) → ℕ → Up K (Sub K (suc n)) × ℕ → Type 0
  Mended n i r = (pages_up (ψ (suc n)) r.0 ≡ i + r.1) × SomeUp (Fresh (suc n)) r.0

  evened : (n i j : ℕ) (p : Sub K (suc n)) (e : Entry K) (q : Sub K (suc n)) → pages_page (ψ n) p ≡ 1 + i → pages_page (ψ n) q ≡ 1 + j → EachUp (Fresh (suc n)) (even p e q) → Mended n (i + j) (even p e q, tops (even p e q))
  evened n i j p e q a b h = let r = even-pages (ψ n) p e q in let s = each_counts n (even p e q) h in (omega arith, each-some (Fresh (suc n)) (even p e q) h)

  pub mend-right : (n i : ℕ) (p : Sub K (suc n)) (e : Entry K) (q : Sub K (suc n)) → Changed n p i → FullPage (Full K n) 11 p → Held K o (suc n) q → Away (suc n) e → Mended n i (mend_page p e q)
  mend-right n i (page c xs) e (page d ys) h f k w =
      mended (Mended n i) (page c xs) e (page d ys)
      (λ l.
      let r = evened n i 0 (page c xs) e (page d ys) h.0 (held_one n 12 (page d ys) k.0 k.1) (even-right-new n c xs e d ys (omega (arith, f.0)) k.0.0 (marks.own n d ys k.1.0) w) in
      (omega (arith, r.0), r.1))
      (λ g l. absurd (omega (arith, k.0.0)))
      (λ g l. let a = new-counts cmp o home n (page c xs) h.1 in let b = held_none cmp o home (suc n) (page d ys) k in (omega (arith, h.0), inl h.1))

  pub mend-left : (n i : ℕ) (p : Sub K (suc n)) (e : Entry K) (q : Sub K (suc n)) → Held K o (suc n) p → Changed n q i → FullPage (Full K n) 11 q → Away (suc n) e → Mended n i (mend_page p e q)
  mend-left n i (page c xs) e (page d ys) k h f w =
      mended (Mended n i) (page c xs) e (page d ys)
      (λ l. absurd (omega (arith, k.0.0)))
      (λ g l.
      let r = evened n 0 i (page c xs) e (page d ys) (held_one n 12 (page c xs) k.0 k.1) h.0 (even-left-new n c xs e d ys k.0.0 (omega (arith, f.0)) (marks.own n c xs k.1.0) w) in
      (omega (arith, r.0), r.1))
      (λ g l. let a = new-counts cmp o home n (page d ys) h.1 in let b = held_none cmp o home (suc n) (page c xs) k in (omega (arith, h.0), inr h.1))
