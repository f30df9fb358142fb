-- How many entries there are at least.
use Rattle.std.proofs.Common.{◌≡◌, ℕ, zero, suc, ◌*◌, ◌^◌, ◌<◌, ◌≤◌, ◌⊎◌, List, [], ◌∷◌, length, refl, ap, inl, inr, mul-le-mul_right, arith}
use Rattle.std.proofs.lemmas.List.{length-append}
use Rattle.std.proofs.lemmas.Bool.{le-leb, cases_lt}
use Rattle.numbers.specs.Order.{Cmp, IsOrder}
use Rattle.tree.specs.Tree.{Entry, Item, item, Page, page, Sub, flat_rest, flat_page, flat, Tree, All, Child, Full, FullPage, lowest}
use Rattle.tree.specs.Delete.{size}
use Rattle.tree.specs.Insert.{Up, one, two, fit, ins_in, ins, ins_page, grow}
use Rattle.tree.specs.Laws.{InsertLevels, InsertWithin, InsertRises}
use Rattle.tree.proofs.Fill.{Within, EachUp, within_wider, ins_in-full, ins-full, insert-keeps}

module _ {K : Type 0} (cmp : K → K → Cmp) (ord : IsOrder K cmp) where
  module _ {S : Type 0} (P : S → Type 0) (φ : S → List (Entry K)) (N : ℕ) (many : (c : S) → P c → N ≤ suc (length (φ c))) where
    rest-many : (xs : List (Item K S)) → All (Child P) xs → length xs * N ≤ length (flat_rest φ xs)
    rest-many [] a = omega arith
    rest-many (item e d ∷ xs) a =
        let h = many d a.0 in let i = rest-many xs a.1 in let j = length-append (φ d) (flat_rest φ xs) in omega arith

    pub page-many : (low : ℕ) (c : S) (xs : List (Item K S)) → FullPage P low (page c xs) → suc (length xs) * N ≤ suc (length (flat_page φ (page c xs)))
    page-many low c xs h =
        let i = many c h.2 in let j = rest-many xs h.3 in let k = length-append (φ c) (flat_rest φ xs) in omega arith

  pub sub-many : (n : ℕ) (t : Sub K n) → Full K n t → 13 ^ n ≤ suc (length (flat K n t))
  sub-many zero t h = omega arith
  sub-many (suc n) (page c xs) h =
      let i = page-many (Full K n) (flat K n) (13 ^ n) (λ d k. sub-many n d k) 12 c xs h in
      let j : 13 * 13 ^ n ≤ suc (length xs) * 13 ^ n = mul-le-mul_right (13 ^ n) (omega arith) in omega arith

  fit-one : {S : Type 0} (P : S → Type 0) (a : ℕ) (p : Page K S) → Within P a 24 p → fit p ≡ one p
  fit-one P a (page c xs) w = rw (le-leb (length xs) 24 w.1)

  -- a root with room does not split
  ins_page-one : {S : Type 0} (P : S → Type 0) (f : S → Up K S × ℕ) (x : Entry K) → ((c : S) → P c → EachUp P (f c).0) → (low : ℕ) (c : S) (xs : List (Item K S)) → FullPage P low (page c xs) → length xs < 24 →
      (ins_page cmp f x (page c xs)).0 ≡ one (ins_in cmp f x c xs).0
  ins_page-one P f x right low c xs h l =
      fit-one P (length xs) (ins_in cmp f x c xs).0 (within_wider P (ins_in cmp f x c xs).0 (length xs) (suc (length xs)) (length xs) 24 (omega arith) (omega arith) (ins_in-full cmp ord P f x right c xs h.2 h.3))

  grow-over : (n : ℕ) (u : Up K (Sub K (suc n))) (k : ℕ) → (grow n (u, k)).0.over ≤ suc n
  grow-over n (one p) k = omega arith
  grow-over n (two p e q) k = omega arith

  grow-stays : (n : ℕ) (u : Up K (Sub K (suc n))) (p : Sub K (suc n)) (k : ℕ) → u ≡ one p → (grow n (u, k)).0.over ≡ n
  grow-stays n u p k e = rw e

  stays : (n : ℕ) (x : Entry K) (p : Sub K (suc n)) → n < 4 → FullPage (Full K n) (lowest n) p → length (flat K (suc n) p) < 54924 → (grow n (ins cmp (suc n) x p)).0.over < 4
  stays n x (page c xs) l h s = go (cases_lt n 3) (cases_lt (length xs) 24)
    where
      u : Up K (Sub K (suc n)) × ℕ
      u = ins cmp (suc n) x (page c xs)

      go : (n < 3) ⊎ (3 ≤ n) → (length xs < 24) ⊎ (24 ≤ length xs) → (grow n u).0.over < 4
      go (inl a) b = let h = grow-over n u.0 u.1 in omega arith
      go (inr a) (inl b) = let e = grow-stays n u.0 (ins_in cmp (ins cmp n x) x c xs).0 u.1 (ins_page-one (Full K n) (ins cmp n x) x (ins-full cmp ord n x) (lowest n) c xs h b) in omega arith
      go (inr a) (inr b) =
          let e : n ≡ 3 = omega arith in
          let i : 13 ^ n ≡ 2197 = rw e refl in
          let m : suc (length xs) * 13 ^ n ≤ suc (length (flat K (suc n) (page c xs))) = page-many (Full K n) (flat K n) (13 ^ n) (sub-many n) (lowest n) c xs h in
          let j : 25 * 13 ^ n ≤ suc (length xs) * 13 ^ n = mul-le-mul_right (13 ^ n) (omega arith) in
          absurd (omega arith)

  pub insert-levels : InsertLevels cmp
  insert-levels t k v g s = insert-keeps cmp ord t k v g (stays t.over (k, v) t.root g.few g.filled s)

  pub insert-within : InsertWithin cmp
  insert-within t k v g s = insert-levels t k v g (omega arith)

  grow-rises : (n : ℕ) (u : Up K (Sub K (suc n))) (k : ℕ) → let r = (grow n (u, k)).0 in (r.over ≡ n) ⊎ ((r.over ≡ suc n) × (size r.root ≡ 1))
  grow-rises n (one p) k = inl refl
  grow-rises n (two p e q) k = inr (refl, refl)

  rises : (n : ℕ) (x : Entry K) (p : Sub K (suc n)) → FullPage (Full K n) (lowest n) p →
      let r = (grow n (ins cmp (suc n) x p)).0 in (suc r.over ≡ suc n) ⊎ ((suc r.over ≡ suc (suc n)) × (size p ≡ 24) × (size r.root ≡ 1))
  rises n x (page c xs) h = go (cases_lt (length xs) 24)
    where
      u : Up K (Sub K (suc n)) × ℕ
      u = ins cmp (suc n) x (page c xs)

      r : Tree K
      r = (grow n (ins cmp (suc n) x (page c xs))).0

      full : 24 ≤ length xs → (r.over ≡ n) ⊎ ((r.over ≡ suc n) × (size r.root ≡ 1)) → (suc r.over ≡ suc n) ⊎ ((suc r.over ≡ suc (suc n)) × (length xs ≡ 24) × (size r.root ≡ 1))
      full b (inl e) = inl (ap suc e)
      full b (inr e) = inr (ap suc e.0, omega (arith, h.1), e.1)

      go : (length xs < 24) ⊎ (24 ≤ length xs) → (suc r.over ≡ suc n) ⊎ ((suc r.over ≡ suc (suc n)) × (length xs ≡ 24) × (size r.root ≡ 1))
      go (inl b) = inl (ap suc (grow-stays n u.0 (ins_in cmp (ins cmp n x) x c xs).0 u.1 (ins_page-one (Full K n) (ins cmp n x) x (ins-full cmp ord n x) (lowest n) c xs h b)))
      go (inr b) = full b (grow-rises n u.0 u.1)

  pub insert-rises : InsertRises cmp
  insert-rises t k v g = rises t.over (k, v) t.root g.filled
