-- The sectors met are the catalog's; with the free ones they are all, each in one list.
use Rattle.std.proofs.Common.{◌≡◌, ℕ, zero, suc, ◌+◌, ◌-◌, ◌<◌, ◌≤◌, Bool, true, false, cond, eqb, ◌⊎◌, List, [], ◌∷◌, ◌++◌, length, length-append, sym, refl, ap, ◌∙◌, subst, inl, inr, arith}
use Rattle.std.proofs.lemmas.Bool.{eqb-true, eq-eqb, ne_eqb, cases_lt, cases_eq}
use Rattle.disk.specs.Meaning.{In}
use Rattle.catalog.specs.Catalogs.{Catalog, Distinct, page_sectors, file_sectors, free_sectors, member, outside, range}
use Rattle.catalog.specs.Questions.{leaf_level}
use Rattle.catalog.specs.Laws.{MetSectors, Divides}
use Rattle.catalog.proofs.Counts.{tick, occ, occ-append, member-false, member-true, in-occ, occ-in, distinct-occ, occ-distinct, range-none, range_more, sum-one, occ-length, same-counts}
use Rattle.catalog.proofs.Found.{catalog_at, catalog-is, all-occ, sectors-once, sectors-within, size-two, passed}

pub met-sectors : MetSectors
met-sectors size shown s e =
    let n = leaf_level size shown - 1 in
    let p = passed size shown s e in
    let c = catalog_at size shown n in
    let all = page_sectors c ++ file_sectors c in
    let two = size-two size shown p.fits in
    let sure = p.pages.2 in
    let free = p.can.free in
    let same = same-counts s.met all size (λ k. let a = p.after.met k in let b = all-occ size shown n k sure in omega arith)
    (λ k. sectors-once size shown n two sure free k (all-occ size shown n k sure)) (λ k i. (sectors-within size shown n two sure free k i).1) in
    let sum = length-append (page_sectors c) (file_sectors c) in
    let P : Catalog → Type 0 = λ c. ((k : ℕ) → (In k s.met → In k (page_sectors c ++ file_sectors c)) × (In k (page_sectors c ++ file_sectors c) → In k s.met)) × (length s.met ≡ length (page_sectors c) + length (file_sectors c)) in
    let r = subst P (sym (catalog-is size shown)) (same.same, same.count ∙ sum) in
    record { same = r.0; once = same.once; count = r.1 }

-- DIVIDED
occ-outside : (n : ℕ) (us xs : List ℕ) → occ n (outside us xs) ≡ cond (member n us) 0 (occ n xs)
occ-outside n us [] = none (member n us)
  where
    none : (b : Bool) → ◌≡◌ {A = ℕ} 0 (cond b 0 0)
    none true = refl
    none false = refl
occ-outside n us (x ∷ xs) = go (eqb n x) refl (member x us) refl (member n us) refl (occ-outside n us xs)
  where
    go : (d : Bool) → eqb n x ≡ d → (b : Bool) → member x us ≡ b → (m : Bool) → member n us ≡ m → occ n (outside us xs) ≡ cond m 0 (occ n xs) →
        occ n (cond b (outside us xs) (x ∷ outside us xs)) ≡ cond m 0 (cond d 1 0 + occ n xs)
    go true q true e true f r = omega arith
    go true q true e false f r = let g = ap (λ (z : ℕ). member z us) (eqb-true n x q) in cc
    go true q false e true f r = let g = ap (λ (z : ℕ). member z us) (eqb-true n x q) in cc
    go true q false e false f r = rw q (omega arith)
    go false q true e true f r = omega arith
    go false q true e false f r = omega arith
    go false q false e true f r = rw q (omega arith)
    go false q false e false f r = rw q (omega arith)

range-out : (n low m : ℕ) → (n < low) ⊎ (low + m ≤ n) → occ n (range low m) ≡ 0
range-out n low zero h = ap (occ n) (range-none low)
range-out n low (suc m) h = ap (occ n) (range_more low m) ∙ go h (λ k. range-out n (suc low) m k)
  where
    go : (n < low) ⊎ (low + suc m ≤ n) → ((n < suc low) ⊎ (suc low + m ≤ n) → occ n (range (suc low) m) ≡ 0) → tick n low + occ n (range (suc low) m) ≡ 0
    go (inl l) f = let r = f (inl (omega arith)) in rw (ne_eqb n low (omega arith)) (omega arith)
    go (inr l) f = let r = f (inr (omega arith)) in rw (ne_eqb n low (omega arith)) (omega arith)

range-in : (n low m : ℕ) → low ≤ n → n < low + m → occ n (range low m) ≡ 1
range-in n low zero l u = absurd (omega arith)
range-in n low (suc m) l u = ap (occ n) (range_more low m) ∙ go (cases_eq n low) (λ a b. range-in n (suc low) m a b)
  where
    go : (n ≡ low) ⊎ (n ≡ low → ⊥) → (suc low ≤ n → n < suc low + m → occ n (range (suc low) m) ≡ 1) → tick n low + occ n (range (suc low) m) ≡ 1
    go (inl e) f = let r = range-out n (suc low) m (inl (omega arith)) in rw (eq-eqb n low e) (omega arith)
    go (inr e) f = let r = f (omega arith) (omega arith) in rw (ne_eqb n low e) (omega arith)

-- used sectors from 1 up, each once, and the others below size
module _ (us : List ℕ) (size : ℕ) (some : 1 ≤ size) (once : Distinct us) (within : (s : ℕ) → In s us → (1 ≤ s) × (s < size)) where
  abbrev free : List ℕ
  free = outside us (range 1 (size - 1))

  on-one : (s : ℕ) → 1 ≤ s → s < size → occ s us + occ s free ≡ 1
  on-one s l u = go (member s us) refl (occ-outside s us (range 1 (size - 1)))
    where
      go : (b : Bool) → member s us ≡ b → occ s free ≡ cond b 0 (occ s (range 1 (size - 1))) → occ s us + occ s free ≡ 1
      go true e f = let a = member-true s us e in let b = distinct-occ us once s in omega arith
      go false e f = let a = member-false s us e in let b = range-in s 1 (size - 1) l (omega arith) in omega arith

  off-none : (s : ℕ) → (s < 1) ⊎ (size ≤ s) → occ s us + occ s free ≡ 0
  off-none s h = go (member s us) refl (occ-outside s us (range 1 (size - 1))) h
    where
      go : (b : Bool) → member s us ≡ b → occ s free ≡ cond b 0 (occ s (range 1 (size - 1))) → (s < 1) ⊎ (size ≤ s) → occ s us + occ s free ≡ 0
      go true e f (inl l) = let a = (within s (occ-in s us (member-true s us e))).0 in absurd (omega arith)
      go true e f (inr l) = let a = (within s (occ-in s us (member-true s us e))).1 in absurd (omega arith)
      go false e f (inl l) = let a = member-false s us e in let b = range-out s 1 (size - 1) (inl l) in omega arith
      go false e f (inr l) = let a = member-false s us e in let b = range-out s 1 (size - 1) (inr (omega arith)) in omega arith

  at-most : (s : ℕ) → (1 ≤ occ s us + occ s free → (1 ≤ s) × (s < size)) × (occ s us + occ s free ≤ 1)
  at-most s = go (cases_lt 0 s) (cases_lt s size)
    where
      go : (0 < s) ⊎ (s ≤ 0) → (s < size) ⊎ (size ≤ s) → (1 ≤ occ s us + occ s free → (1 ≤ s) × (s < size)) × (occ s us + occ s free ≤ 1)
      go (inl l) (inl u) = (λ h. (l, u), let a = on-one s l u in omega arith)
      go (inl l) (inr u) = let a = off-none s (inr u) in (λ h. absurd (omega arith), omega arith)
      go (inr l) u = let a = off-none s (inl (omega arith)) in (λ h. absurd (omega arith), omega arith)

  total : length us + length free ≡ size - 1
  total =
      let all = us ++ free in
      let a = occ-length all 1 (size - 1) (λ n i. let w = (at-most n).0 (subst (λ (z : ℕ). 1 ≤ z) (occ-append n us free) (in-occ n all i)) in (omega arith, omega arith)) in
      let b = sum-one (λ n. occ n all) 1 (size - 1) (λ n l u. occ-append n us free ∙ on-one n l (omega arith)) in
      let d = length-append us free in
      omega arith

pub divides : Divides
divides size shown c h =
    let ps = page_sectors c in
    let fs = file_sectors c in
    let us = ps ++ fs in
    let fr = free_sectors size c in
    let some : 1 ≤ size = let w = (h.within c.root.0 (inl refl)).1 in omega arith in
    let three : (s : ℕ) → occ s (ps ++ (fs ++ fr)) ≡ occ s us + occ s fr = λ s. let a = occ-append s ps (fs ++ fr) in let b = occ-append s fs fr in let d = occ-append s ps fs in omega arith in
    let most = at-most us size some h.once h.within in
    let t = total us size some h.once h.within in
    let l = length-append ps fs in
    record {
      one = λ s l u. occ-in s (ps ++ (fs ++ fr)) (let a = on-one us size some h.once h.within s l u in let b = three s in omega arith);
      only = occ-distinct (ps ++ (fs ++ fr)) (λ s. let a = (most s).1 in let b = three s in omega arith);
      inside = λ s i. (most s).0 (subst (λ (z : ℕ). 1 ≤ z) (three s) (in-occ s (ps ++ (fs ++ fr)) i));
      sum = omega arith;
    }
