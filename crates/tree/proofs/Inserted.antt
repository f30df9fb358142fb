-- An insert in a stored tree: what stands where then, and what is set free.
use Rattle.std.proofs.Common.{◌≡◌, ℕ, suc, ◌+◌, ◌≤◌, Bool, sym, ◌∙◌, refl, subst, inl, arith}
use Rattle.numbers.specs.Order.{Cmp, IsOrder}
use Rattle.tree.specs.Tree.{Entry, Page, Sub, Tree, at, lookup, lowest, Good}
use Rattle.tree.specs.Insert.{Up, tops, fit, grow, ins_page, ins, insert}
use Rattle.tree.specs.Fresh.{IsSame, has}
use Rattle.tree.specs.Stored.{Shown, map_page, map_up, load, loaded, Each, Sectors, Off, store_root, way, around, ins_stored, insert_stored, Ready, Inserted, InsertStores, UnderRoot, Frees, InsertFrees}
use Rattle.tree.proofs.Fill.{EachUp}
use Rattle.tree.proofs.Marks.{Marks, Home}
use Rattle.tree.proofs.Homes.{home}
use Rattle.tree.proofs.Old.{has-marked, has-marks}
use Rattle.tree.proofs.InsertCount.{SplitNew, root-fresh}
use Rattle.tree.proofs.Stored.{fit-each, fit-map, page-out, ins-out, Rooted, root-out, grow-bound, off-more}
use Rattle.tree.proofs.Freed.{Known, From, frees}
use Rattle.tree.proofs.FreedInsert.{Before, before-each, kids-each, page-from, ins-from, root-from, known-below}

module _ (K : Type 0) (cmp : K → K → Cmp) (free : ℕ → ℕ) (d : Shown K) (n r : ℕ) (k : K) (v : ℕ) (ready : Ready free d n r (insert cmp (loaded d n r) k v).1) where
  abbrev x : Entry K
  x = (k, v)

  -- the new root's page, or two of them, and the pages changed below
  abbrev u : Up K (Sub K (suc n)) × ℕ
  u = ins_page cmp (ins cmp n x) x (map_page (load d n) (d r))

  -- the free sectors taken
  abbrev m : ℕ
  m = (grow n (ins_page cmp (ins cmp n x) x (map_page (load d n) (d r)))).1

  -- the new root's page, before it is written
  abbrev w : Page K ℕ × Shown K × ℕ
  w = around (ins_stored cmp free n x d 0) d 0 (way cmp x (d r))

  l : u.1 ≤ m + tops u.0
  l = grow-bound n u.0 u.1

  p : (fit (map_page (load w.1 n) w.0) ≡ u.0) × (w.2 + tops (fit w.0) ≡ 0 + u.1) × ((b : ℕ) → Off free r m 0 b → w.1 b ≡ d b) × Each (Sectors (Off free r m w.2) w.1 n) w.0 × (0 ≤ w.2)
  p = page-out K free r m ready.distinct ready.apart cmp n x d 0 (λ a i s. ins-out K free r m ready.distinct ready.apart cmp n x d 0 a i s) (d r) (omega (arith, l)) ready.off

  same' : map_up (map_page (load w.1 n)) (fit w.0) ≡ u.0
  same' = sym (fit-map (load w.1 n) w.0) ∙ p.0

  within : (grow n (map_up (map_page (load w.1 n)) (fit w.0), u.1)).1 ≤ m
  within = subst (λ (z : Up K (Page K (Sub K n))). (grow n (z, u.1)).1 ≤ m) (sym same') (omega arith)

  sectors : EachUp (Each (Sectors (Off free r m w.2) w.1 n)) (fit w.0)
  sectors = fit-each (Sectors (Off free r m w.2) w.1 n) w.0 p.3

  pub insert-stored : Inserted cmp free d n r k v
  insert-stored = record { tree = out.0; taken = out.1; kept = λ b o. out.2 b (off-more K free r m ready.distinct ready.apart 0 w.2 (omega arith) b o) ∙ p.2 b o }
    where
      out : Rooted K free r m ready.distinct ready.apart cmp n w.1 w.2 u.0 (store_root free w.1 w.2 r n (fit w.0)) u.1
      out =
          let y = p.1 in
          subst (λ (z : Up K (Page K (Sub K n))). Rooted K free r m ready.distinct ready.apart cmp n w.1 w.2 z (store_root free w.1 w.2 r n (fit w.0)) u.1) same'
          (root-out K free r m ready.distinct ready.apart cmp n w.1 w.2 (fit w.0) u.1 (omega arith) within sectors)

  module _ (ord : IsOrder K cmp) (eq : K → K → Bool) (is : IsSame K eq) (good : Good cmp (loaded d n r)) (lk : lookup cmp (loaded d n r) k ≡ at v → ⊥) where
    -- the old pages, and the homes of their names
    abbrev o : (j : ℕ) → Sub K j → Bool
    o j t = has eq (suc n) (load d (suc n) r) j t

    abbrev h : K → Home
    h k = home cmp (suc n) k (load d (suc n) r)

    abbrev Old : ℕ → ℕ → Type 0
    Old j y = UnderRoot d n r j y

    marks : Marks cmp o h
    marks = has-marks eq is cmp ord (suc n) (load d (suc n) r) good.rises

    b : Each (Before K free r m ready.distinct ready.apart cmp o h marks Old n d 0) (d r)
    b = before-each K free r m ready.distinct ready.apart cmp o h marks Old n (lowest n) d 0 (d r) ready.off (kids-each d n (Known free m o Old d) (d r) (λ j y t. inl t)) good.filled (has-marked eq is (suc n) (load d (suc n) r))

    pf : Each (From free m o Old w.1 n) w.0
    pf = page-from K free r m ready.distinct ready.apart cmp o h marks Old n x d 0 (λ a i s q. ins-from K free r m ready.distinct ready.apart cmp o h marks Old n x d 0 a i s q) (d r) (omega (arith, l)) b lk

    pub insert-known : let s = insert_stored cmp free d n r x in (j y : ℕ) → UnderRoot s.1 s.0 r j y → Known free m o Old s.1 j y
    insert-known =
        let y = p.1 in
        root-from K free r m ready.distinct ready.apart cmp o h marks Old n w.1 w.2 (fit w.0) u.1 (omega arith) within sectors (fit-each (From free m o Old w.1 n) w.0 pf)
        (subst (λ (z : Up K (Sub K (suc n))). SplitNew cmp o h marks (suc n) z) (sym same') (root-fresh cmp o h marks n (lowest n) x (load d (suc n) r) good.filled (has-marked eq is (suc n) (load d (suc n) r)) lk))

pub insert-stores : {K : Type 0} (cmp : K → K → Cmp) → InsertStores cmp
insert-stores {K} cmp = insert-stored K cmp

pub insert-frees : {K : Type 0} (cmp : K → K → Cmp) → IsOrder K cmp → InsertFrees cmp
insert-frees {K} cmp ord eq is free d n r k v good lk ready =
    let s = insert_stored cmp free d n r (k, v) in
    let m = (insert cmp (loaded d n r) k v).1 in
    let st = insert-stores cmp free d n r k v ready in
    subst (λ (z : Tree K). Frees eq free d n r s.1 z m) st.tree
    (frees cmp ord eq is free d n r s.1 (loaded s.1 s.0 r) m good ready.off refl st.kept
    (λ j y t. known-below eq (loaded d n r) free m (λ j y. UnderRoot d n r j y) s.1 j y (insert-known K cmp free d n r k v ready ord eq is good lk j y t)))
