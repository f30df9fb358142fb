-- A new tree of no more levels in the place of an old one: what stands where then, and what is set free.
use Rattle.std.proofs.Common.{◌≡◌, ℕ, suc, ◌≤◌, Bool, true, sym, ap, ◌∙◌, subst, arith, refl}
use Rattle.numbers.specs.Order.{Cmp, IsOrder}
use Rattle.tree.specs.Tree.{Page, Sub, Tree}
use Rattle.tree.specs.Delete.{delete}
use Rattle.tree.specs.Fresh.{IsSame, has, sum_children, unmarked, changed}
use Rattle.tree.specs.Stored.{Shown, load, loaded, write, Each, Sectors, Off, first_page, where_is, has_below, lay_page, lay, replaced, Ready, SomeKid, Stands, UnderRoot, Frees, Replaced, ReplaceStores, DeleteStores, ReplaceFrees, DeleteFrees}
use Rattle.tree.proofs.Changes.{delete-changes}
use Rattle.tree.proofs.Drain.{delete-over}
use Rattle.tree.proofs.Stored.{page-frames, load-stays, write_same, write-other, off-more}
use Rattle.tree.proofs.Laid.{PageLaid, page-laid, laid}
use Rattle.tree.proofs.Shared.{below_none, changed-below}
use Rattle.tree.proofs.Places.{kid-map, kid-elim}
use Rattle.tree.proofs.Stay.{stands-trans}
use Rattle.tree.proofs.Freed.{Known, From, from-page, page-from, lay-from, root-place, old-off, frees}

module _ (K : Type 0) (eq : K → K → Bool) (is : IsSame K eq) (free : ℕ → ℕ) (d : Shown K) (n r : ℕ) (u : Tree K) (l : u.over ≤ n) (ready : Ready free d n r (changed eq (loaded d n r) u)) where
  -- the free sectors taken
  abbrev m : ℕ
  m = changed eq (loaded d n r) u

  -- the old pages, and their places
  abbrev o : (j : ℕ) → Sub K j → Bool
  o = has_below eq (loaded d n r)

  abbrev place : (j : ℕ) → Sub K j → ℕ
  place j s = first_page eq d (λ b. has eq n (load d n b) j s) (λ b. where_is eq d n b j s) (d r)

  abbrev Old : ℕ → ℕ → Type 0
  Old j x = UnderRoot d n r j x

  marked : (j : ℕ) (s : Sub K (suc j)) → o (suc j) s ≡ true → (load d (suc j) (place (suc j) s) ≡ s) × Sectors (Off free r m 0) d (suc j) (place (suc j) s) × (unmarked K o (suc j) s ≡ 0)
  marked j s e =
      let t = root-place eq is d n r (suc j) s e in
      (t.1, old-off (Off free r m 0) d n r ready.off (suc j) (place (suc j) s) t.0, below_none eq is (loaded d n r) j s e)

  placed : (j : ℕ) (s : Sub K (suc j)) → o (suc j) s ≡ true → (i x : ℕ) → Stands d (suc j) (place (suc j) s) i x → Old i x
  placed j s e i x t = kid-map (λ b. Stands d n b (suc j) (place (suc j) s)) (λ b. Stands d n b i x) (λ b v. stands-trans d (suc j) (place (suc j) s) i x t n b v) (d r) (root-place eq is d n r (suc j) s e).0

  -- the new root's page, before it is written
  abbrev w : Page K ℕ × Shown K × ℕ
  w = lay_page (lay free o place u.over) u.root d 0

  c : m ≡ sum_children (unmarked K o u.over) u.root
  c = changed-below eq is (loaded d n r) u l

  p : PageLaid K free r m ready.distinct ready.apart o place d marked u.over u.root d 0 w
  p = page-laid K free r m ready.distinct ready.apart o place d marked u.over (laid K free r m ready.distinct ready.apart o place d marked u.over) u.root d 0 (λ b h. refl) (omega (arith, c))

  keep : (b : ℕ) → Off free r m w.2 b → write w.1 r w.0 b ≡ w.1 b
  keep b h = write-other w.1 r b w.0 h.1

  pub replace-stored : Replaced eq free d n r u
  replace-stored = record { tree = ap (λ (z : Sub K (suc u.over)). record { over = u.over; root = z }) t; taken = taken; kept = λ b h. keep b (off-more K free r m ready.distinct ready.apart 0 w.2 (omega arith) b h) ∙ p.2 b h }
    where
      taken : w.2 ≡ m
      taken = let y = p.1 in omega (arith, c)

      t : load (write w.1 r w.0) (suc u.over) r ≡ u.root
      t = rw (write_same w.1 r w.0)
          (page-frames (load w.1 u.over) (load (write w.1 r w.0) u.over) (Sectors (Off free r m w.2) w.1 u.over)
          (load-stays w.1 (write w.1 r w.0) (Off free r m w.2) (Off free r m w.2) (λ b h. h) keep u.over) w.0 p.3 ∙ p.0)

  pub replace-known : let d' = (replaced eq free d n r u).0 in (j x : ℕ) → UnderRoot d' u.over r j x → Known free m o Old d' j x
  replace-known j x t =
      let d' : Shown K = write w.1 r w.0 in
      let f : Each (From free m o Old w.1 u.over) w.0 = page-from K free r m ready.distinct ready.apart o place d marked Old placed u.over
      (lay-from K free r m ready.distinct ready.apart o place d marked Old placed u.over) u.root d 0 (λ b h. refl) (omega (arith, c)) in
      kid-elim (From free m o Old d' u.over) (λ c. Stands d' u.over c j x) (Known free m o Old d' j x) (λ c i v. i j x v) w.0
      (from-page free m o Old w.1 d' (Off free r m w.2) keep u.over w.0 p.3 f)
      (subst (λ (z : Page K ℕ). SomeKid (λ c. Stands d' u.over c j x) z) (write_same w.1 r w.0) t)

pub replace-stores : (K : Type 0) → ReplaceStores K
replace-stores K = replace-stored K

pub delete-stores : {K : Type 0} (cmp : K → K → Cmp) → IsOrder K cmp → DeleteStores cmp
delete-stores {K} cmp ord eq is free d n r k g ready =
    replace-stores K eq is free d n r (delete cmp (loaded d n r) k).0 (delete-over cmp ord (loaded d n r) k) (subst (λ (z : ℕ). Ready free d n r z) (sym (delete-changes cmp ord eq is (loaded d n r) k g)) ready)

pub replace-frees : {K : Type 0} (cmp : K → K → Cmp) → IsOrder K cmp → ReplaceFrees cmp
replace-frees {K} cmp ord eq is free d n r u l good ready =
    let st = replace-stores K eq is free d n r u l ready in
    frees cmp ord eq is free d n r (replaced eq free d n r u).0 u (changed eq (loaded d n r) u) good ready.off st.tree st.kept (replace-known K eq is free d n r u l ready)

pub delete-frees : {K : Type 0} (cmp : K → K → Cmp) → IsOrder K cmp → DeleteFrees cmp
delete-frees {K} cmp ord eq is free d n r k g ready =
    let e : changed eq (loaded d n r) (delete cmp (loaded d n r) k).0 ≡ (delete cmp (loaded d n r) k).1 = delete-changes cmp ord eq is (loaded d n r) k g in
    subst (λ (z : ℕ). Frees eq free d n r (replaced eq free d n r (delete cmp (loaded d n r) k).0).0 (delete cmp (loaded d n r) k).0 z) e
    (replace-frees cmp ord eq is free d n r (delete cmp (loaded d n r) k).0 (delete-over cmp ord (loaded d n r) k) g (subst (λ (z : ℕ). Ready free d n r z) (sym e) ready))
