-- How many sectors are set free.
use Rattle.std.proofs.Common.{◌≡◌, ℕ, suc, ◌+◌, Bool, true, sym, ap, ◌∙◌, subst, inl, inr, arith}
use Rattle.std.proofs.lemmas.Bool.{or_right}
use Rattle.numbers.specs.Order.{Cmp, IsOrder}
use Rattle.tree.specs.Tree.{Sub, Tree, pages, Good}
use Rattle.tree.specs.Insert.{insert}
use Rattle.tree.specs.Delete.{delete}
use Rattle.tree.specs.Fresh.{has, same_sub, sum_children, unmarked, changed}
use Rattle.tree.specs.Stored.{Shown, load, loaded, Each, Sectors, Off, has_below, replaced, insert_stored, Ready, UnderRoot, spots_page, spots, within, set_free, ReplaceBalances, DeleteBalances, InsertBalances}
use Rattle.tree.proofs.Changes.{insert-changes, delete-changes}
use Rattle.tree.proofs.Drain.{delete-over, delete-keeps}
use Rattle.tree.proofs.Fill.{insert-keeps}
use Rattle.tree.proofs.Shared.{changed-below}
use Rattle.tree.proofs.Replaced.{replace-stores, replace-known}
use Rattle.tree.proofs.Places.{spot-under, under-spot, good-apart}
use Rattle.tree.proofs.Freed.{Known, root-has, off_at, old-load}
use Rattle.tree.proofs.Inserted.{insert-stores, insert-known}
use Rattle.tree.proofs.Balance.{mem-within, none_within, union, root-missing, root-length}

module _ {K : Type 0} (cmp : K → K → Cmp) (ord : IsOrder K cmp) (free : ℕ → ℕ) (d : Shown K) (n r : ℕ) (d' : Shown K) (n' m : ℕ) (good : Good cmp (loaded d n r)) (good' : Good cmp (loaded d' n' r))
    (off : Each (Sectors (Off free r m 0) d n) (d r)) (kept : (b : ℕ) → Off free r m 0 b → d' b ≡ d b) (o : (n : ℕ) → Sub K n → Bool) (old : (j a : ℕ) → UnderRoot d n r j a → o j (load d j a) ≡ true)
    (from : (j x : ℕ) → UnderRoot d' n' r j x → Known free m o (λ j x. UnderRoot d n r j x) d' j x) (total : sum_children (unmarked K o n') (load d' (suc n') r) ≡ m) where
  agree : (j x : ℕ) → UnderRoot d' n' r j x → within x (spots_page (spots d n) (d r)) ≡ o j (load d' j x)
  agree j x t = go (from j x t)
    where
      go : Known free m o (λ j x. UnderRoot d n r j x) d' j x → within x (spots_page (spots d n) (d r)) ≡ o j (load d' j x)
      go (inl k) = mem-within x (spots_page (spots d n) (d r)) (under-spot d x n r j k) ∙ sym (ap (o j) (old-load (Off free r m 0) d n r off d' kept j x k) ∙ old j x k)
      go (inr (i, l, e, f)) = none_within x (spots_page (spots d n) (d r)) (λ s. let u = spot-under d x n r s in (off_at (Off free r m 0) d n r off u.0 x u.1).0 i (omega arith) l e) ∙ sym f

  balances : pages (loaded d n r) + m ≡ pages (loaded d' n' r) + set_free d n r d' n'
  balances =
      let a = root-missing o (spots_page (spots d n) (d r)) d' n' r agree ∙ total in
      let b = union (spots_page (spots d n) (d r)) (spots_page (spots d' n') (d' r)) (good-apart cmp ord d n r good) (good-apart cmp ord d' n' r good') in
      let c = root-length d n r in
      let e = root-length d' n' r in
      omega arith

pub replace-balances : {K : Type 0} (cmp : K → K → Cmp) → IsOrder K cmp → ReplaceBalances cmp
replace-balances {K} cmp ord eq is free d n r u l good good' ready =
    let m = changed eq (loaded d n r) u in
    let d' = (replaced eq free d n r u).0 in
    let o = has_below eq (loaded d n r) in
    let st = replace-stores K eq is free d n r u l ready in
    let b = balances cmp ord free d n r d' u.over m good (subst (λ (z : Tree K). Good cmp z) (sym st.tree) good') ready.off st.kept o (λ j a s. root-has eq is d n r j a s) (replace-known K eq is free d n r u l ready)
    (ap (λ (z : Tree K). sum_children (unmarked K (has_below eq (loaded d n r)) z.over) z.root) st.tree ∙ sym (changed-below eq is (loaded d n r) u l)) in
    b ∙ ap (λ (z : Tree K). pages z + set_free d n r (replaced eq free d n r u).0 u.over) st.tree

pub delete-balances : {K : Type 0} (cmp : K → K → Cmp) → IsOrder K cmp → DeleteBalances cmp
delete-balances {K} cmp ord eq is free d n r k g ready =
    let e : changed eq (loaded d n r) (delete cmp (loaded d n r) k).0 ≡ (delete cmp (loaded d n r) k).1 = delete-changes cmp ord eq is (loaded d n r) k g in
    let b = replace-balances cmp ord eq is free d n r (delete cmp (loaded d n r) k).0 (delete-over cmp ord (loaded d n r) k) g (delete-keeps cmp ord (loaded d n r) k g) (subst (λ (z : ℕ). Ready free d n r z) (sym e) ready) in
    ap (λ (z : ℕ). pages (loaded d n r) + z) (sym e) ∙ b

pub insert-balances : {K : Type 0} (cmp : K → K → Cmp) → IsOrder K cmp → InsertBalances cmp
insert-balances {K} cmp ord eq is free d n r k v good lk few ready =
    let m = (insert cmp (loaded d n r) k v).1 in
    let s = insert_stored cmp free d n r (k, v) in
    let st = insert-stores cmp free d n r k v ready in
    let b = balances cmp ord free d n r s.1 s.0 m good (subst (λ (z : Tree K). Good cmp z) (sym st.tree) (insert-keeps cmp ord (loaded d n r) k v good few)) ready.off st.kept
    (λ j t. has eq (suc n) (load d (suc n) r) j t) (λ j a t. or_right (same_sub eq (suc n) j (load d (suc n) r) (load d j a)) (has_below eq (loaded d n r) j (load d j a)) (root-has eq is d n r j a t)) (insert-known K cmp free d n r k v ready ord eq is good lk)
    (ap (λ (z : Tree K). changed eq (loaded d n r) z) st.tree ∙ insert-changes cmp ord eq is (loaded d n r) k v good lk) in
    b ∙ ap (λ (z : Tree K). pages z + set_free d n r (insert_stored cmp free d n r (k, v)).1 z.over) st.tree
