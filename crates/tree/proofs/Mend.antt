-- Two neighbours mended: evened out where one is short of entries, otherwise as they are.
use Rattle.std.proofs.Common.{◌≡◌, ℕ, ◌<◌, ◌≤◌, Bool, true, false, cond, refl}
use Rattle.std.proofs.lemmas.Bool.{ltb-true, ltb-false}
use Rattle.tree.specs.Tree.{Entry, Page}
use Rattle.tree.specs.Insert.{Up, two, tops}
use Rattle.tree.specs.Delete.{size, lacks, even, mend_page}

-- what holds in each case holds of the two as mended
module _ {K S : Type 0} (P : Up K (Page K S) × ℕ → Type 0) (p : Page K S) (e : Entry K) (q : Page K S) where
  pub mended : (size p < 12 → P (even p e q, tops (even p e q))) → (12 ≤ size p → size q < 12 → P (even p e q, tops (even p e q))) → (12 ≤ size p → 12 ≤ size q → P (two p e q, 1)) → P (mend_page p e q)
  mended a b c = go (lacks p) (lacks q) refl refl
    where
      go : (s t : Bool) → lacks p ≡ s → lacks q ≡ t → P (cond {A = Up K (Page K S) × ℕ} s (even p e q, tops (even p e q)) (cond t (even p e q, tops (even p e q)) (two p e q, 1)))
      go true t i j = a (ltb-true (size p) 12 i)
      go false true i j = b (ltb-false (size p) 12 i) (ltb-true (size q) 12 j)
      go false false i j = c (ltb-false (size p) 12 i) (ltb-false (size q) 12 j)
