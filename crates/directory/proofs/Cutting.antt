-- What holds of lines that are cut in two.
use Rattle.std.proofs.Common.{◌≡◌, ℕ, ◌+◌, ◌-◌, ◌<◌, ◌≤◌, ltb, List, ◌∷◌, ◌++◌, length, take, Option, sym, refl, ap, ◌∙◌, ap₂, arith, length-drop, length-take}
use Rattle.std.proofs.lemmas.Bool.Decides.{nat_tests}
use Rattle.std.proofs.lemmas.List.{length-append, take-append-drop}
use Rattle.numbers.specs.declared.sector.Sector.{Sector}
use Rattle.layout.specs.declared.entry.Entry.{Entry}
use Rattle.layout.specs.Pages.{PageData}
use Rattle.directory.specs.declared.share.Neighbours.{Neighbours}
use Rattle.directory.specs.Lines.{over, line, Cut, Shared, uneven, lent, share, LineLaws}

long-line : (n : Neighbours) → length (line n) ≡ length n.left.rows + length n.right.rows + 1
long-line n = length-append n.left.rows (over n.middle n.right.first ∷ n.right.rows) ∙ omega arith

module _ (m : ℕ) (f : Option Sector) (all : List Entry) (n : Neighbours) (c : Cut m f all n) where
  rows : n.left.rows ≡ take m all
  rows = ap (λ (x : PageData). x.rows) c.before

  whole : line n ≡ all
  whole = ap₂ ◌++◌ rows c.after ∙ take-append-drop m all

  sizes : (length n.left.rows ≡ m) × (m + 1 + length n.right.rows ≡ length all)
  sizes = let l = ap length rows in let r = ap length c.after in grind (arith, length-take, length-drop)

only : (m : ℕ) (f : Option Sector) (all : List Entry) (n n' : Neighbours) → Cut m f all n → Cut m f all n' → (n.left ≡ n'.left) × (n.middle.name ≡ n'.middle.name) × (n.middle.file ≡ n'.middle.file) × (n.right ≡ n'.right)
only m f all n n' c d =
    let h : over n.middle n.right.first ∷ n.right.rows ≡ over n'.middle n'.right.first ∷ n'.right.rows = c.after ∙ sym d.after in
    let a : over n.middle n.right.first ≡ over n'.middle n'.right.first = cc in
    let b : n.right.rows ≡ n'.right.rows = cc in
    (c.before ∙ sym d.before, ap (λ (x : Entry). x.name) a, ap (λ (x : Entry). x.file) a, λ j. record { first = (a j).below; rows = b j })

module _ (n n' : Neighbours) (s : Shared (share (length n.left.rows) (length n.right.rows)) n n') where
  counts : (length n'.left.rows ≡ share (length n.left.rows) (length n.right.rows)) × (length n'.left.rows + length n'.right.rows ≡ length n.left.rows + length n.right.rows)
  counts =
      let k = sizes (share (length n.left.rows) (length n.right.rows)) n.left.first (line n) n' s.cut in
      let l = long-line n in
      (k.0, omega (arith, k.0, k.1))

  from_right : length n.left.rows ≡ 11 → 12 < length n.right.rows → (length n'.left.rows ≡ 11 + lent (length n.right.rows)) × (length n'.right.rows ≡ length n.right.rows - lent (length n.right.rows))
  from_right a b = let k = counts in grind (arith, nat_tests)

  from_left : 12 < length n.left.rows → length n.right.rows ≡ 11 → (length n'.left.rows ≡ length n.left.rows - lent (length n.left.rows)) × (length n'.right.rows ≡ 11 + lent (length n.left.rows))
  from_left a b = let k = counts in grind (arith, nat_tests)

module _ (n : Neighbours) where
  on_right : length n.left.rows ≡ 11 → 12 ≤ length n.right.rows → uneven n ≡ ltb 24 (length (line n))
  on_right h l = let k = long-line n in grind (arith, nat_tests)

  on_left : 12 ≤ length n.left.rows → length n.right.rows ≡ 11 → uneven n ≡ ltb 24 (length (line n))
  on_left l h = let k = long-line n in grind (arith, nat_tests)

pub line-laws : LineLaws
line-laws =
    record {
      whole = whole;
      sizes = sizes;
      only = only;
      from_right = λ n n' a b s. from_right n n' s a b;
      from_left = λ n n' a b s. from_left n n' s a b;
      of13 = (refl, refl);
      of24 = (refl, refl);
      together = λ n h. long-line n ∙ omega arith;
      on_right = on_right;
      on_left = on_left;
    }
