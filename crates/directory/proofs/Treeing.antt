-- Page editing is what the tree does to a page.
use Rattle.std.proofs.Common.{◌≡◌, ℕ, zero, suc, List, [], ◌∷◌, ◌++◌, length, take, drop, Option, sym, refl, ap, ◌∙◌, ap₂, arith}
use Rattle.std.proofs.lemmas.Bool.Decides.{nat_tests}
use Rattle.numbers.specs.Names.{Key}
use Rattle.numbers.specs.declared.sector.Sector.{Sector}
use Rattle.layout.specs.declared.entry.Entry.{Entry}
use Rattle.layout.specs.Pages.{PageData}
use Rattle.tree.specs.Tree as tree
use Rattle.tree.specs.Insert.{two, halves, cut}
use Rattle.tree.specs.Delete.{share}
use Rattle.directory.specs.declared.share.Neighbours.{Neighbours}
use Rattle.directory.specs.Lines.{over, line, Cut}
use Rattle.directory.specs.Trees.{pair, items, tree_page, TreeLaws}

abbrev Items : Type 0
Items = List (tree.Item Key (Option Sector))

items-length : (es : List Entry) → length (items es) ≡ length es
items-length [] = refl
items-length (e ∷ es) = ap suc (items-length es)

items-append : (es ds : List Entry) → items (es ++ ds) ≡ items es ++ items ds
items-append [] ds = refl
items-append (e ∷ es) ds = ap (λ (l : Items). tree.item (pair e) e.below ∷ l) (items-append es ds)

items-take : (m : ℕ) (es : List Entry) → items (take m es) ≡ take m (items es)
items-take zero es = refl
items-take (suc m) [] = refl
items-take (suc m) (e ∷ es) = ap (λ (l : Items). tree.item (pair e) e.below ∷ l) (items-take m es)

items-drop : (m : ℕ) (es : List Entry) → items (drop m es) ≡ drop m (items es)
items-drop zero es = refl
items-drop (suc m) [] = refl
items-drop (suc m) (e ∷ es) = items-drop m es

-- a cut of rows is the tree's cut
cut-is : (m : ℕ) (f : Option Sector) (all : List Entry) (n : Neighbours) → Cut m f all n → cut m f (items all) ≡ two (tree_page n.left) (pair n.middle) (tree_page n.right)
cut-is m f all n c =
    let front = sym (items-take m all) in
    let back = sym (items-drop m all) ∙ ap items (sym c.after) in
    ap₂ (λ (l r : Items). halves f l r) front back ∙ ap (λ (t : PageData). two (tree_page t) (pair n.middle) (tree_page n.right)) (sym c.before)

line-items : (n : Neighbours) → items (line n) ≡ items n.left.rows ++ (tree.item (pair n.middle) n.right.first ∷ items n.right.rows)
line-items n = items-append n.left.rows (over n.middle n.right.first ∷ n.right.rows)

pub tree_laws : TreeLaws
tree_laws = record {
  splits = λ p n long c.
      let l = items-length p.rows in
      let is = cut-is 12 p.first p.rows n c in
      grind (arith, nat_tests);
  evens = λ n n' long s.
      let l = items-length (line n) in
      let a = items-length n.left.rows in
      let b = items-length n.right.rows in
      let is = cut-is (share (length n.left.rows) (length n.right.rows)) n.left.first (line n) n' s.cut in
      rw (← line-items n, a, b) (grind (arith, nat_tests));
  joins = λ n few.
      let l = items-length (line n) in
      rw (← line-items n) (grind (arith, nat_tests));
}
