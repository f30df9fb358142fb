-- Pages as the tree has them: what page editing does is what the tree's insert and delete do to a page.
use Rattle.std.specs.Prelude.{◌≡◌, ◌<◌, ◌≤◌, List, [], ◌∷◌, length, Option}
use Rattle.numbers.specs.Names.{Key}
use Rattle.numbers.specs.declared.sector.Sector.{Sector}
use Rattle.layout.specs.declared.entry.Entry.{Entry}
use Rattle.layout.specs.Entries.{least_entries, most_entries}
use Rattle.layout.specs.Pages.{PageData}
use Rattle.tree.specs.Tree as tree
use Rattle.tree.specs.Insert.{one, two, fit}
use Rattle.tree.specs.Delete.{even, share}
use Rattle.directory.specs.Rows.{most_held}
use Rattle.directory.specs.declared.share.Neighbours.{Neighbours}
use Rattle.directory.specs.Lines.{line, joined, Cut, Shared}

-- an entry as the tree has it: its name, and the number of its file's first sector
abbrev pub pair : Entry → tree.Entry Key
pair e = (e.name.bytes, e.file.0)

-- the entries of a page, each with the sector of the child right of it
abbrev pub items : List Entry → List (tree.Item Key (Option Sector))
items [] = []
items (e ∷ es) = tree.item (pair e) e.below ∷ items es

abbrev pub tree_page : PageData → tree.Page Key (Option Sector)
tree_page p = tree.page p.first (items p.rows)

-- a page of 25 that is split is what the tree's insert makes of it; two neighbours that are evened out or joined are what its delete does
pub record TreeLaws : Type 0 where
  pub splits : (p : PageData) (n : Neighbours) → length p.rows ≡ most_held → Cut least_entries p.first p.rows n →
      fit (tree_page p) ≡ two (tree_page n.left) (pair n.middle) (tree_page n.right)
  pub evens : (n n' : Neighbours) → most_entries < length (line n) → Shared (share (length n.left.rows) (length n.right.rows)) n n' →
      even (tree_page n.left) (pair n.middle) (tree_page n.right) ≡ two (tree_page n'.left) (pair n'.middle) (tree_page n'.right)
  pub joins : (n : Neighbours) → length (line n) ≤ most_entries → even (tree_page n.left) (pair n.middle) (tree_page n.right) ≡ one (tree_page (joined n))
