-- The directory of a proper table: what its names lead to, and its pages after Register and Delete.
use Rattle.std.proofs.Common.{◌≡◌, ℕ, ◌+◌, ◌-◌, ◌≤◌, Some, List, [], ◌∷◌, sym, refl, ◌∙◌, inl, inr, arith}
use Rattle.std.specs.Str.{bytes_eq}
use Rattle.std.proofs.lemmas.Slice.Eq.{bytes_eq-Decides}
use Rattle.numbers.specs.Names.{Key}
use Rattle.numbers.specs.Order.{Cmp, below, same, above, IsOrder, cmp}
use Rattle.numbers.proofs.Ordered.{byte-order}
use Rattle.tree.specs.Tree.{Entry, Found, absent, at, pick, lookup, to_list, pages}
use Rattle.tree.specs.Insert.{insert}
use Rattle.tree.specs.Delete.{if_found}
use Rattle.tree.specs.Fresh.{IsSame}
use Rattle.tree.specs.Laws.{find}
use Rattle.tree.proofs.Look.{lookup-finds}
use Rattle.tree.proofs.Lists.{not-found}
use Rattle.tree.proofs.Present.{insert-gains}
use Rattle.tree.proofs.Changes.{insert-changes}
use Rattle.tree.proofs.Loss.{delete-loses}
use Rattle.disk.specs.Meaning.{In}
use Rattle.promise.specs.Table.{Anonymous, Table, slot_at, slot, with_name, without_name, changes, Proper}

pub order : IsOrder Key cmp
order = byte-order

pub letters : IsSame Key bytes_eq
letters = record { itself = λ a. (bytes_eq-Decides a a).1 refl; exact = λ a b. (bytes_eq-Decides a b).0 }

pub found-in : (n : Key) (es : List (Entry Key)) (f : ℕ) → find cmp n es ≡ at f → (e : Entry Key) × In e es × (e.1 ≡ f)
found-in n [] f h = absurd (not-found f h)
found-in n (e ∷ es) f h = go (cmp n e.0) (found-in n es f) h
  where
    go : (o : Cmp) → (find cmp n es ≡ at f → (d : Entry Key) × In d es × (d.1 ≡ f)) → pick o absent (at e.1) (find cmp n es) ≡ at f → (d : Entry Key) × In d (e ∷ es) × (d.1 ≡ f)
    go below k h = absurd (not-found f h)
    go same k h = (e, inl refl, cc)
    go above k h = let r = k h in (r.0, inr r.1, r.2)

-- no name leads to an anonymous file
pub unnamed : (t : Table) (s : ℕ) (n : Key) → Proper t → slot_at t s ≡ Some (slot t s) → (slot t s).sort ≡ Anonymous → lookup cmp t.tree n ≡ at (slot t s).file → ⊥
unnamed t s n p u a h =
    let r = found-in n (to_list t.tree) (slot t s).file (sym (lookup-finds cmp order t.tree n p.good) ∙ h) in
    p.apart s (slot t s) u a r.0 r.1 r.2

gained-most : (o : Found) (a b : ℕ) → if_found o (a - b) 0 ≤ a
gained-most absent a b = omega arith
gained-most (at f) a b = omega arith

-- REGISTER: no fewer pages, and no more new ones than change
pub pages-after-register : (t : Table) (s : ℕ) → Proper t → slot_at t s ≡ Some (slot t s) → (slot t s).sort ≡ Anonymous →
    (pages t.tree ≤ pages (with_name t s)) × (pages (with_name t s) ≤ pages t.tree + changes t (with_name t s))
pages-after-register t s p u a =
    let k = (slot t s).name in
    let v = (slot t s).file in
    let g = insert-gains cmp order t.tree k v p.good in
    let f = insert-changes cmp order bytes_eq letters t.tree k v p.good (unnamed t s k p u a) in
    let m = gained-most (lookup cmp t.tree k) (insert cmp t.tree k v).1 t.tree.over in
    (omega (arith, g), omega (arith, g, f, m))

-- DELETE: no more pages
pub pages-after-delete : (t : Table) (n : Key) → Proper t → pages (without_name t n) ≤ pages t.tree
pages-after-delete t n p = let l = delete-loses cmp t.tree n p.good in omega (arith, l)
