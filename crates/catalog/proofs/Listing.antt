-- The files found, in their order, are the lines of the catalog.
use Rattle.std.proofs.Common.{◌≡◌, ℕ, ◌-◌, List, [], ◌∷◌, ◌++◌, map, reverse, append_assoc, append-nil, sym, refl, ap, ◌∙◌}
use Rattle.std.proofs.lemmas.List.{reverse-append}
use Rattle.numbers.specs.Names.{Key}
use Rattle.tree.specs.Tree.{Entry}
use Rattle.disk.specs.Meaning.{Contents}
use Rattle.catalog.specs.Catalogs.{Row, rows_of, rows}
use Rattle.catalog.specs.Lays.{root_sector}
use Rattle.catalog.specs.Questions.{leaf_level, extent}
use Rattle.catalog.specs.Laws.{Listed}
use Rattle.catalog.proofs.Means.{line, pile}
use Rattle.catalog.proofs.Pages.{names_in}
use Rattle.catalog.proofs.Found.{extent_for, catalog-is, passed}

piled : (shown : ℕ → Contents) (es : List (Entry Key)) (m : List Row) → reverse (pile shown es m) ≡ reverse m ++ map (line shown) es
piled shown [] m = sym (append-nil (reverse m))
piled shown (e ∷ es) m =
    piled shown es (line shown e ∷ m) ∙ (ap (λ (z : List Row). z ++ map (line shown) es) (reverse-append (line shown e ∷ []) m)
    ∙ append_assoc (reverse m) (line shown e ∷ []) (map (line shown) es))

rows_are : (size : ℕ) (shown : ℕ → Contents) (es : List (Entry Key)) → rows_of es (map (extent_for size shown) es) ≡ map (line shown) es
unfolding extent
rows_are size shown [] = refl
rows_are size shown (e ∷ es) = ap (λ (z : List Row). line shown e ∷ z) (rows_are size shown es)

pub listed : Listed
listed size shown s e =
    let n = leaf_level size shown - 1 in
    let es = names_in size shown n root_sector in
    let p = passed size shown s e in
    ap reverse p.after.listed ∙ (piled shown es [] ∙ (sym (rows_are size shown es) ∙ ap rows (sym (catalog-is size shown))))
