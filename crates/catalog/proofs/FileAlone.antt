-- A file of a catalog, asked alone.
use Rattle.std.proofs.Common.{◌≡◌, ℕ, ◌+◌, ◌<◌, ◌≤◌, Bool, cond, ◌⊎◌, List, [], ◌∷◌, ◌++◌, Ok, sym, ap, ◌∙◌, subst, inl, inr, arith}
use Rattle.std.proofs.lemmas.Bool.{eq-eqb, cases_lt, cases_eq}
use Rattle.numbers.specs.Names.{Key}
use Rattle.tree.specs.Tree.{Entry}
use Rattle.disk.specs.Meaning.{Contents}
use Rattle.catalog.specs.declared.fault.LayoutFault.TheVariants.{BadSize}
use Rattle.catalog.specs.Catalogs.{Extent, Catalog, page_sectors, extents_sectors, file_sectors}
use Rattle.catalog.specs.Lays.{root_sector, FileAt, FilesAt, Lays}
use Rattle.catalog.specs.Questions.{ask, onward, ask_file, extent, begin, given, file_found}
use Rattle.catalog.specs.Laws.{Named, here, later, FileAlone}
use Rattle.catalog.proofs.Counts.{tick, occ, occ-append, occ-in, distinct-occ}
use Rattle.catalog.proofs.Means.{Free}
use Rattle.catalog.proofs.File.{file_rest, means-file, file-occ, extent-of}

named-laid : (shown : ℕ → Contents) (e : Entry Key) (x : Extent) {es : List (Entry Key)} {xs : List Extent} → Named e x es xs → FilesAt shown es xs → FileAt shown e.1 x
named-laid shown e x here h = h.0
named-laid shown e x (later n) h = named-laid shown e x n h.1

named-occ : (k : ℕ) (e : Entry Key) (x : Extent) {es : List (Entry Key)} {xs : List Extent} → Named e x es xs → occ k x.parts + occ k x.tabs ≤ occ k (extents_sectors xs)
named-occ k e x (here {xs = xs}) = let a = occ-append k x.parts (x.tabs ++ extents_sectors xs) in let b = occ-append k x.tabs (extents_sectors xs) in omega arith
named-occ k e x (later {y = y} {xs = xs} n) =
    let a = occ-append k y.parts (y.tabs ++ extents_sectors xs) in
    let b = occ-append k y.tabs (extents_sectors xs) in
    let r = named-occ k e x n in
    omega arith

module _ (size : ℕ) (shown : ℕ → Contents) (c : Catalog) (h : Lays size shown c) where
  -- the sectors of the file but its first are met for the first time
  rest-free : (s : ℕ) → FileAt shown s (extent size shown s) → ((k : ℕ) → occ k (extent size shown s).parts + occ k (extent size shown s).tabs ≤ occ k (file_sectors c)) → Free size (file_rest size shown s) (s ∷ [])
  rest-free s f m k =
      let a = file-occ size shown s k f in
      let b = m k in
      let d = distinct-occ (page_sectors c ++ file_sectors c) h.once k in
      let e = occ-append k (page_sectors c) (file_sectors c) in
      go a b d e (cases_lt 0 (occ k (file_rest size shown s))) (cases_eq k root_sector)
    where
      go : tick k s + occ k (file_rest size shown s) ≡ occ k (extent size shown s).parts + occ k (extent size shown s).tabs →
          occ k (extent size shown s).parts + occ k (extent size shown s).tabs ≤ occ k (file_sectors c) → occ k (page_sectors c ++ file_sectors c) ≤ 1 →
          occ k (page_sectors c ++ file_sectors c) ≡ occ k (page_sectors c) + occ k (file_sectors c) →
          (0 < occ k (file_rest size shown s)) ⊎ (occ k (file_rest size shown s) ≤ 0) → (k ≡ root_sector) ⊎ (k ≡ root_sector → ⊥) →
          (occ k (file_rest size shown s) ≡ 0) ⊎ ((occ k (file_rest size shown s) + (tick k s + 0) ≤ 1) × (2 ≤ k) × (k < size))
      go a b d e (inr z) q = inl (omega arith)
      go a b d e (inl z) (inl q) =
          let t : tick k c.root.0 ≡ 1 = ap (λ (b : Bool). cond b 1 0) (eq-eqb k c.root.0 (q ∙ sym h.root)) in
          absurd (omega arith)
      go a b d e (inl z) (inr q) = let w = h.within k (occ-in k (page_sectors c ++ file_sectors c) (omega arith)) in inr (omega arith, apart w.0 q, w.1)
        where
          apart : 1 ≤ k → (k ≡ 1 → ⊥) → 2 ≤ k
          apart l q = omega arith

pub file-alone : FileAlone
unfolding file_found
file-alone size shown c e x g h n =
    let s = e.1 in
    let f = named-laid shown e x n h.files in
    let i = extent-of size shown s x f in
    let f' = subst (λ (z : Extent). FileAt shown s z) i f in
    let m = λ (k : ℕ). subst (λ (z : Extent). occ k z.parts + occ k z.tabs ≤ occ k (file_sectors c)) i (named-occ k e x n) in
    let r = (means-file size shown s).complete (begin size shown s) f' (record { free = rest-free size shown c h s f' m; rising = tt }) in
    ap (λ (b : Bool). given size shown (extent size shown s) (onward (ask_file size shown s) (ask b BadSize (begin size shown s)))) g
    ∙ (ap (given size shown (extent size shown s)) r.1 ∙ ap Ok (sym i))
