-- An accepted Start leaves table and ledger together.
use Rattle.std.proofs.Common.{◌≡◌, ℕ, zero, suc, ◌+◌, ◌<◌, List, [], ◌∷◌, map, length, get_or, sym, refl, ap, ◌∙◌, ap₂, inl, inr, arith}
use Rattle.std.proofs.lemmas.List.{length-map, get_or-map}
use Rattle.numbers.specs.Names.{Key}
use Rattle.tree.specs.Tree.{Entry}
use Rattle.disk.specs.Meaning.{Contents}
use Rattle.catalog.specs.Catalogs.{Extent, Catalog, Distinct, entries, bytes_of}
use Rattle.promise.specs.Table.{File, found_file, started}
use Rattle.promise.specs.Ledger.{Written, Ledger, file_by, renumbered, restarted, file_number, Sane}
use Rattle.promise.specs.Promise.{name_of, FilesAgree, Agrees}
use Rattle.promise.specs.Together.{Together, Live, entry_to}
use Rattle.promise.proofs.Restarted.{refilled_at}
use Rattle.promise.proofs.Slots.{no-slot}
use Rattle.promise.proofs.StaySane.{renumbered-from}
use Rattle.promise.proofs.Firsts.{entries-first, lays-distinct, entries-distinct, files-long, distinct-same, no_extent, found-file-at}

-- the same names, with numbers for first sectors
names-to : (k : ℕ) (es ds : List (Entry Key)) (g : ℕ → ℕ) → map name_of es ≡ map name_of ds → ((i : ℕ) → i < length es → g (k + i) ≡ get_or (map file_number es) i 0) → es ≡ map (entry_to g) (renumbered k ds)
names-to k [] [] g e f = refl
names-to k [] (d ∷ ds) g e f = cc
names-to k (x ∷ es) [] g e f = cc
names-to k (x ∷ es) (d ∷ ds) g e f =
    let n : x.0 ≡ d.0 = cc in
    let r : map name_of es ≡ map name_of ds = cc in
    let z : k ≡ k + 0 = omega arith in
    ap₂ (λ (y : Entry Key) (ys : List (Entry Key)). y ∷ ys) (ap₂ (λ (a : Key) (b : ℕ). (a, b)) n (sym (ap g z ∙ f 0 (omega arith))))
    (names-to (suc k) es ds g r (λ i h. let s : suc k + i ≡ k + suc i = omega arith in ap g s ∙ f (suc i) (omega arith)))

agree-closed : (shown : ℕ → Contents) (l : Ledger) (ds : List (Entry Key)) (xs : List Extent) (n : ℕ) (d : Entry Key) → FilesAgree shown l ds xs → n < length ds → (get_or xs n no_extent).long ≡ (file_by l (get_or ds n d)).closed
agree-closed shown l [] [] n d f h = absurd (omega arith)
agree-closed shown l [] (x ∷ xs) n d f h = absurd f
agree-closed shown l (e ∷ ds) [] n d f h = absurd f
agree-closed shown l (e ∷ ds) (x ∷ xs) zero d f h = f.0.0
agree-closed shown l (e ∷ ds) (x ∷ xs) (suc n) d f h = agree-closed shown l ds xs n d f.1 (omega arith)

pub starts : (l : Ledger) (size : ℕ) (shown : ℕ → Contents) (c : Catalog) → Sane l → Agrees l size shown c → Together (started size shown c) (restarted l (map (bytes_of shown) c.files))
starts l size shown c v a = record {
  sector = sector;
  apart = λ n m p q e. distinct-same firsts n m 0 distinct (within n p) (within m q) e;
  names = names-to 0 (entries c) l.names sector a.names (λ i h. let z : 0 + i ≡ i = omega arith in ap sector z);
  slots = refl;
  bytes = λ n p. ap (λ (x : File). x.bytes) (at n p) ∙ sym (ap (λ (w : Written). w.bytes) (refilled_at l l.names (map (bytes_of shown) c.files) n ([], 0) (below n p)) ∙ get_or-map (bytes_of shown) c.files n no_extent [] (of-files n p));
  closed = λ n p. ap (λ (x : File). x.closed) (at n p) ∙ (agree-closed shown l l.names c.files n ([], 0) a.files (below n p) ∙ sym (ap (λ (w : Written). w.closed) (refilled_at l l.names (map (bytes_of shown) c.files) n ([], 0) (below n p))));
  unbroken = λ h. (refl, refl);
}
  where
    firsts : List ℕ
    firsts = map file_number (entries c)

    sector : ℕ → ℕ
    sector n = get_or (map file_number (entries c)) n 0

    distinct : Distinct (map file_number (entries c))
    distinct = entries-distinct size shown c a.lays

    long : length (entries c) ≡ length l.names
    long = sym (length-map (entries c) name_of) ∙ (ap length a.names ∙ length-map l.names name_of)

    below : (n : ℕ) → Live (restarted l (map (bytes_of shown) c.files)) n → n < length l.names
    below n (inl q) = let r = renumbered-from 0 l.names q.0 q.1 in let e = q.2 in omega (arith, r, e)
    below n (inr q) = absurd (no-slot q.0 q.1 q.2)

    within : (n : ℕ) → Live (restarted l (map (bytes_of shown) c.files)) n → n < length (map file_number (entries c))
    within n p = let b = below n p in let e = long in let m = length-map (entries c) file_number in omega (arith, b, e, m)

    of-files : (n : ℕ) → Live (restarted l (map (bytes_of shown) c.files)) n → n < length c.files
    of-files n p = let b = below n p in let e = long in let m = files-long shown (entries c) c.files a.lays.files in omega (arith, b, e, m)

    at : (n : ℕ) → Live (restarted l (map (bytes_of shown) c.files)) n →
        found_file shown c.files (get_or (map file_number (entries c)) n 0) ≡ record { bytes = bytes_of shown (get_or c.files n no_extent); closed = (get_or c.files n no_extent).long }
    at n p =
        ap (λ (l : List ℕ). found_file shown c.files (get_or l n 0)) (entries-first shown (entries c) c.files a.lays.files) ∙
        found-file-at shown c.files n (lays-distinct size shown c a.lays) (of-files n p)
