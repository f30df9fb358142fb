-- An accepted Start gives a proper table.
use Rattle.std.proofs.Common.{◌≡◌, ℕ, zero, suc, ◌≤◌, List, [], ◌∷◌, map, length, sym, refl, ap, ◌∙◌, subst, inl, inr, arith, true, length-append}
use Rattle.std.specs.Prelude.{◌==◌}
use Rattle.std.proofs.lemmas.List.{length-map}
use Rattle.std.proofs.lemmas.Bool.{cond_both}
use Rattle.std.proofs.lemmas.Bool.Decides.{nat_tests}
use Rattle.numbers.specs.Names.{Key, good_name}
use Rattle.numbers.specs.Lengths.{longest}
use Rattle.tree.specs.Tree.{Entry, Item, item, Page, page, All, pages_rest, pages_page, pages_of}
use Rattle.tree.specs.Stored.{map_rest, map_page}
use Rattle.disk.specs.Meaning.{Contents, In}
use Rattle.catalog.specs.Catalogs.{Laid, Extent, Catalog, Distinct, bare, entries, sectors_items, sectors_page, sectors_laid, range, byte_at, bytes_of}
use Rattle.catalog.specs.Lays.{FilesAt, Lays}
use Rattle.catalog.specs.Questions.{good_size, most_sectors}
use Rattle.catalog.specs.Laws.{Sized}
use Rattle.catalog.proofs.Counts.{length-range}
use Rattle.catalog.proofs.Found.{found-laid-both}
use Rattle.catalog.proofs.Sectors.{divides}
use Rattle.promise.specs.Table.{File, Table, Answer, found_file, started, Start, Proper}
use Rattle.promise.specs.Ledger.{file_number}
use Rattle.promise.proofs.Slots.{no-slot}
use Rattle.promise.proofs.Ledgers.{number_in}
use Rattle.promise.proofs.Firsts.{first_sector, entries-distinct, names-many}
use Rattle.promise.proofs.StayProper.{waits-proper}

-- PAGES and their sectors
module _ {S T : Type 0} (f : S → T) (g : T → ℕ) (h : S → List ℕ) (one : (c : S) → g (f c) ≡ length (h c)) where
  rest-pages : (xs : List (Item Key S)) → pages_rest g (map_rest f xs) ≡ length (sectors_items h xs)
  rest-pages [] = refl
  rest-pages (item e d ∷ xs) = let a = one d in let b = rest-pages xs in let n = length-append (h d) (sectors_items h xs) in omega (arith, a, b, n)

  page-pages : (p : Page Key S) → pages_page g (map_page f p) ≡ suc (length (sectors_page h p))
  page-pages (page c xs) = let a = one c in let b = rest-pages xs in let n = length-append (h c) (sectors_items h xs) in omega (arith, a, b, n)

laid-pages : (n : ℕ) (t : Laid n) → pages_of Key n (bare n t) ≡ length (sectors_laid n t)
laid-pages zero t = refl
laid-pages (suc n) t = page-pages (bare n) (pages_of Key n) (sectors_laid n) (laid-pages n) t.1

-- FILES
pub bytes-long : (shown : ℕ → Contents) (x : Extent) → length (bytes_of shown x) ≡ x.long
unfolding bytes_of
bytes-long shown x = length-map (range 0 x.long) (byte_at shown x) ∙ length-range 0 x.long

abbrev Fine : File → Type 0
Fine x = (length x.bytes ≤ longest) × (x.closed ≤ length x.bytes)

found-fine : (shown : ℕ → Contents) (es : List (Entry Key)) (xs : List Extent) → FilesAt shown es xs → (n : ℕ) → Fine (found_file shown xs n)
found-fine shown [] [] h n = (omega arith, omega arith)
found-fine shown [] (x ∷ xs) h n = absurd h
found-fine shown (e ∷ es) [] h n = absurd h
found-fine shown (e ∷ es) (x ∷ xs) h n =
    cond_both (first_sector x == n) (record { bytes = bytes_of shown x; closed = x.long }) (found_file shown xs n) Fine
    (λ q. let b = bytes-long shown x in let f = h.0.fits in (omega (arith, b, f), omega (arith, b))) (λ q. found-fine shown es xs h.1 n)

-- NAMES
all-in : {A : Type 0} (P : A → Type 0) (xs : List A) (x : A) → All P xs → In x xs → P x
all-in P [] x a i = absurd i
all-in P (y ∷ xs) x a (inl q) = subst P (sym q) a.0
all-in P (y ∷ xs) x a (inr j) = all-in P xs x a.1 j

one-entry : (es : List (Entry Key)) → Distinct (map file_number es) → (e d : Entry Key) → In e es → In d es → e.1 ≡ d.1 → e ≡ d
one-entry [] u e d i j q = absurd i
one-entry (x ∷ es) u e d (inl a) (inl b) q = a ∙ sym b
one-entry (x ∷ es) u e d (inl a) (inr j) q = absurd (u.0 (subst (λ (n : ℕ). In n (map file_number es)) (sym q ∙ ap file_number a) (number_in es d j)))
one-entry (x ∷ es) u e d (inr i) (inl b) q = absurd (u.0 (subst (λ (n : ℕ). In n (map file_number es)) (q ∙ ap file_number b) (number_in es e i)))
one-entry (x ∷ es) u e d (inr i) (inr j) q = one-entry es u.1 e d i j q

pub started-proper : (size : ℕ) (shown : ℕ → Contents) (c : Catalog) → good_size size ≡ true → Lays size shown c → Proper (started size shown c)
started-proper size shown c g l = record {
  eight = refl;
  handles = λ s x e. absurd (no-slot s x e);
  one = λ s h x y e f q. absurd (no-slot s x e);
  lengths = found-fine shown (entries c) c.files l.files;
  good = l.good;
  names = λ e i. all-in (λ (d : Entry Key). good_name d.0 ≡ true) (entries c) e l.names i;
  held = λ s x e. absurd (no-slot s x e);
  single = one-entry (entries c) (entries-distinct size shown c l);
  apart = λ s x e a d i q. no-slot s x e;
  room =
      let p = laid-pages (suc c.over) c.root in
      let n = names-many size shown c l in
      let d = (divides size shown c l).sum in
      let m : size ≤ most_sectors = grind (arith, nat_tests, g) in
      omega (arith, p, n, d, m);
}

pub starts : (size : ℕ) (shown : ℕ → Contents) (t t' : Table) (a : Answer) → Sized size shown → Proper t → Start size shown t a t' → Proper t'
starts size shown t _ _ z p (Start.gone f c h) = waits-proper t p
starts size shown t _ _ z p (Start.bad e h) = waits-proper t p
starts size shown t _ _ z p (Start.done c h) = let l = (found-laid-both size shown c z).0 h in started-proper size shown c l.0 l.1
