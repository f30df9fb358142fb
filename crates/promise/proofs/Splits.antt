-- Calls by which pages are split and joined, each as it is promised.
use Rattle.promise.proofs.Holding.{catalog-one}
use Rattle.std.proofs.Common.{◌≡◌, ℕ, zero, suc, ◌-◌, ◌^◌, ◌<◌, ◌≤◌, Bool, true, false, cond, ◌⊎◌, List, [], ◌∷◌, ◌++◌, map, length, get_or, take, Some, None, Ok, sym, refl, ap, ◌∙◌, subst, inl, inr, arith}
use Rattle.std.specs.Prelude.{◌==◌, ◌≢◌, slice_index}
use Rattle.std.proofs.lemmas.Bool.{cond_both, ne_eqb}
use Rattle.std.proofs.lemmas.List.{take_all}
use Rattle.std.proofs.lemmas.Option.{none-some, same_Some}
use Rattle.numbers.specs.Names.{Key}
use Rattle.numbers.specs.Lengths.{sector_size, header_size}
use Rattle.numbers.specs.Sectors.{address}
use Rattle.layout.specs.Words.{blank}
use Rattle.layout.specs.Pages.{page_bytes}
use Rattle.tree.specs.Tree.{Entry, Item, item}
use Rattle.disk.specs.Meaning.{Contents, In}
use Rattle.catalog.specs.Catalogs.{Laid, Extent, Catalog, plain_tree, entries, page_sectors, outside, bytes_of, range}
use Rattle.catalog.specs.Lays.{Below, FileAt, Lays}
use Rattle.catalog.specs.Laws.{Sized}
use Rattle.catalog.specs.Questions.{found, asked, catalog, ask_table, ask_file, first_leaf, ask_page, extent, laid}
use Rattle.catalog.specs.Written.{page_data}
use Rattle.catalog.specs.Examples.{letter, items, empty_extents}
use Rattle.catalog.proofs.Written.{head-written}
use Rattle.catalog.proofs.Found.{found-laid-both}
use Rattle.promise.specs.Table.{File, Sort, Slot, Table, New, Register, Delete, Done, Slotted, Anonymous, Registered, empty_file, slot_at, changes, Turn, said, Proper}
use Rattle.promise.specs.Promise.{Open, View}
use Rattle.promise.specs.Calls.{slot_in, seen, NamedAs, OpenAs, uses, Grown, closes, Head, Unput, PagesPut, DirectoryPut, Holds, Turned}
use Rattle.promise.specs.Examples.{after, counting}
use Rattle.promise.specs.Splits.{extent_at, file_sector, with_page, full_root, left_leaf, right_leaf, longer_leaf, root_over, joined_root, full_catalog, split_catalog, longer_catalog, joined_catalog, full_shown, split_shown, longer_shown, joined_shown, open_at, open_store, full_store, split_store, longer_store, joined_store, named_table, full_table, split_table, Splits}
use Rattle.promise.specs.Ledger.{file_number}
use Rattle.promise.proofs.Turning.{took-by, freed-by, directory-by, turning}
use Rattle.promise.proofs.Witnesses.{none-later}
use Rattle.promise.proofs.Slots.{no-slot}
use Rattle.promise.proofs.Ledgers.{number_in}
use Rattle.promise.proofs.StayProper.{turns}
use Rattle.promise.proofs.StartProper.{bytes-long, started-proper}
use Rattle.promise.proofs.Cards.{either-in, all_apart, distinct, all_within, within}

-- EACH SECTOR is as long as it should be
file-long : (s : ℕ) → length (file_sector s) ≡ sector_size
file-long s = refl

page-long : (n : ℕ) (p : Laid (suc n)) (shown : ℕ → Contents) → length (page_bytes (page_data n p.1)) ≡ sector_size → ((s : ℕ) → length (shown s) ≡ sector_size) → (s : ℕ) → length (with_page n p shown s) ≡ sector_size
page-long n p shown h f s = cond_both (s == p.0) (page_bytes (page_data n p.1)) (shown s) (λ (c : Contents). length c ≡ sector_size) (λ e. h) (λ e. f s)

left-long : (s : ℕ) → length (with_page 0 left_leaf (with_page 0 right_leaf file_sector) s) ≡ sector_size
unfolding blank
left-long = page-long 0 left_leaf _ refl (page-long 0 right_leaf _ refl file-long)

full-sized : Sized 40 full_shown
unfolding blank
full-sized s l = page-long 0 full_root file_sector refl file-long s

split-sized : Sized 40 split_shown
unfolding blank
split-sized s l = page-long 1 (root_over right_leaf) _ refl left-long s

longer-sized : Sized 40 longer_shown
unfolding blank
longer-sized s l = page-long 1 (root_over longer_leaf) _ refl (page-long 0 longer_leaf _ refl left-long) s

joined-sized : Sized 40 joined_shown
unfolding blank
joined-sized s l = page-long 0 joined_root _ refl left-long s

-- WHAT IS FOUND
full-found : found 40 full_shown ≡ Ok full_catalog
unfolding found asked catalog ask_table ask_file first_leaf ask_page extent laid range blank
full-found = refl

split-found : found 40 split_shown ≡ Ok split_catalog
unfolding found asked catalog ask_table ask_file first_leaf ask_page extent laid range blank
split-found = refl

longer-found : found 40 longer_shown ≡ Ok longer_catalog
unfolding found asked catalog ask_table ask_file first_leaf ask_page extent laid range blank
longer-found = refl

joined-found : found 40 joined_shown ≡ Ok joined_catalog
unfolding found asked catalog ask_table ask_file first_leaf ask_page extent laid range blank
joined-found = refl

-- FILES of no bytes
empty-laid : (shown : ℕ → Contents) (s : ℕ) → shown s ≡ file_sector s → s < 40 → FileAt shown s (extent_at s)
empty-laid shown s e l = head-written shown s (letter (s - 2)) (extent_at s)
    (record { short = omega arith; fits = omega arith; parts = refl; tabs = refl; small = λ n i. small n i })
    (record { first = refl; head = ap (take header_size) e ∙ refl; far = λ k j a b. absurd (omega arith) })
  where
    small : (n : ℕ) → In n (s ∷ []) ⊎ In n [] → address n < 2 ^ 32
    small n (inl (inl f)) = omega arith
    small n (inl (inr i)) = absurd i
    small n (inr i) = absurd i

no-bytes : (shown : ℕ → Contents) (x : Extent) → x.long ≡ 0 → [] ≡ bytes_of shown x
no-bytes shown x e = sym (none (bytes_of shown x) (bytes-long shown x ∙ e))
  where
    none : (l : List ℕ) → length l ≡ 0 → l ≡ []
    none [] h = refl
    none (x ∷ l) h = absurd (omega arith)

abbrev Empty : Extent → Type 0
Empty x = (k : ℕ) × (x ≡ extent_at k)

all-empty : (s n : ℕ) → (x : Extent) → In x (empty_extents s n) → Empty x
all-empty s zero x i = absurd i
all-empty s (suc n) x (inl e) = (s, e)
all-empty s (suc n) x (inr i) = all-empty (suc s) n x i

named-empty : (shown : ℕ → Contents) (t : Table) → ((n : ℕ) → t.files n ≡ empty_file) → (es : List (Entry Key)) (s n : ℕ) → length es ≡ n → NamedAs shown t es (empty_extents s n)
named-empty shown t f [] s zero l = tt
named-empty shown t f [] s (suc n) l = absurd (omega arith)
named-empty shown t f (e ∷ es) s zero l = absurd (omega arith)
named-empty shown t f (e ∷ es) s (suc n) l =
    (ap (λ (x : File). x.closed) (f e.1), (λ _. ap (λ (x : File). x.bytes) (f e.1) ∙ no-bytes shown (extent_at s) refl), named-empty shown t f es (suc s) n (omega arith))

-- STORES. The two open files are as they were begun
open-empty : (y z : Sort) (free : List ℕ) (shown : ℕ → Contents) (t : Table) → ((n : ℕ) → t.files n ≡ empty_file) → OpenAs (seen (open_store y z free shown)) t (open_store y z free shown).slots (extent_at 26 ∷ extent_at 27 ∷ [])
open-empty y z free shown t f =
    let v = seen (open_store y z free shown) in (
      (empty-laid v 26 refl (omega arith)).reaches,
      refl,
      ap (λ (x : File). x.bytes) (f 26) ∙ no-bytes v (extent_at 26) refl,
      ((empty-laid v 27 refl (omega arith)).reaches, refl, ap (λ (x : File). x.bytes) (f 27) ∙ no-bytes v (extent_at 27) refl, tt),
    )

same-grown : (x y : Extent) → Empty x → Empty y → slice_index x.parts 0 ≡ slice_index y.parts 0 → Grown x y
same-grown x y a b e = go x y a.0 b.0 a.1 b.1 e
  where
    go : (x y : Extent) (k j : ℕ) → x ≡ extent_at k → y ≡ extent_at j → slice_index x.parts 0 ≡ slice_index y.parts 0 → Grown x y
    go x y k j p q e =
        let h : k ≡ j = ap (λ (w : Extent). slice_index w.parts 0) (sym p) ∙ (e ∙ ap (λ (w : Extent). slice_index w.parts 0) q) in
        let m : x ≡ y = p ∙ (ap extent_at h ∙ sym q) in
        subst (λ (w : Extent). Grown x w) m (take_all (length x.parts) x.parts (omega arith), take_all (length x.tabs) x.tabs (omega arith))

module _ (y z : Sort) (free : List ℕ) (shown : ℕ → Contents) (t : Table) (c : Catalog) (s n : ℕ) where
  unfoldable holding : Lays 40 shown c → plain_tree c ≡ t.tree → c.files ≡ empty_extents s n → length (entries c) ≡ n → t.ready ≡ true → map slot_in (open_store y z free shown).slots ≡ t.slots → length free ≡ t.free →
      ((m : ℕ) → t.files m ≡ empty_file) → all_apart (free ++ uses t c (extent_at 26 ∷ extent_at 27 ∷ [])) ≡ true → all_within 2 40 (free ++ (26 ∷ 27 ∷ [])) ≡ true → Proper t → Holds (open_store y z free shown) t
  holding l e q k r o g f a w p = record {
    size = refl;
    ready = sym r;
    live = refl;
    slots = o;
    free = g;
    catalog = c;
    lays = l;
    tree = e;
    named = subst (NamedAs shown t (entries c)) (sym q) (named-empty shown t f (entries c) s n k);
    extents = extent_at 26 ∷ extent_at 27 ∷ [];
    open' = open-empty y z free shown t f;
    grown = λ x d i j h. same-grown x d (all-empty s n x (subst (In x) q i)) (all-empty 26 2 d j) h;
    apart = distinct (free ++ uses t c (extent_at 26 ∷ extent_at 27 ∷ [])) a;
    inside = within 2 40 (free ++ (26 ∷ 27 ∷ [])) w;
    proper = p;
  }

full-lays : Lays 40 full_shown full_catalog
full-lays = ((found-laid-both 40 full_shown full_catalog full-sized).0 full-found).1

split-lays : Lays 40 split_shown split_catalog
split-lays = ((found-laid-both 40 split_shown split_catalog split-sized).0 split-found).1

longer-lays : Lays 40 longer_shown longer_catalog
longer-lays = ((found-laid-both 40 longer_shown longer_catalog longer-sized).0 longer-found).1

joined-lays : Lays 40 joined_shown joined_catalog
joined-lays = ((found-laid-both 40 joined_shown joined_catalog joined-sized).0 joined-found).1

-- TABLES
same-file : (b : Bool) (x y : File) → x ≡ empty_file → y ≡ empty_file → cond b x y ≡ empty_file
same-file true x y e f = e
same-file false x y e f = f

named-proper : Proper named_table
named-proper =
    let p = started-proper 40 full_shown full_catalog refl full-lays in
    record { eight = p.eight; handles = p.handles; one = p.one; lengths = λ n. (omega arith, omega arith); good = p.good; names = p.names; held = p.held; single = p.single; apart = p.apart; room = p.room }

abbrev begun_table : Table
begun_table = after named_table ((26, New (letter 24)) ∷ [])

-- no name leads to a sector past 25
unnamed : (s : ℕ) → 26 ≤ s → (e : Entry Key) → In e (entries full_catalog) → e.1 ≢ s
unnamed s l e i q = let w = (within 2 26 (map file_number (entries full_catalog)) refl e.1 (number_in (entries full_catalog) e i)).1 in omega (arith, w, q)

begun-proper : Proper begun_table
begun-proper = turns named_table begun_table (New (letter 24)) (Slotted 0) named-proper (said (New (letter 24)) 26 (record { closed = λ s x e. absurd (no-slot s x e); unnamed = unnamed 26 (omega arith) }))

full-proper : Proper full_table
full-proper = turns begun_table full_table (New (letter 25)) (Slotted 1) begun-proper (said (New (letter 25)) 27 (record { closed = apart; unnamed = unnamed 27 (omega arith) }))
  where
    apart : (s : ℕ) (x : Slot) → slot_at begun_table s ≡ Some x → x.file ≢ 27
    apart zero x e q = let r = ap (λ (y : Slot). y.file) (same_Some (record { file = 26; sort = Anonymous; name = letter 24; handles = 1 }) x e) in absurd (omega (arith, r, q))
    apart (suc s) x e q = none-later 7 s x e

full-files : (n : ℕ) → full_table.files n ≡ empty_file
full-files n = same-file (n == 27) empty_file (cond (n == 26) empty_file empty_file) refl (same-file (n == 26) empty_file empty_file refl refl)

split-files : (n : ℕ) → split_table.files n ≡ empty_file
split-files n = same-file (n == 26) empty_file (full_table.files n) refl (full-files n)

abbrev longer_table : Table
longer_table = after split_table ((0, Register 1) ∷ [])

abbrev joined_table : Table
joined_table = after split_table ((0, Delete (letter 0)) ∷ [])

longer-files : (n : ℕ) → longer_table.files n ≡ empty_file
longer-files n = same-file (n == 27) empty_file (split_table.files n) refl (split-files n)

split-turn : Turn full_table (Register 0) Done split_table
split-turn = said (Register 0) 0 refl

longer-turn : Turn split_table (Register 1) Done longer_table
longer-turn = said (Register 1) 0 refl

joined-turn : Turn split_table (Delete (letter 0)) Done joined_table
joined-turn = said (Delete (letter 0)) 0 refl

split-proper : Proper split_table
split-proper = turns full_table split_table (Register 0) Done full-proper split-turn

unfoldable full-holds : Holds full_store full_table
unfolding holding
full-holds = holding Anonymous Anonymous (counting 28 12) full_shown full_table full_catalog 2 24 full-lays refl refl refl refl refl refl full-files refl refl full-proper

unfoldable split-holds : Holds split_store split_table
unfolding holding
split-holds = holding Registered Anonymous (counting 30 10) split_shown split_table split_catalog 2 25 split-lays refl refl refl refl refl refl split-files refl refl split-proper

unfoldable longer-holds : Holds longer_store longer_table
unfolding holding
longer-holds = holding Registered Registered (29 ∷ counting 31 9) longer_shown longer_table longer_catalog 2 26 longer-lays refl refl refl refl refl refl longer-files refl refl
    (turns split_table longer_table (Register 1) Done split-proper longer-turn)

unfoldable joined-holds : Holds joined_store joined_table
unfolding holding
joined-holds = holding Registered Anonymous (counting 28 12) joined_shown joined_table joined_catalog 3 24 joined-lays refl refl refl refl refl refl split-files refl refl
    (turns split_table joined_table (Delete (letter 0)) Done split-proper joined-turn)

-- SLOTS 0 and 1 hold Y and Z
open-slots : (y z : Sort) (free : List ℕ) (shown : ℕ → Contents) (s : ℕ) (o : Open) → get_or (open_store y z free shown).slots s None ≡ Some o → ((s ≡ 0) × (open_at 26 y ≡ Some o)) ⊎ ((s ≡ 1) × (open_at 27 z ≡ Some o))
open-slots y z free shown zero o e = inl (refl, e)
open-slots y z free shown (suc zero) o e = inr (refl, e)
open-slots y z free shown (suc (suc s)) o e = absurd (none-later 6 s o e)

-- what is put of a file that is closed
head-at : (n : ℕ) (sort : Sort) (f : ℕ → File) (shown : ℕ → Contents) → ((m : ℕ) → f m ≡ empty_file) → shown n ≡ file_sector n → n < 40 → (o : Open) → open_at n sort ≡ Some o → Head o (f o.slot.file) shown
head-at n sort f shown g e l o q =
    let x : Open = record { slot = record { file = n; sort = sort; name = letter (n - 2); handles = 1 }; long = 0; first = file_sector n } in
    subst (λ (y : Open). Head y (f y.slot.file) shown) (same_Some x o q) (record {
      extent = extent_at n;
      long = refl;
      header = ap (take header_size) e ∙ refl;
      reaches = (empty-laid shown n e l).reaches;
      bytes = sym (ap (λ (y : File). y.bytes) (g n) ∙ no-bytes shown (extent_at n) refl);
    })

-- and of one that is not
module _ (v v' : View) (may : (n : ℕ) → v.disk.may n ≡ v.disk.shown n ∷ []) (may' : (n : ℕ) → v'.disk.may n ≡ v'.disk.shown n ∷ []) where
  unput-at : (n : ℕ) (sort : Sort) (o : Open) → v'.disk.shown n ≡ v.disk.shown n → open_at n sort ≡ Some o → Unput v v' o.slot.file
  unput-at n sort o e q =
      let x : Open = record { slot = record { file = n; sort = sort; name = letter (n - 2); handles = 1 }; long = 0; first = file_sector n } in
      subst (λ (y : Open). Unput v v' y.slot.file) (same_Some x o q)
      (e, λ c i. subst (In c) (sym (may n)) (subst (λ (d : Contents). In c (d ∷ [])) e (subst (In c) (may' n) i)))

-- FILES. None lies in a page's sector, so each shows what it showed
page-apart : (n : ℕ) (p : Laid (suc n)) (shown : ℕ → Contents) (s : ℕ) → (s ≡ p.0 → ⊥) → with_page n p shown s ≡ shown s
page-apart n p shown s a = rw (ne_eqb s p.0 a) refl

full-file : (s : ℕ) → 2 ≤ s → full_shown s ≡ file_sector s
full-file s l = page-apart 0 full_root file_sector s (λ e. omega (arith, l, e))

leaves : (s : ℕ) → 2 ≤ s → s < 28 → with_page 0 left_leaf (with_page 0 right_leaf file_sector) s ≡ file_sector s
leaves s l h = page-apart 0 left_leaf (with_page 0 right_leaf file_sector) s (λ e. omega (arith, h, e)) ∙ page-apart 0 right_leaf file_sector s (λ e. omega (arith, h, e))

split-file : (s : ℕ) → 2 ≤ s → s < 28 → split_shown s ≡ file_sector s
split-file s l h = page-apart 1 (root_over right_leaf) (with_page 0 left_leaf (with_page 0 right_leaf file_sector)) s (λ e. omega (arith, l, e)) ∙ leaves s l h

longer-file : (s : ℕ) → 2 ≤ s → s < 28 → longer_shown s ≡ file_sector s
longer-file s l h = page-apart 1 (root_over longer_leaf) (with_page 0 longer_leaf (with_page 0 left_leaf (with_page 0 right_leaf file_sector))) s (λ e. omega (arith, l, e)) ∙
    (page-apart 0 longer_leaf (with_page 0 left_leaf (with_page 0 right_leaf file_sector)) s (λ e. omega (arith, h, e)) ∙ leaves s l h)

joined-file : (s : ℕ) → 2 ≤ s → s < 28 → joined_shown s ≡ file_sector s
joined-file s l h = page-apart 0 joined_root (with_page 0 left_leaf (with_page 0 right_leaf file_sector)) s (λ e. omega (arith, l, e)) ∙ leaves s l h

-- so no named file's sector is put
files-stay : (v v' : View) (c : Catalog) → ((n : ℕ) → v.disk.may n ≡ v.disk.shown n ∷ []) → ((n : ℕ) → v'.disk.may n ≡ v'.disk.shown n ∷ []) →
    ((s : ℕ) → 2 ≤ s → s < 28 → v.disk.shown s ≡ file_sector s) → ((s : ℕ) → 2 ≤ s → s < 28 → v'.disk.shown s ≡ file_sector s) →
    all_within 2 28 (map file_number (entries c)) ≡ true → (e : Entry Key) → In e (entries c) → Unput v v' e.1
files-stay v v' c may may' f f' b e i =
    let r = within 2 28 (map file_number (entries c)) b e.1 (number_in (entries c) e i) in
    let q = f' e.1 r.0 r.1 ∙ sym (f e.1 r.0 r.1) in
    (q, λ x j. subst (In x) (sym (may e.1)) (subst (λ (d : Contents). In x (d ∷ [])) q (subst (In x) (may' e.1) j)))

leaf-put : (old : List ℕ) (shown shown' : ℕ → Contents) (xs : List (Item Key (Unit {0}))) → Below (PagesPut old shown shown' zero) xs
leaf-put old shown shown' [] = tt
leaf-put old shown shown' (item e d ∷ xs) = (tt, leaf-put old shown shown' xs)

abbrev Counted : Table → Table → (ℕ → Contents) → (ℕ → Contents) → Catalog → Catalog → Type 0
Counted t t' shown shown' c d = (length (outside (page_sectors c) (page_sectors d)) ≡ changes t t'.tree) × DirectoryPut c shown shown' d

split-turns : (h : Holds full_store full_table) → Turned full_store full_table h (Register 0) Done split_store
unfolding holding full-holds split-holds
split-turns h =
    turning 40 true full_store.disk split_shown full_store.slots split_store.slots full_store.free split_store.free full_table h refl (λ e. e) (Register 0) split_table refl split-turn refl split-holds
    (took-by full_store split_store full_table full_table split_table split_table full-sized split-sized h full-holds split-holds
    (either-in full_store.free (uses full_table full_catalog (extent_at 26 ∷ extent_at 27 ∷ [])) (uses split_table split_catalog (extent_at 26 ∷ extent_at 27 ∷ [])) refl))
    (freed-by full_store split_store full_table full_table split_table split_table full-sized split-sized h full-holds split-holds (either-in full_store.free (1 ∷ []) split_store.free refl))
    head others
    (λ e i o. files-stay full_store split_store full_catalog (λ n. refl) (λ n. refl) (λ n l u. full-file n l) split-file refl e
    (subst (λ (c : Catalog). In e (entries c)) (catalog-one full_store full_table full_table full-sized h full-holds) i))
    (directory-by full_store split_store full_table full_table split_table split_table full-sized split-sized h full-holds split-holds (Counted full_table split_table full_shown split_shown)
    (refl, (inr refl, ((refl, (tt, leaf-put (1 ∷ []) full_shown split_shown (items 0 2 12))), ((refl, (tt, leaf-put (1 ∷ []) full_shown split_shown (items 13 15 12))), tt)))))
  where
    head : (s : ℕ) (o : Open) → closes (Register 0) ≡ Some s → get_or full_store.slots s None ≡ Some o → Head o (split_table.files o.slot.file) split_shown
    head s o e f = elim (open-slots Anonymous Anonymous full_store.free full_shown s o f) [
      | inl p ↦ head-at 26 Anonymous split_table.files split_shown split-files refl (omega arith) o p.1
      | inr p ↦ (let q = same_Some 0 s e in absurd (omega (arith, q, p.0)))
    ]

    others : (s : ℕ) (o : Open) → closes (Register 0) ≢ Some s → (get_or full_store.slots s None ≡ Some o) ⊎ (get_or split_store.slots s None ≡ Some o) → Unput full_store split_store o.slot.file
    others s o n (inl f) = elim (open-slots Anonymous Anonymous full_store.free full_shown s o f) [
      | inl p ↦ absurd (n (ap Some (sym p.0)))
      | inr p ↦ unput-at full_store split_store (λ k. refl) (λ k. refl) 27 Anonymous o refl p.1
    ]
    others s o n (inr f) = elim (open-slots Registered Anonymous split_store.free split_shown s o f) [
      | inl p ↦ absurd (n (ap Some (sym p.0)))
      | inr p ↦ unput-at full_store split_store (λ k. refl) (λ k. refl) 27 Anonymous o refl p.1
    ]

longer-turns : (h : Holds split_store split_table) → Turned split_store split_table h (Register 1) Done longer_store
unfolding holding split-holds longer-holds
longer-turns h =
    turning 40 true split_store.disk longer_shown split_store.slots longer_store.slots split_store.free longer_store.free split_table h refl (λ e. e) (Register 1) longer_table refl longer-turn refl longer-holds
    (took-by split_store longer_store split_table split_table longer_table longer_table split-sized longer-sized h split-holds longer-holds
    (either-in split_store.free (uses split_table split_catalog (extent_at 26 ∷ extent_at 27 ∷ [])) (uses longer_table longer_catalog (extent_at 26 ∷ extent_at 27 ∷ [])) refl))
    (freed-by split_store longer_store split_table split_table longer_table longer_table split-sized longer-sized h split-holds longer-holds (either-in split_store.free (1 ∷ 28 ∷ 29 ∷ []) longer_store.free refl))
    head others
    (λ e i o. files-stay split_store longer_store split_catalog (λ n. refl) (λ n. refl) split-file longer-file refl e
    (subst (λ (c : Catalog). In e (entries c)) (catalog-one split_store split_table split_table split-sized h split-holds) i))
    (directory-by split_store longer_store split_table split_table longer_table longer_table split-sized longer-sized h split-holds longer-holds (Counted split_table longer_table split_shown longer_shown)
    (refl, (inr refl, ((refl, (tt, leaf-put (1 ∷ 28 ∷ 29 ∷ []) split_shown longer_shown (items 0 2 12))), ((refl, (tt, leaf-put (1 ∷ 28 ∷ 29 ∷ []) split_shown longer_shown (items 13 15 13))), tt)))))
  where
    head : (s : ℕ) (o : Open) → closes (Register 1) ≡ Some s → get_or split_store.slots s None ≡ Some o → Head o (longer_table.files o.slot.file) longer_shown
    head s o e f = elim (open-slots Registered Anonymous split_store.free split_shown s o f) [
      | inl p ↦ (let q = same_Some 1 s e in absurd (omega (arith, q, p.0)))
      | inr p ↦ head-at 27 Anonymous longer_table.files longer_shown longer-files refl (omega arith) o p.1
    ]

    others : (s : ℕ) (o : Open) → closes (Register 1) ≢ Some s → (get_or split_store.slots s None ≡ Some o) ⊎ (get_or longer_store.slots s None ≡ Some o) → Unput split_store longer_store o.slot.file
    others s o n (inl f) = elim (open-slots Registered Anonymous split_store.free split_shown s o f) [
      | inl p ↦ unput-at split_store longer_store (λ k. refl) (λ k. refl) 26 Registered o refl p.1
      | inr p ↦ absurd (n (ap Some (sym p.0)))
    ]
    others s o n (inr f) = elim (open-slots Registered Registered longer_store.free longer_shown s o f) [
      | inl p ↦ unput-at split_store longer_store (λ k. refl) (λ k. refl) 26 Registered o refl p.1
      | inr p ↦ absurd (n (ap Some (sym p.0)))
    ]

joined-turns : (h : Holds split_store split_table) → Turned split_store split_table h (Delete (letter 0)) Done joined_store
unfolding holding split-holds joined-holds
joined-turns h =
    turning 40 true split_store.disk joined_shown split_store.slots joined_store.slots split_store.free joined_store.free split_table h refl (λ e. e) (Delete (letter 0)) joined_table refl joined-turn refl joined-holds
    (took-by split_store joined_store split_table split_table joined_table joined_table split-sized joined-sized h split-holds joined-holds
    (either-in split_store.free (uses split_table split_catalog (extent_at 26 ∷ extent_at 27 ∷ [])) (uses joined_table joined_catalog (extent_at 26 ∷ extent_at 27 ∷ [])) refl))
    (freed-by split_store joined_store split_table split_table joined_table joined_table split-sized joined-sized h split-holds joined-holds (either-in split_store.free (1 ∷ 28 ∷ 29 ∷ []) joined_store.free refl))
    (λ s o e. absurd (none-some s e)) others
    (λ e i o. files-stay split_store joined_store split_catalog (λ n. refl) (λ n. refl) split-file joined-file refl e
    (subst (λ (c : Catalog). In e (entries c)) (catalog-one split_store split_table split_table split-sized h split-holds) i))
    (directory-by split_store joined_store split_table split_table joined_table joined_table split-sized joined-sized h split-holds joined-holds (Counted split_table joined_table split_shown joined_shown)
    (refl, (inr refl, (tt, leaf-put (1 ∷ 28 ∷ 29 ∷ []) split_shown joined_shown (items 1 3 24)))))
  where
    others : (s : ℕ) (o : Open) → closes (Delete (letter 0)) ≢ Some s → (get_or split_store.slots s None ≡ Some o) ⊎ (get_or joined_store.slots s None ≡ Some o) → Unput split_store joined_store o.slot.file
    others s o n e = at (elim e [ inl f ↦ open-slots Registered Anonymous split_store.free split_shown s o f | inr f ↦ open-slots Registered Anonymous split_store.free split_shown s o f ])
      where
        at : ((s ≡ 0) × (open_at 26 Registered ≡ Some o)) ⊎ ((s ≡ 1) × (open_at 27 Anonymous ≡ Some o)) → Unput split_store joined_store o.slot.file
        at (inl p) = unput-at split_store joined_store (λ k. refl) (λ k. refl) 26 Registered o refl p.1
        at (inr p) = unput-at split_store joined_store (λ k. refl) (λ k. refl) 27 Anonymous o refl p.1

pub splits : Splits
splits = record { full = full-holds; split = split-turns; longer = longer-turns; joined = joined-turns }
