-- Calls by which a name is taken over while its old file is open, each as it is promised.
use Rattle.promise.proofs.Holding.{catalog-one}
use Rattle.numbers.specs.Names.{Key}
use Rattle.std.proofs.Common.{◌≡◌, ℕ, zero, suc, ◌^◌, ◌<◌, ◌⊎◌, true, cond, [], ◌∷◌, ◌++◌, length, get_or, take, Some, None, sym, refl, ap, ◌∙◌, subst, inl, inr, arith}
use Rattle.std.specs.Prelude.{◌==◌, ◌≢◌, slice_index}
use Rattle.std.proofs.lemmas.Bool.{cond_both}
use Rattle.std.proofs.lemmas.Option.{same_Some}
use Rattle.numbers.specs.Lengths.{sector_size, header_size}
use Rattle.numbers.specs.Sectors.{address}
use Rattle.layout.specs.Words.{blank}
use Rattle.tree.specs.Tree.{Entry, item, page}
use Rattle.disk.specs.Meaning.{Contents, In}
use Rattle.catalog.specs.Catalogs.{Extent, Catalog, page_sectors, outside, bytes_of, range, entries}
use Rattle.catalog.specs.Lays.{PageAt, FileAt, Lays}
use Rattle.catalog.specs.Laws.{Sized}
use Rattle.catalog.proofs.Written.{page-written, head-written}
use Rattle.promise.specs.Table.{File, Sort, Slot, Table, New, Write, Register, Close, Done, Slotted, Wrote, Anonymous, Registered, slot_at, changes, formatted, Spare, Turn, said, Proper}
use Rattle.promise.specs.Promise.{Open, View}
use Rattle.promise.specs.Calls.{seen, Grown, closes, Head, Unput, DirectoryPut, Holds, Turned}
use Rattle.promise.specs.Examples.{after, at, hall, counting}
use Rattle.promise.specs.Witnesses.{root_of, first_bytes}
use Rattle.promise.specs.Replacing.{file_in, sector_in, shown_to, open_in, both_store, taken_store, left_store, both_table, taken_table, Replacing}
use Rattle.promise.proofs.StayProper.{turns, formatted-proper}
use Rattle.promise.proofs.Slots.{no-slot}
use Rattle.promise.proofs.Turning.{took-by, directory-by, turning}
use Rattle.promise.proofs.Witnesses.{none-later}
use Rattle.promise.proofs.Cards.{distinct, within}

-- SECTORS
root-entry : (n : ℕ) → n < 12 → PageAt 0 (root_of (item (hall, n) tt ∷ [])) (page tt (item (hall, n) tt ∷ [])) × (length (root_of (item (hall, n) tt ∷ [])) ≡ sector_size)
root-entry n l = page-written 0 (page tt (item (hall, n) tt ∷ [])) (omega arith, omega arith, ((omega arith, omega arith, omega arith), tt))

all-long : (n : ℕ) (third : Contents) → n < 12 → length third ≡ sector_size → Sized 12 (shown_to n third)
unfolding blank
all-long n third l e s _ = cond_both (s == 1) _ (cond (s == 2) (sector_in 2) (cond (s == 3) third blank)) (λ (c : Contents). length c ≡ sector_size) (λ _. (root-entry n l).1) (λ _.
    cond_both (s == 2) (sector_in 2) (cond (s == 3) third blank) (λ (c : Contents). length c ≡ sector_size) (λ _. refl) (λ _. cond_both (s == 3) third blank (λ (c : Contents). length c ≡ sector_size) (λ _. e) (λ _. refl)))

both-sized : Sized 12 (shown_to 2 blank)
unfolding blank
both-sized = all-long 2 blank (omega arith) refl

taken-sized : Sized 12 (shown_to 3 (sector_in 3))
taken-sized = all-long 3 (sector_in 3) (omega arith) refl

file-laid : (shown : ℕ → Contents) (n : ℕ) → shown n ≡ sector_in n → n < 12 → FileAt shown n (file_in n)
file-laid shown n e l = head-written shown n hall (file_in n)
    (record { short = omega arith; fits = omega arith; parts = refl; tabs = refl; small = λ s i. small s i })
    (record { first = refl; head = ap (take header_size) e ∙ refl; far = λ k j a b. absurd (omega arith) })
  where
    small : (s : ℕ) → In s (n ∷ []) ⊎ In s [] → address s < 2 ^ 32
    small s (inl (inl f)) = omega arith
    small s (inl (inr i)) = absurd i
    small s (inr i) = absurd i

file-bytes : (shown : ℕ → Contents) (n : ℕ) → shown n ≡ sector_in n → first_bytes ≡ bytes_of shown (file_in n)
unfolding bytes_of range
file-bytes shown n e = rw e refl

abbrev catalog_to : ℕ → Catalog
catalog_to n = record { over = 0; root = (1, page tt (item (hall, n) tt ∷ [])); files = file_in n ∷ [] }

both-lays : Lays 12 (shown_to 2 blank) (catalog_to 2)
both-lays = record {
  root = refl;
  good = record { rises = (tt, tt); few = omega arith; filled = (omega arith, omega arith, tt, (tt, tt)) };
  names = (refl, tt);
  pages = ((root-entry 2 (omega arith)).0, (tt, (tt, tt)));
  files = (file-laid (shown_to 2 blank) 2 refl (omega arith), tt);
  once = distinct (1 ∷ 2 ∷ []) refl;
  within = within 1 12 (1 ∷ 2 ∷ []) refl;
}

taken-lays : Lays 12 (shown_to 3 (sector_in 3)) (catalog_to 3)
taken-lays = record {
  root = refl;
  good = record { rises = (tt, tt); few = omega arith; filled = (omega arith, omega arith, tt, (tt, tt)) };
  names = (refl, tt);
  pages = ((root-entry 3 (omega arith)).0, (tt, (tt, tt)));
  files = (file-laid (shown_to 3 (sector_in 3)) 3 refl (omega arith), tt);
  once = distinct (1 ∷ 3 ∷ []) refl;
  within = within 1 12 (1 ∷ 3 ∷ []) refl;
}

-- TABLES
abbrev new_table : Table
new_table = after (formatted 12) ((2, New hall) ∷ [])

abbrev written_table : Table
written_table = after new_table ((0, Write (at 0 0) first_bytes) ∷ [])

abbrev old_table : Table
old_table = after written_table ((0, Register 0) ∷ [])

abbrev second_table : Table
second_table = after old_table ((3, New hall) ∷ [])

old-proper : Proper old_table
old-proper =
    let n = turns (formatted 12) new_table (New hall) (Slotted 0) (formatted-proper 12 refl) (said (New hall) 2 (record { closed = λ s x e. absurd (no-slot s x e); unnamed = λ e i. absurd i })) in
    let w = turns new_table written_table (Write (at 0 0) first_bytes) (Wrote 5 (at 0 5)) n (said (Write (at 0 0) first_bytes) 0 refl) in
    turns written_table old_table (Register 0) Done w (said (Register 0) 0 refl)

both-proper : Proper both_table
both-proper =
    let n = turns old_table second_table (New hall) (Slotted 1) old-proper (said (New hall) 3 spare) in
    turns second_table both_table (Write (at 1 0) first_bytes) (Wrote 5 (at 1 5)) n (said (Write (at 1 0) first_bytes) 0 refl)
  where
    spare : Spare old_table 3
    spare = record { closed = apart; unnamed = λ e i q. elim i [ inl f ↦ (let r = ap (λ (z : _). z.1) f in absurd (omega (arith, r, q))) | inr j ↦ absurd j ] }
      where
        apart : (s : ℕ) (x : Slot) → slot_at old_table s ≡ Some x → x.file ≢ 3
        apart zero x e q = let r = ap (λ (y : Slot). y.file) (same_Some (record { file = 2; sort = Registered; name = hall; handles = 1 }) x e) in absurd (omega (arith, r, q))
        apart (suc s) x e q = none-later 7 s x e

abbrev left_table : Table
left_table = after taken_table ((0, Close 0) ∷ [])

take-turn : Turn both_table (Register 1) Done taken_table
take-turn = said (Register 1) 0 refl

leave-turn : Turn taken_table (Close 0) Done left_table
leave-turn = said (Close 0) 0 refl

taken-proper : Proper taken_table
taken-proper = turns both_table taken_table (Register 1) Done both-proper take-turn

-- STORES
unfoldable both-holds : Holds both_store both_table
both-holds =
    let v = seen both_store in
    record {
      size = refl;
      ready = refl;
      live = refl;
      slots = refl;
      free = refl;
      catalog = catalog_to 2;
      lays = both-lays;
      tree = refl;
      named = (refl, (λ e. absurd (omega (arith, e))), tt);
      extents = file_in 2 ∷ file_in 3 ∷ [];
      open' = ((file-laid v 2 refl (omega arith)).reaches, refl, file-bytes v 2 refl, ((file-laid v 3 refl (omega arith)).reaches, refl, file-bytes v 3 refl, tt));
      grown = λ x y i j e. grown x y i j e;
      apart = distinct (counting 4 8 ++ (1 ∷ 2 ∷ 3 ∷ [])) refl;
      inside = within 2 12 (counting 4 8 ++ (2 ∷ 3 ∷ [])) refl;
      proper = both-proper;
    }
  where
    grown : (x y : Extent) → In x (file_in 2 ∷ []) → In y (file_in 2 ∷ file_in 3 ∷ []) → slice_index x.parts 0 ≡ slice_index y.parts 0 → Grown x y
    grown x y (inl e) (inl f) q = rw (e, f) (refl, refl)
    grown x y (inl e) (inr (inl f)) q = absurd (omega (arith, q, ap (λ (z : Extent). slice_index z.parts 0) e, ap (λ (z : Extent). slice_index z.parts 0) f))
    grown x y (inl e) (inr (inr i)) q = absurd i
    grown x y (inr i) j q = absurd i

unfoldable taken-holds : Holds taken_store taken_table
taken-holds =
    let v = seen taken_store in
    record {
      size = refl;
      ready = refl;
      live = refl;
      slots = refl;
      free = refl;
      catalog = catalog_to 3;
      lays = taken-lays;
      tree = refl;
      named = (refl, (λ e. absurd (omega (arith, e))), tt);
      extents = file_in 2 ∷ file_in 3 ∷ [];
      open' = ((file-laid v 2 refl (omega arith)).reaches, refl, file-bytes v 2 refl, ((file-laid v 3 refl (omega arith)).reaches, refl, file-bytes v 3 refl, tt));
      grown = λ x y i j e. grown x y i j e;
      apart = distinct (counting 4 8 ++ (1 ∷ 2 ∷ 3 ∷ [])) refl;
      inside = within 2 12 (counting 4 8 ++ (2 ∷ 3 ∷ [])) refl;
      proper = taken-proper;
    }
  where
    grown : (x y : Extent) → In x (file_in 3 ∷ []) → In y (file_in 2 ∷ file_in 3 ∷ []) → slice_index x.parts 0 ≡ slice_index y.parts 0 → Grown x y
    grown x y (inl e) (inl f) q = absurd (omega (arith, q, ap (λ (z : Extent). slice_index z.parts 0) e, ap (λ (z : Extent). slice_index z.parts 0) f))
    grown x y (inl e) (inr (inl f)) q = rw (e, f) (refl, refl)
    grown x y (inl e) (inr (inr i)) q = absurd i
    grown x y (inr i) j q = absurd i

unfoldable left-holds : Holds left_store left_table
left-holds =
    let v = seen left_store in
    record {
      size = refl;
      ready = refl;
      live = refl;
      slots = refl;
      free = refl;
      catalog = catalog_to 3;
      lays = taken-lays;
      tree = refl;
      named = (refl, (λ e. absurd (omega (arith, e))), tt);
      extents = file_in 3 ∷ [];
      open' = ((file-laid v 3 refl (omega arith)).reaches, refl, file-bytes v 3 refl, tt);
      grown = λ x y i j e. grown x y i j;
      apart = distinct (counting 4 8 ++ (1 ∷ 3 ∷ [])) refl;
      inside = within 2 12 (counting 4 8 ++ (3 ∷ [])) refl;
      proper = turns taken_table left_table (Close 0) Done taken-proper leave-turn;
    }
  where
    grown : (x y : Extent) → In x (file_in 3 ∷ []) → In y (file_in 3 ∷ []) → Grown x y
    grown x y (inl e) (inl f) = rw (e, f) (refl, refl)
    grown x y (inl e) (inr i) = absurd i
    grown x y (inr i) j = absurd i

-- CALLS
head-in : (n : ℕ) (sort : Sort) (f : ℕ → File) (shown : ℕ → Contents) → (f n).bytes ≡ first_bytes → shown n ≡ sector_in n → n < 12 → (o : Open) → open_in n sort ≡ Some o → Head o (f o.slot.file) shown
head-in n sort f shown b e l o q =
    let x : Open = record { slot = record { file = n; sort = sort; name = hall; handles = 1 }; long = 5; first = sector_in n } in
    subst (λ (y : Open). Head y (f y.slot.file) shown) (same_Some x o q) (record {
      extent = file_in n;
      long = refl;
      header = ap (take header_size) e ∙ refl;
      reaches = (file-laid shown n e l).reaches;
      bytes = sym (b ∙ file-bytes shown n e);
    })

unput-in : (v v' : View) (n : ℕ) (sort : Sort) (o : Open) → Unput v v' n → open_in n sort ≡ Some o → Unput v v' o.slot.file
unput-in v v' n sort o u q = subst (λ (y : Open). Unput v v' y.slot.file) (same_Some (record { slot = record { file = n; sort = sort; name = hall; handles = 1 }; long = 5; first = sector_in n }) o q) u

take-turns : (h : Holds both_store both_table) → Turned both_store both_table h (Register 1) Done taken_store
unfolding both-holds taken-holds
take-turns h =
    turning 12 true both_store.disk (shown_to 3 (sector_in 3)) both_store.slots taken_store.slots (counting 4 8) (counting 4 8) both_table h refl (λ e. e) (Register 1) taken_table refl take-turn refl taken-holds
    (took-by both_store taken_store both_table both_table taken_table taken_table both-sized taken-sized h both-holds taken-holds (λ s i. inr i))
    (λ s i. inl i) head (λ s o n e. others s o n e)
    (λ e i o. stays e (subst (λ (c : Catalog). In e (entries c)) (catalog-one both_store both_table both_table both-sized h both-holds) i))
    (directory-by both_store taken_store both_table both_table taken_table taken_table both-sized taken-sized h both-holds taken-holds
    (λ c d. (length (outside (page_sectors c) (page_sectors d)) ≡ changes both_table taken_table.tree) × DirectoryPut c (shown_to 2 blank) (shown_to 3 (sector_in 3)) d) (refl, (inr refl, (tt, (tt, tt)))))
  where
    head : (s : ℕ) (o : Open) → closes (Register 1) ≡ Some s → get_or both_store.slots s None ≡ Some o → Head o (taken_table.files o.slot.file) (shown_to 3 (sector_in 3))
    head zero o e f = let q = same_Some 1 0 e in absurd (omega (arith, q))
    head (suc zero) o e f = head-in 3 Anonymous taken_table.files (shown_to 3 (sector_in 3)) refl refl (omega arith) o f
    head (suc (suc s)) o e f = absurd (none-later 6 s o f)

    stays : (e : Entry Key) → In e ((hall, 2) ∷ []) → Unput both_store taken_store e.1
    stays e (inl q) = subst (λ (d : Entry Key). Unput both_store taken_store d.1) (sym q) (refl, λ x j. j)
    stays e (inr i) = absurd i

    others : (s : ℕ) (o : Open) → closes (Register 1) ≢ Some s → (get_or both_store.slots s None ≡ Some o) ⊎ (get_or taken_store.slots s None ≡ Some o) → Unput both_store taken_store o.slot.file
    others zero o n (inl f) = unput-in both_store taken_store 2 Registered o (refl, λ x i. i) f
    others zero o n (inr f) = unput-in both_store taken_store 2 Registered o (refl, λ x i. i) f
    others (suc zero) o n e = absurd (n refl)
    others (suc (suc s)) o n (inl f) = absurd (none-later 6 s o f)
    others (suc (suc s)) o n (inr f) = absurd (none-later 6 s o f)

leave-turns : (h : Holds taken_store taken_table) → Turned taken_store taken_table h (Close 0) Done left_store
unfolding taken-holds left-holds
leave-turns h =
    turning 12 true taken_store.disk (shown_to 3 (sector_in 3)) taken_store.slots left_store.slots (counting 4 8) (counting 4 8) taken_table h refl (λ e. e) (Close 0) left_table refl leave-turn refl left-holds
    (took-by taken_store left_store taken_table taken_table left_table left_table taken-sized taken-sized h taken-holds left-holds (λ s i. inr (took s i)))
    (λ s i. inl i) head (λ s o n e. (refl, λ x i. i)) (λ e i o. (refl, λ x j. j))
    (directory-by taken_store left_store taken_table taken_table left_table left_table taken-sized taken-sized h taken-holds left-holds
    (λ c d. (length (outside (page_sectors c) (page_sectors d)) ≡ changes taken_table left_table.tree) × DirectoryPut c (shown_to 3 (sector_in 3)) (shown_to 3 (sector_in 3)) d) (refl, (inl refl, (tt, (tt, tt)))))
  where
    took : (s : ℕ) → In s (1 ∷ 3 ∷ []) → In s (1 ∷ 2 ∷ 3 ∷ [])
    took s (inl e) = inl e
    took s (inr i) = inr (inr i)

    head : (s : ℕ) (o : Open) → closes (Close 0) ≡ Some s → get_or taken_store.slots s None ≡ Some o → Head o (left_table.files o.slot.file) (shown_to 3 (sector_in 3))
    head zero o e f = head-in 2 Registered left_table.files (shown_to 3 (sector_in 3)) refl refl (omega arith) o f
    head (suc s) o e f = let q = same_Some 0 (suc s) e in absurd (omega (arith, q))

pub replacing : Replacing
replacing = record { both = both-holds; take = take-turns; leave = leave-turns }
