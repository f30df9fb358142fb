-- Calls by which a file grows, each as it is promised.
use Rattle.promise.proofs.Holding.{catalog-one}
use Rattle.numbers.specs.Names.{Key}
use Rattle.std.proofs.Common.{◌≡◌, ℕ, zero, suc, ◌^◌, ◌<◌, true, ◌⊎◌, [], ◌∷◌, ◌++◌, length, get_or, take, replicate, Some, None, sym, refl, ap, ◌∙◌, subst, inl, inr, arith}
use Rattle.std.specs.Prelude.{◌==◌, ◌≢◌}
use Rattle.std.proofs.lemmas.Bool.{cond_both}
use Rattle.std.proofs.lemmas.Option.{same_Some}
use Rattle.numbers.specs.Lengths.{sector_size, header_size}
use Rattle.numbers.specs.Sectors.{address}
use Rattle.tree.specs.Tree.{Entry}
use Rattle.disk.specs.Meaning.{Contents, In}
use Rattle.catalog.specs.Catalogs.{Extent, page_sectors, outside, bytes_of, range, Catalog, entries}
use Rattle.catalog.specs.Lays.{FileAt, Lays}
use Rattle.catalog.specs.Laws.{Sized}
use Rattle.catalog.proofs.Written.{head-written}
use Rattle.promise.specs.declared.fault.FileFault.TheVariants.{NoRoom}
use Rattle.promise.specs.declared.fault.FileFault.{FileFault}
use Rattle.promise.specs.Table.{Slot, Table, New, Write, Register, Close, Done, Slotted, Wrote, No, Registered, slot_at, changes, formatted, Spare, Turn, said, Proper, holder, slot_count}
use Rattle.promise.specs.Promise.{Open}
use Rattle.promise.specs.Calls.{seen, Grown, closes, Head, Unput, DirectoryPut, Holds, Turned}
use Rattle.promise.specs.Examples.{after, at, hall, counting}
use Rattle.promise.specs.Witnesses.{contents, in_second, hall_sector, first_bytes, hall_entry, none_open}
use Rattle.promise.specs.Growing.{more_bytes, in_two, longer_sector, with_third, short_shown, grown_disk, longer_shown, short_store, longer_open, grown_store, longer_store, short_table, grown_table, Growing}
use Rattle.promise.proofs.StayProper.{turns, formatted-proper}
use Rattle.promise.proofs.Slots.{no-slot}
use Rattle.promise.proofs.Turning.{false-true, took-by, directory-by, quiet, turning}
use Rattle.promise.proofs.Witnesses.{none-later, first-only}
use Rattle.promise.proofs.Cards.{either-in, distinct, within, root-hall, contents-long, hall-laid, hall-long, hall-bytes, one_file, lays-one}

-- SECTORS
third-long : (shown : ℕ → Contents) → ((s : ℕ) → length (shown s) ≡ sector_size) → (s : ℕ) → length (with_third shown s) ≡ sector_size
third-long shown f s = cond_both (s == 3) (7 ∷ replicate 1023 0) (shown s) (λ (c : Contents). length c ≡ sector_size) (λ e. refl) (λ e. f s)

short-sized : Sized 12 short_shown
short-sized s l = contents-long hall_entry (hall_sector 5 first_bytes) root-hall.1 hall-long s

grown-sized : Sized 12 (with_third short_shown)
grown-sized s l = third-long short_shown (contents-long hall_entry (hall_sector 5 first_bytes) root-hall.1 hall-long) s

longer-long : length longer_sector ≡ sector_size
longer-long = refl

longer-sized : Sized 12 longer_shown
longer-sized s l = third-long (contents hall_entry longer_sector) (contents-long hall_entry longer_sector root-hall.1 longer-long) s

two-laid : (shown : ℕ → Contents) → shown 2 ≡ longer_sector → FileAt shown 2 in_two
two-laid shown e = head-written shown 2 hall in_two
    (record { short = omega arith; fits = omega arith; parts = refl; tabs = refl; small = λ s i. small s i })
    (record { first = refl; head = ap (take header_size) e ∙ refl; far = λ k j a b. absurd (omega arith) })
  where
    small : (s : ℕ) → In s (2 ∷ 3 ∷ []) ⊎ In s [] → address s < 2 ^ 32
    small s (inl (inl f)) = omega arith
    small s (inl (inr (inl f))) = omega arith
    small s (inl (inr (inr i))) = absurd i
    small s (inr i) = absurd i

grown-bytes : (grown_table.files 2).bytes ≡ bytes_of (seen grown_store) in_two
unfolding bytes_of range
grown-bytes = refl

longer-bytes : (grown_table.files 2).bytes ≡ bytes_of longer_shown in_two
unfolding bytes_of range
longer-bytes = refl

-- TABLES
abbrev new_table : Table
new_table = after (formatted 12) ((2, New hall) ∷ [])

abbrev written_table : Table
written_table = after new_table ((0, Write (at 0 0) first_bytes) ∷ [])

abbrev longer_table : Table
longer_table = after grown_table ((0, Close 0) ∷ [])

short-proper : Proper short_table
short-proper =
    let n = turns (formatted 12) new_table (New hall) (Slotted 0) (formatted-proper 12 refl) (said (New hall) 2 (record { closed = λ s x e. absurd (no-slot s x e); unnamed = λ e i. absurd i })) in
    let w = turns new_table written_table (Write (at 0 0) first_bytes) (Wrote 5 (at 0 5)) n (said (Write (at 0 0) first_bytes) 0 refl) in
    turns written_table short_table (Register 0) Done w (said (Register 0) 0 refl)

write-turn : Turn short_table (Write (at 0 5) more_bytes) (Wrote 668 (at 0 673)) grown_table
write-turn = said (Write (at 0 5) more_bytes) 0 refl

grown-proper : Proper grown_table
grown-proper = turns short_table grown_table (Write (at 0 5) more_bytes) (Wrote 668 (at 0 673)) short-proper write-turn

close-turn : Turn grown_table (Close 0) Done longer_table
close-turn = said (Close 0) 0 refl

-- STORES
one-grown : (x y : Extent) → Grown x y → (a b : Extent) → In a (x ∷ []) → In b (y ∷ []) → Grown a b
one-grown x y g a b (inl e) (inl f) = rw (e, f) g
one-grown x y g a b (inl e) (inr i) = absurd i
one-grown x y g a b (inr i) j = absurd i

short-lays : (shown : ℕ → Contents) → shown 1 ≡ short_shown 1 → shown 2 ≡ hall_sector 5 first_bytes → Lays 12 shown (one_file (in_second 5))
short-lays shown e f = lays-one 12 shown (in_second 5) e (hall-laid shown 5 first_bytes f (omega arith) refl) refl refl

unfoldable short-holds : Holds short_store short_table
short-holds = record {
  size = refl;
  ready = refl;
  live = refl;
  slots = refl;
  free = refl;
  catalog = one_file (in_second 5);
  lays = short-lays short_shown refl refl;
  tree = refl;
  named = (refl, (λ _. hall-bytes short_shown refl), tt);
  extents = in_second 5 ∷ [];
  open' = ((hall-laid (seen short_store) 5 first_bytes refl (omega arith) refl).reaches, refl, hall-bytes (seen short_store) refl, tt);
  grown = λ x y i j e. one-grown (in_second 5) (in_second 5) (refl, refl) x y i j;
  apart = distinct (counting 3 9 ++ (1 ∷ 2 ∷ [])) refl;
  inside = within 2 12 (counting 3 9 ++ (2 ∷ [])) refl;
  proper = short-proper;
}

unfoldable grown-holds : Holds grown_store grown_table
grown-holds = record {
  size = refl;
  ready = refl;
  live = refl;
  slots = refl;
  free = refl;
  catalog = one_file (in_second 5);
  lays = short-lays (with_third short_shown) refl refl;
  tree = refl;
  named = (refl, (λ e. absurd (omega (arith, e))), tt);
  extents = in_two ∷ [];
  open' = ((two-laid (seen grown_store) refl).reaches, refl, grown-bytes, tt);
  grown = λ x y i j e. one-grown (in_second 5) in_two (refl, refl) x y i j;
  apart = distinct (counting 4 8 ++ (1 ∷ 2 ∷ 3 ∷ [])) refl;
  inside = within 2 12 (counting 4 8 ++ (2 ∷ 3 ∷ [])) refl;
  proper = grown-proper;
}

unfoldable longer-holds : Holds longer_store longer_table
longer-holds = record {
  size = refl;
  ready = refl;
  live = refl;
  slots = refl;
  free = refl;
  catalog = one_file in_two;
  lays = lays-one 12 longer_shown in_two refl (two-laid longer_shown refl) refl refl;
  tree = refl;
  named = (refl, (λ _. longer-bytes), tt);
  extents = [];
  open' = tt;
  grown = λ x y i j e. absurd j;
  apart = distinct (counting 4 8 ++ (1 ∷ 2 ∷ 3 ∷ [])) refl;
  inside = within 2 12 (counting 4 8) refl;
  proper = turns grown_table longer_table (Close 0) Done grown-proper close-turn;
}

-- CALLS
write-turns : (h : Holds short_store short_table) → Turned short_store short_table h (Write (at 0 5) more_bytes) (Wrote 668 (at 0 673)) grown_store
unfolding short-holds grown-holds
write-turns h = record {
  table = grown_table;
  turn = write-turn;
  ready = refl;
  holds = λ _. grown-holds;
  new = λ n s e f. absurd (not-new s f);
  took = took-by short_store grown_store short_table short_table grown_table grown_table short-sized grown-sized h short-holds grown-holds (either-in (counting 3 9) (1 ∷ 2 ∷ []) (1 ∷ 2 ∷ 3 ∷ []) refl);
  freed = λ _ s i. inl (inr i);
  answered = record { lost = (λ e. false-true e, λ e. false-true (sym e)); accepts = λ _ _. refl; calm = λ e. e; size = refl };
  unput = λ r e b. absurd (not-no r e);
  settled = λ e. absurd (not-done e);
  head = λ s o e f d. absurd (not-done d);
  still = λ e. false-true (sym e);
  others = λ s o n e. others s o e;
  unopened = λ e i o. stays e (subst (λ (c : Catalog). In e (entries c)) (catalog-one short_store short_table short_table short-sized h short-holds) i);
  moved = λ k. (directory k).0;
  pages = λ k. (directory k).1;
}
  where
    not-done : Wrote 668 (at 0 673) ≡ Done → ⊥
    not-done e = cc

    not-new : (s : ℕ) → Wrote 668 (at 0 673) ≡ Slotted s → ⊥
    not-new s e = cc

    not-no : (r : FileFault) → Wrote 668 (at 0 673) ≡ No r → ⊥
    not-no r e = cc

    unput : Unput short_store grown_store 2
    unput = (refl, λ x i. elim i [ inl e ↦ inl e | inr j ↦ j ])

    stays : (e : Entry Key) → In e ((hall, 2) ∷ []) → Unput short_store grown_store e.1
    stays e (inl q) = subst (λ (d : Entry Key). Unput short_store grown_store d.1) (sym q) unput
    stays e (inr i) = absurd i

    directory : (k : Holds grown_store grown_table) → (length (outside (page_sectors h.catalog) (page_sectors k.catalog)) ≡ changes short_table grown_table.tree) × DirectoryPut h.catalog short_store.disk.shown grown_store.disk.shown k.catalog
    directory = directory-by short_store grown_store short_table short_table grown_table grown_table short-sized grown-sized h short-holds grown-holds
        (λ c d. (length (outside (page_sectors c) (page_sectors d)) ≡ changes short_table grown_table.tree) × DirectoryPut c short_store.disk.shown grown_store.disk.shown d) (refl, (inl refl, (tt, (tt, tt))))

    others : (s : ℕ) (o : Open) → (get_or short_store.slots s None ≡ Some o) ⊎ (get_or grown_store.slots s None ≡ Some o) → Unput short_store grown_store o.slot.file
    others zero o (inl e) = subst (λ (x : Open). Unput short_store grown_store x.slot.file) (same_Some (record { slot = record { file = 2; sort = Registered; name = hall; handles = 1 }; long = 5; first = hall_sector 5 first_bytes }) o e) unput
    others zero o (inr e) = subst (λ (x : Open). Unput short_store grown_store x.slot.file) (same_Some (record { slot = record { file = 2; sort = Registered; name = hall; handles = 1 }; long = 673; first = longer_sector }) o e) unput
    others (suc s) o e = absurd (elim e [ inl a ↦ none-later 7 s o a | inr a ↦ none-later 7 s o a ])

refused-turns : (h : Holds grown_store grown_table) → Turned grown_store grown_table h (New []) (No NoRoom) grown_store
unfolding grown-holds
refused-turns h = quiet grown_disk longer_open longer_open (counting 4 8) (counting 4 8) grown_table h (New []) (No NoRoom) grown_table (said (New []) 4 spare) refl h refl refl (λ e. cc)
    (λ n s e g. absurd (not-slotted s g)) (took-by grown_store grown_store grown_table grown_table grown_table grown_table grown-sized grown-sized h h h (λ s i. inr i)) (λ s i. i)
    (directory-by grown_store grown_store grown_table grown_table grown_table grown_table grown-sized grown-sized h grown-holds grown-holds
    (λ c d. (length (outside (page_sectors c) (page_sectors d)) ≡ changes grown_table grown_table.tree) × DirectoryPut c grown_disk.shown grown_disk.shown d) (refl, (inl refl, (tt, (tt, tt)))))
  where
    not-slotted : (s : ℕ) → No NoRoom ≡ Slotted s → ⊥
    not-slotted s e = cc

    spare : Spare grown_table 4
    spare = record { closed = apart; unnamed = λ e i q. elim i [ inl f ↦ (let r = ap (λ (z : _). z.1) f in absurd (omega (arith, r, q))) | inr j ↦ absurd j ] }
      where
        apart : (s : ℕ) (x : Slot) → slot_at grown_table s ≡ Some x → x.file ≢ 4
        apart zero x e q = let r = ap (λ (y : Slot). y.file) (same_Some (record { file = 2; sort = Registered; name = hall; handles = 1 }) x e) in absurd (omega (arith, r, q))
        apart (suc s) x e q = none-later 7 s x e

close-turns : (h : Holds grown_store grown_table) → Turned grown_store grown_table h (Close 0) Done longer_store
unfolding grown-holds longer-holds
close-turns h =
    turning 12 true grown_disk longer_shown longer_open none_open (counting 4 8) (counting 4 8) grown_table h refl (λ e. e) (Close 0) longer_table refl close-turn refl longer-holds
    (took-by grown_store longer_store grown_table grown_table longer_table longer_table grown-sized longer-sized h grown-holds longer-holds (λ s i. inr i))
    (λ s i. inl i) head
    (λ s o n e. absurd (elim e [ inl a ↦ first-only _ s o n a | inr a ↦ none-later 8 s o a ]))
    (λ e i o. stays e (subst (λ (c : Catalog). In e (entries c)) (catalog-one grown_store grown_table grown_table grown-sized h grown-holds) i) o)
    (directory-by grown_store longer_store grown_table grown_table longer_table longer_table grown-sized longer-sized h grown-holds longer-holds
    (λ c d. (length (outside (page_sectors c) (page_sectors d)) ≡ changes grown_table longer_table.tree) × DirectoryPut c (with_third short_shown) longer_shown d) (refl, (inl refl, (tt, (tt, tt)))))
  where
    -- a slot holds it
    stays : (e : Entry Key) → In e ((hall, 2) ∷ []) → holder e.1 grown_table.slots ≡ slot_count → Unput grown_store longer_store e.1
    stays e (inl q) o = let z : ◌≡◌ {A = ℕ} 0 8 = subst (λ (d : Entry Key). holder d.1 grown_table.slots ≡ slot_count) q o in absurd (omega (arith, z))
    stays e (inr i) o = absurd i

    head : (s : ℕ) (o : Open) → closes (Close 0) ≡ Some s → get_or longer_open s None ≡ Some o → Head o (longer_table.files o.slot.file) longer_shown
    head s o e f =
        let x : Open = record { slot = record { file = 2; sort = Registered; name = hall; handles = 1 }; long = 673; first = longer_sector } in
        let q : x ≡ o = same_Some x o (subst (λ (n : ℕ). get_or longer_open n None ≡ Some o) (sym (same_Some 0 s e)) f) in
        subst (λ (y : Open). Head y (longer_table.files y.slot.file) longer_shown) q (record { extent = in_two; long = refl; header = refl; reaches = (two-laid longer_shown refl).reaches; bytes = sym longer-bytes })

pub growing : Growing
growing = record { short = short-holds; write = write-turns; refused = refused-turns; close = close-turns }
