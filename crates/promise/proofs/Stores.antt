-- Stores on the small card, and the tables that they hold.
use Rattle.std.proofs.Common.{◌≡◌, ℕ, Bool, true, List, [], ◌∷◌, ◌++◌, map, length, Option, refl, ◌∙◌, inl, inr, arith}
use Rattle.numbers.specs.Names.{Key}
use Rattle.layout.specs.Words.{blank}
use Rattle.tree.specs.Tree.{Tree, page, empty}
use Rattle.disk.specs.Meaning.{Contents, In}
use Rattle.catalog.specs.Catalogs.{Extent, extents_sectors}
use Rattle.promise.specs.Table.{File, Anonymous, Registered, Table, Proper, formatted}
use Rattle.promise.specs.Promise.{Open}
use Rattle.promise.specs.Calls.{slot_in, seen, OpenAs, uses, Grown, Holds}
use Rattle.promise.specs.Witnesses.{sector_count, disk_of, contents, in_second, hall_sector, first_bytes, hall_entry, none_open, hall_open, free_after, store, formatted_store, new_store, written_store, registered_store, closed_store, deleted_store}
use Rattle.promise.proofs.StayProper.{formatted-proper}
use Rattle.promise.proofs.Cards.{all_apart, distinct, all_within, within, hall-laid, no-bytes, hall-bytes, empty_catalog, lays-empty, hall_catalog, lays-hall}

abbrev pub table_of : Tree Key → List (Option Open) → List ℕ → (ℕ → File) → Table
table_of tree os free files = record { ready = true; tree = tree; files = files; slots = map slot_in os; free = length free }

abbrev pub hall_tree : Tree Key
hall_tree = record { over = 0; root = page tt hall_entry }

module _ (calm : Bool) (os : List (Option Open)) (free : List ℕ) (xs : List Extent) (g : ℕ → File) where
  -- over an empty root
  module _ (second : Contents) where
    unfoldable pub over-empty : OpenAs (seen (store os free (disk_of calm (contents [] second)))) (table_of (empty Key) os free g) os xs →
        all_apart (free ++ (1 ∷ extents_sectors xs)) ≡ true → all_within 2 sector_count (free ++ extents_sectors xs) ≡ true → Proper (table_of (empty Key) os free g) →
        Holds (store os free (disk_of calm (contents [] second))) (table_of (empty Key) os free g)
    over-empty o a w p = record {
      size = refl;
      ready = refl;
      live = refl;
      slots = refl;
      free = refl;
      catalog = empty_catalog;
      lays = lays-empty second;
      tree = refl;
      named = tt;
      extents = xs;
      open' = o;
      grown = λ x y i j e. absurd i;
      apart = distinct (free ++ (1 ∷ extents_sectors xs)) a;
      inside = within 2 sector_count (free ++ extents_sectors xs) w;
      proper = p;
    }

  -- over a root that leads to Hall.IR
  unfoldable pub over-hall : (g 2).closed ≡ 5 → (g 2).bytes ≡ first_bytes →
      OpenAs (seen (store os free (disk_of calm (contents hall_entry (hall_sector 5 first_bytes))))) (table_of hall_tree os free g) os xs → ((y : Extent) → In y xs → y ≡ in_second 5) →
      all_apart (free ++ uses (table_of hall_tree os free g) hall_catalog xs) ≡ true → all_within 2 sector_count (free ++ extents_sectors xs) ≡ true → Proper (table_of hall_tree os free g) →
      Holds (store os free (disk_of calm (contents hall_entry (hall_sector 5 first_bytes)))) (table_of hall_tree os free g)
  over-hall c b o y a w p = record {
    size = refl;
    ready = refl;
    live = refl;
    slots = refl;
    free = refl;
    catalog = hall_catalog;
    lays = lays-hall;
    tree = refl;
    named = (c, (λ _. b ∙ hall-bytes (contents hall_entry (hall_sector 5 first_bytes)) refl), tt);
    extents = xs;
    open' = o;
    grown = λ x z i j e. grown x z i j;
    apart = distinct (free ++ uses (table_of hall_tree os free g) hall_catalog xs) a;
    inside = within 2 sector_count (free ++ extents_sectors xs) w;
    proper = p;
  }
    where
      grown : (x z : Extent) → In x (in_second 5 ∷ []) → In z xs → Grown x z
      grown x z (inl e) j = let f = y z j in rw (e, f) (refl, refl)
      grown x z (inr i) j = absurd i

unfoldable pub formatted-holds : (calm : Bool) → Holds (formatted_store calm) (formatted sector_count)
unfolding over-empty
formatted-holds calm = over-empty calm none_open (2 ∷ free_after) [] (formatted sector_count).files blank tt refl refl (formatted-proper sector_count refl)

module _ (calm : Bool) (g : ℕ → File) where
  unfoldable pub new-holds : (g 2).bytes ≡ [] → Proper (table_of (empty Key) (hall_open Anonymous 0 []) free_after g) → Holds (new_store calm) (table_of (empty Key) (hall_open Anonymous 0 []) free_after g)
  unfolding over-empty
  new-holds e p =
      let seen_now = seen (new_store calm) in
      over-empty calm (hall_open Anonymous 0 []) free_after (in_second 0 ∷ []) g blank ((hall-laid seen_now 0 [] refl (omega arith) refl).reaches, refl, e ∙ no-bytes seen_now, tt) refl refl p

  unfoldable pub written-holds : (g 2).bytes ≡ first_bytes → Proper (table_of (empty Key) (hall_open Anonymous 5 first_bytes) free_after g) → Holds (written_store calm) (table_of (empty Key) (hall_open Anonymous 5 first_bytes) free_after g)
  unfolding over-empty
  written-holds e p =
      let seen_now = seen (written_store calm) in
      over-empty calm (hall_open Anonymous 5 first_bytes) free_after (in_second 5 ∷ []) g blank
      ((hall-laid seen_now 5 first_bytes refl (omega arith) refl).reaches, refl, e ∙ hall-bytes seen_now refl, tt) refl refl p

  unfoldable pub registered-holds : (g 2).closed ≡ 5 → (g 2).bytes ≡ first_bytes → Proper (table_of hall_tree (hall_open Registered 5 first_bytes) free_after g) → Holds (registered_store calm) (table_of hall_tree (hall_open Registered 5 first_bytes) free_after g)
  unfolding over-hall
  registered-holds c e p =
      let seen_now = seen (registered_store calm) in
      over-hall calm (hall_open Registered 5 first_bytes) free_after (in_second 5 ∷ []) g c e
      ((hall-laid seen_now 5 first_bytes refl (omega arith) refl).reaches, refl, e ∙ hall-bytes seen_now refl, tt) only refl refl p
    where
      only : (y : Extent) → In y (in_second 5 ∷ []) → y ≡ in_second 5
      only y (inl q) = q
      only y (inr i) = absurd i

  unfoldable pub closed-holds : (g 2).closed ≡ 5 → (g 2).bytes ≡ first_bytes → Proper (table_of hall_tree none_open free_after g) → Holds (closed_store calm) (table_of hall_tree none_open free_after g)
  unfolding over-hall
  closed-holds c e p = over-hall calm none_open free_after [] g c e tt (λ y i. absurd i) refl refl p

  unfoldable pub deleted-holds : Proper (table_of (empty Key) none_open free_after g) → Holds (deleted_store calm) (table_of (empty Key) none_open free_after g)
  unfolding over-empty
  deleted-holds p = over-empty calm none_open free_after [] g (hall_sector 5 first_bytes) tt refl refl p
