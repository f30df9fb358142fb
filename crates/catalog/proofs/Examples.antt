-- The worked examples, computed.
use Rattle.std.proofs.Common.{◌≡◌, ℕ, Err, refl, ap}
use Rattle.disk.specs.Meaning.{Contents}
use Rattle.catalog.specs.declared.fault.LayoutFault.{LayoutFault}
use Rattle.catalog.specs.Catalogs.{range}
use Rattle.catalog.specs.Questions.{asked, given, catalog, found, ask_table, ask_file, first_leaf, ask_page, extent, laid}
use Rattle.catalog.specs.Examples.{Accepted, BadSizes, BadMarks, BadCounts, BadAddresses, MetTwice, BadLevels, BadEntries, BadLengths, Examples}

-- a no is found by asking alone
by_no : (size : ℕ) (shown : ℕ → Contents) (e : LayoutFault) → asked size shown ≡ Err e → found size shown ≡ Err e
unfolding found
by_no size shown e h = ap (given size shown (catalog size shown)) h

accepted : Accepted
unfolding found asked catalog ask_table ask_file first_leaf ask_page extent laid range
accepted = record { fewest = refl; most = refl; two = refl; long = refl }

sizes : BadSizes
unfolding asked ask_table ask_file first_leaf ask_page range
sizes = record { few = by_no _ _ _ refl; many = by_no _ _ _ refl }

marks : BadMarks
unfolding asked ask_table ask_file first_leaf ask_page range
marks = record { root = by_no _ _ _ refl; not_zero = by_no _ _ _ refl; other = by_no _ _ _ refl; file = by_no _ _ _ refl }

counts : BadCounts
unfolding asked ask_table ask_file first_leaf ask_page range
counts = record { leaf = by_no _ _ _ refl; parent_few = by_no _ _ _ refl; parent_many = by_no _ _ _ refl; other_few = by_no _ _ _ refl; other_many = by_no _ _ _ refl }

addresses : BadAddresses
unfolding asked ask_table ask_file first_leaf ask_page range
addresses = record {
  first_odd = by_no _ _ _ refl;
  first_root = by_no _ _ _ refl;
  first_past = by_no _ _ _ refl;
  file = by_no _ _ _ refl;
  below_leaf = by_no _ _ _ refl;
  below_none = by_no _ _ _ refl;
  own = by_no _ _ _ refl;
  near = by_no _ _ _ refl;
  near_past = by_no _ _ _ refl;
  extension = by_no _ _ _ refl;
  extension_past = by_no _ _ _ refl;
  table = by_no _ _ _ refl;
}

met : MetTwice
unfolding asked ask_table ask_file first_leaf ask_page range
met = record { first = by_no _ _ _ refl; file = by_no _ _ _ refl; below = by_no _ _ _ refl; near = by_no _ _ _ refl; extension = by_no _ _ _ refl; table = by_no _ _ _ refl }

levels : BadLevels
unfolding asked ask_table ask_file first_leaf ask_page range
levels = record { five = by_no _ _ _ refl; leaf = by_no _ _ _ refl }

entries : BadEntries
unfolding asked ask_table ask_file first_leaf ask_page range
entries = record {
  empty = by_no _ _ _ refl;
  digit = by_no _ _ _ refl;
  not_filled = by_no _ _ _ refl;
  long = by_no _ _ _ refl;
  same = by_no _ _ _ refl;
  below = by_no _ _ _ refl;
  after_child = by_no _ _ _ refl;
  in_child = by_no _ _ _ refl;
}

lengths : BadLengths
unfolding asked ask_table ask_file first_leaf ask_page range
lengths = record { last = by_no _ _ _ refl; first_used = by_no _ _ _ refl; none_used = by_no _ _ _ refl; most_used = by_no _ _ _ refl }

pub examples : Examples
examples =
    record { accepted = accepted; sizes = sizes; marks = marks; counts = counts; addresses = addresses; met = met; levels = levels; entries = entries; lengths = lengths }
