-- The questions put to the contents of a disk's sectors, in their order: the first no is the answer, with the sector that held what was
-- asked.
use Rattle.std.specs.Prelude.{ℕ, zero, suc, ◌+◌, ◌-◌, ◌*◌, ◌/◌, ◌%◌, Bool, true, false, cond, not, ◌&&◌, ◌||◌, List, [], ◌∷◌, map, Ok, Err, Result, ◌==◌, nat_eq, nat_le, nat_lt}
use Rattle.numbers.specs.declared.sector.Sector.{Sector}
use Rattle.numbers.specs.Names.{Key, name_size, every, name_in, is_name_field}
use Rattle.numbers.specs.Order.{Cmp, below, same, above, cmp}
use Rattle.numbers.specs.Lengths.{length_of, good_end, tables, near_sectors, most_tables, table_sectors}
use Rattle.numbers.specs.Sectors.{address_step, address, leads}
use Rattle.layout.specs.declared.entry.PageKind.{PageKind}
use Rattle.layout.specs.declared.entry.PageKind.TheVariants.{Root, Other}
use Rattle.layout.specs.Words.{word_size, word, part}
use Rattle.layout.specs.Entries.{page_mark, page_mark_at, count_at, first_at, zeros_at, entries_at, entry_at, file_at, below_at, count_fits}
use Rattle.layout.specs.Headers.{file_mark, mark_at, last_at, used_at, tables_at, near_at}
use Rattle.tree.specs.Tree.{Entry, item, page, most_levels, flat}
use Rattle.disk.specs.Meaning.{Contents}
use Rattle.catalog.specs.declared.fault.LayoutFault.{LayoutFault}
use Rattle.catalog.specs.declared.fault.LayoutFault.TheVariants.{BadSize, BadMark, BadCount, BadAddress, MetBefore, BadLevel, BadEntry, BadLength}
use Rattle.catalog.specs.Catalogs.{Laid, Extent, Catalog, Row, bare, member, range}
use Rattle.catalog.specs.Lays.{root_sector}

-- 1: has the disk 3 to 16,384 sectors?
abbrev pub fewest_sectors : ℕ
fewest_sectors = 3

abbrev pub most_sectors : ℕ
most_sectors = 16384

abbrev pub good_size : ℕ → Bool
good_size size = nat_le fewest_sectors size && nat_le size most_sectors

-- so far: the sectors met, the last name, and the files found, the latest first
pub record Sofar : Type 0 where
  pub met : List ℕ
  pub last : Key
  pub listed : List Row

-- a question or several, put one after another
abbrev pub Step : Type 0
Step = Sofar → Result Sofar LayoutFault

abbrev pub ask : Bool → LayoutFault → Step
ask true r s = Ok s
ask false r s = Err r

abbrev pub onward : Step → Result Sofar LayoutFault → Result Sofar LayoutFault
onward f (Ok s) = f s
onward f (Err r) = Err r

infixl 20 ◌▸◌
abbrev pub ◌▸◌ : Step → Step → Step
◌▸◌ f g s = onward g (f s)

abbrev pub done : Step
done s = Ok s

-- of each number of a list
abbrev pub each : (ℕ → Step) → List ℕ → Step
each f [] s = Ok s
each f (i ∷ is) s = onward (each f is) (f i s)

-- the sector of that number
abbrev pub at : ℕ → Sector
at n = record { 0 = n }

-- 14: is the sector met for the first time?
abbrev pub meet : ℕ → ℕ → Step
meet holder n s = cond (member n s.met) (Err (MetBefore (at holder))) (Ok (record { met = n ∷ s.met; last = s.last; listed = s.listed }))

abbrev pub is_above : Cmp → Bool
is_above below = false
is_above same = false
is_above above = true

-- 16: is the name in a field good and above the last one?
abbrev pub rise : ℕ → List ℕ → Step
rise holder f s =
    cond (is_name_field f && is_above (cmp (name_in f) s.last)) (Ok (record { met = s.met; last = name_in f; listed = s.listed })) (Err (BadEntry (at holder)))

-- a file that passed its questions is found
abbrev pub list : Row → Step
list r s = Ok (record { met = s.met; last = s.last; listed = r ∷ s.listed })

-- the kind of a page on a level
abbrev pub kind_at : ℕ → PageKind
kind_at level = cond (level == 1) Root Other

module _ (size : ℕ) (shown : ℕ → Contents) where
  -- an address in the sector holder: 13 (0 just where none is due), 14, then what it leads to
  abbrev pub link : Bool → ℕ → ℕ → (ℕ → Step) → Step
  link true holder w f = ask (leads size w) (BadAddress (at holder)) ▸ meet holder (w / address_step) ▸ f (w / address_step)
  link false holder w f = ask (w == 0) (BadAddress (at holder))

  -- table k, in sector t, of a file whose last file sector is a: the addresses in use
  unfoldable pub ask_table : ℕ → ℕ → ℕ → Step
  ask_table a k t =
      each (λ (j : ℕ). cond (nat_le (near_sectors + table_sectors * k + j) a) (link true t (word (shown t) (word_size * j)) (λ n. done)) done) (range 0 table_sectors)

  -- a file: 11, 17, sector address 0 its own, sector addresses 1 to 63, each extension address with its table
  unfoldable pub ask_file : ℕ → Step
  ask_file s =
      let c = shown s in
      let a = word c last_at in
      ask (word c mark_at == file_mark) (BadMark (at s)) ▸
      ask (good_end a (word c used_at)) (BadLength (at s)) ▸
      ask (word c near_at == address s) (BadAddress (at s)) ▸
      each (λ (i : ℕ). link (nat_le i a) s (word c (near_at + word_size * i)) (λ n. done)) (range 1 63) ▸
      each (λ (k : ℕ). link (nat_lt k (tables a)) s (word c (tables_at + word_size * k)) (ask_table a k)) (range 0 most_tables)

  -- the length that a first sector tells
  abbrev pub length_at : ℕ → ℕ
  length_at s = length_of (word (shown s) last_at) (word (shown s) used_at)

  -- an entry's file: its questions; then it is found
  abbrev pub ask_entry : Key → ℕ → Step
  ask_entry name s = ask_file s ▸ list (record { name = name; first = s; long = length_at s })

  -- the first leaf's level: down the p0 of each page until one has none, n pages at most
  unfoldable pub first_leaf : ℕ → ℕ → ℕ → ℕ
  first_leaf zero level s = level
  first_leaf (suc n) level s = let p0 = word (shown s) first_at in cond (p0 == 0) level (first_leaf n (suc level) (p0 / address_step))

  abbrev pub leaf_level : ℕ
  leaf_level = first_leaf most_levels 1 root_sector

  -- a page: 11, 12, 15, p0, then of each entry 16, its file and p. A page whose p0 is 0 is a leaf, and belongs on level `deep`. No page on
  -- level 5 passes 15, so that n = 5 is enough
  unfoldable pub ask_page : ℕ → ℕ → ℕ → ℕ → Step
  ask_page deep zero level s = ask false (BadLevel (at s))
  ask_page deep (suc n) level s =
      let c = shown s in
      let m = word c count_at in
      let leaf = nat_eq (word c first_at) 0 in
      ask (word c page_mark_at == page_mark && every (λ b. nat_eq b 0) (part c zeros_at (entries_at - zeros_at))) (BadMark (at s)) ▸
      ask (count_fits (kind_at level) leaf m) (BadCount (at s)) ▸
      ask (nat_le level most_levels && (not leaf || level == deep)) (BadLevel (at s)) ▸
      link (not leaf) s (word c first_at) (ask_page deep n (suc level)) ▸
      (λ (st : Sofar). each (λ (i : ℕ).
      rise s (part c (entry_at i) name_size) ▸
      link true s (word c (entry_at i + file_at)) (ask_entry (name_in (part c (entry_at i) name_size))) ▸
      link (not leaf) s (word c (entry_at i + below_at)) (ask_page deep n (suc level))) (range 0 m) st)

  -- what the addresses lead to, unasked
  unfoldable pub extent : ℕ → Extent
  extent s =
      let c = shown s in
      let a = word c last_at in
      let tab : ℕ → ℕ = λ k. word c (tables_at + word_size * k) / address_step in
      record {
        long = length_at s;
        parts = map (λ (i : ℕ). cond (nat_lt i near_sectors) (word c (near_at + word_size * i))
            (word (shown (tab ((i - near_sectors) / table_sectors))) (word_size * ((i - near_sectors) % table_sectors))) / address_step) (range 0 (1 + a));
        tabs = map tab (range 0 (tables a));
      }

  unfoldable pub laid : (n : ℕ) → ℕ → Laid n
  laid zero s = tt
  laid (suc n) s =
      let c = shown s in (
        s,
        page (laid n (word c first_at / address_step)) (map (λ (i : ℕ). item (name_in (part c (entry_at i) name_size), word c (entry_at i + file_at) / address_step)
            (laid n (word c (entry_at i + below_at) / address_step))) (range 0 (word c count_at))),
      )

  unfoldable pub catalog : Catalog
  catalog =
      let over = leaf_level - 1 in
      let root = laid (suc over) root_sector in
      record { over = over; root = root; files = map (λ (e : Entry Key). extent e.1) (flat Key (suc over) (bare (suc over) root)) }

  -- all questions: the size, then the root page with all below it. The root is met first
  abbrev pub begin : ℕ → Sofar
  begin s = record { met = s ∷ []; last = []; listed = [] }

  unfoldable pub asked : Result Sofar LayoutFault
  asked = (ask (good_size size) BadSize ▸ ask_page leaf_level 5 1 root_sector) (begin root_sector)

  abbrev pub given : {A : Type 0} → A → Result Sofar LayoutFault → Result A LayoutFault
  given x (Ok s) = Ok x
  given x (Err r) = Err r

  -- what is found: a catalog, or the first no
  unfoldable pub found : Result Catalog LayoutFault
  found = given catalog asked

  -- the same of one file alone, at its first sector s
  unfoldable pub file_found : ℕ → Result Extent LayoutFault
  file_found s = given (extent s) ((ask (good_size size) BadSize ▸ ask_file s) (begin s))
