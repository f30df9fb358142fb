-- What the code that asks answers, in the words of the questions: x is what it holds in memory before, x' after, r the answer.
use Rattle.std.specs.Prelude.{◌≡◌, ℕ, suc, ◌+◌, ◌*◌, ◌-◌, ◌/◌, ◌<◌, ◌≤◌, Bool, true, false, cond, not, ◌&&◌, ◌||◌, List, [], length, reverse, sum_by, Some, None, Ok, Err, Option, Result, ◌==◌, nat_le, nat_lt, nat_eq}
use Rattle.disk.specs.declared.fault.Cause.TheVariants.{Gone}
use Rattle.disk.specs.declared.fault.DiskFault.{DiskFault}
use Rattle.disk.specs.Meaning.{Contents, Meaning}
use Rattle.disk.specs.Rules.{Answer, Request, Refuses}
use Rattle.disk.specs.Rules.Request.{getting}
use Rattle.numbers.specs.declared.name.Name.{Name}
use Rattle.numbers.specs.declared.sector.Sector.{Sector}
use Rattle.numbers.specs.Names.{Key, name_size, every, good_name, name_field, name_in}
use Rattle.numbers.specs.Lengths.{sectors, near_sectors, table_sectors, good_end, tables}
use Rattle.numbers.specs.Sectors.{address, address_step}
use Rattle.layout.specs.declared.header.Header.{Header}
use Rattle.layout.specs.declared.header.HeaderFault.{HeaderFault}
use Rattle.layout.specs.declared.header.HeaderFault.TheVariants.{Mark, End, Link}
use Rattle.layout.specs.declared.entry.PageHead.{PageHead}
use Rattle.layout.specs.Words.{word_size, word, part}
use Rattle.layout.specs.Entries.{page_mark, page_mark_at, count_at, first_at, zeros_at, entries_at, most_entries, entry_at, file_at, below_at, count_fits}
use Rattle.layout.specs.Headers.{file_mark, mark_at, last_at, used_at, tables_at, near_at, fields_in}
use Rattle.catalog.specs.declared.fault.LayoutFault.{LayoutFault}
use Rattle.catalog.specs.declared.fault.LayoutFault.TheVariants.{BadMark, BadCount, BadAddress, BadLevel, BadLength}
use Rattle.catalog.specs.declared.fault.VolumeFault.{VolumeFault}
use Rattle.catalog.specs.declared.fault.VolumeFault.TheVariants.{Disk, Layout}
use Rattle.catalog.specs.Catalogs.{Row, member, overlaid, range}
use Rattle.catalog.specs.Questions.{Sofar, Step, ask, ◌▸◌, done, each, at, link, rise, kind_at, ask_table, ask_entry, ask_page}
use Rattle.catalog.specs.Lays.{root_sector}
use Rattle.catalog.specs.Laws.{last_level}
use Rattle.tree.specs.Tree.{most_levels}
use Rattle.survey.specs.declared.findings.Findings.{Findings}
use Rattle.survey.specs.declared.row.FileRow.{FileRow}
use Rattle.survey.specs.Lines.{lines, is_met, met_count}
use Rattle.survey.specs.Reads.{Reads, ReadOnly}

-- what the questions are about: the size of a disk, the level on which leaves belong, and what is shown
pub record World : Type 0 where
  pub size : ℕ
  pub deep : ℕ
  pub shown : ℕ → Contents

-- what is held in memory: the findings, and the rows
pub record Memory : Type 0 where
  pub found : Findings
  pub rows : List FileRow

abbrev pub memory : Findings → List FileRow → Memory
memory k t = record { found = k; rows = t }

-- the last name, or none yet
abbrev pub LastIs : Option Name → Key → Type 0
LastIs None k = k ≡ []
LastIs (Some n) k = (good_name k ≡ true) × (n.bytes ≡ name_field k)

-- the memory x stands for s, where the rows were t at first
pub record Stands (w : World) (t : List FileRow) (x : Memory) (s : Sofar) : Type 0 where
  pub size : x.found.size ≡ w.size
  pub deep : x.found.leaf_level ≡ w.deep
  pub marks : (n : ℕ) → is_met x.found.map.met n ≡ member n s.met
  pub name : LastIs x.found.last s.last
  pub names : x.found.names ≡ length s.listed
  pub sectors : x.found.file_sectors ≡ sum_by (λ (r : Row). sectors r.long) s.listed
  pub rows : x.rows ≡ overlaid (lines (reverse s.listed)) t

-- an answer without its value
abbrev pub Done : Type 0
Done = Result Unit VolumeFault

abbrev pub yes : Done
yes = Ok tt

abbrev pub told : {T : Type 0} → Result T VolumeFault → Done
told (Ok v) = Ok tt
told (Err e) = Err e

abbrev pub told_layout : {T : Type 0} → Result T LayoutFault → Done
told_layout (Ok v) = Ok tt
told_layout (Err e) = Err (Layout e)

-- the questions come to y; the answer is that, or a disk's fault
abbrev pub Agrees : World → List FileRow → Done → Memory → Result Sofar LayoutFault → Type 0
Agrees w t (Ok u) x (Ok s) = Stands w t x s
Agrees w t (Ok u) x (Err e) = ⊥
Agrees w t (Err (Layout e)) x y = y ≡ Err e
Agrees w t (Err (Disk f)) x y = f.cause ≡ Gone

-- whatever was found before, the questions f come to what r and x' say
pub record Asked (w : World) (x : Memory) (f : Step) (r : Done) (x' : Memory) : Type 0 where
  pub agrees : (t : List FileRow) (s : Sofar) → Stands w t x s → Agrees w t r x' (f s)

-- at least as many sectors more are met as names are found
abbrev pub Roomy : Findings → Findings → Type 0
Roomy k k' = k'.names + met_count k.map.met ≤ k.names + met_count k'.map.met

-- the questions of a world, asked in memory alone
pub record Tells (x : Memory) (f : World → Step) (r : Done) (x' : Memory) : Type 0 where
  pub room : Roomy x.found x'.found
  pub asked : (w : World) → Asked w x (f w) r x'

-- the disk shows that world
pub record IsShown (m : Meaning) (w : World) : Type 0 where
  pub size : m.size ≡ w.size
  pub shows : (n : ℕ) → n < m.size → m.shown n ≡ w.shown n

module _ {D : Type 0} (meaning : D → Meaning) (does : D → Request → Answer → D → Type 0) where
  -- a get of this disk answered f and left it so
  pub record Faults (d : D) (f : DiskFault) (d' : D) : Type 0 where
    pub from : D
    pub sector : ℕ
    pub reached : Reads does d from
    pub asked : does from (getting sector) (Err f) d'
    pub why : Refuses f.cause (meaning from) sector f (meaning d')
    pub not_calm : f.cause ≡ Gone → (meaning d).calm ≡ true → (meaning d).live ≡ true → ⊥

  -- a disk that was live is so after any other answer
  abbrev pub Leaves : D → Done → D → Type 0
  Leaves d (Ok u) d' = (meaning d).live ≡ true → (meaning d').live ≡ true
  Leaves d (Err (Layout e)) d' = (meaning d).live ≡ true → (meaning d').live ≡ true
  Leaves d (Err (Disk f)) d' = Faults d f d'

  -- the questions of a world, asked of a disk that shows it
  pub record Surveyed (d : D) (x : Memory) (f : World → Step) (r : Done) (d' : D) (x' : Memory) : Type 0 where
    pub reads : Reads does d d'
    pub read : ReadOnly (meaning d) (meaning d')
    pub leaves : Leaves d r d'
    pub room : Roomy x.found x'.found
    pub asked : (w : World) → IsShown (meaning d) w → Asked w x (f w) r x'

-- PARTS of the questions. An address, whatever it leads to
abbrev pub address_asks : Bool → ℕ → ℕ → World → Step
address_asks due holder a w = link w.size w.shown due holder a (λ n. done)

-- where it led
abbrev pub Led : Bool → ℕ → Findings → Option Sector → Type 0
Led due a k None = due ≡ false
Led due a k (Some n) = (due ≡ true) × (n.0 ≡ a / address_step) × (n.0 < k.size)

-- entry j of table k, in sector t, which holds c, of a file whose last file sector is a
unfoldable pub entry_turn : Contents → ℕ → ℕ → ℕ → World → ℕ → Step
entry_turn c a k t w j = cond (nat_le (near_sectors + table_sectors * k + j) a) (link w.size w.shown true t (word c (word_size * j)) (λ n. done)) done

-- of a first sector that holds c: its mark, its length, its own address
unfoldable pub head_asks : Contents → ℕ → Step
head_asks c s =
    ask (word c mark_at == file_mark) (BadMark (at s)) ▸
    ask (good_end (word c last_at) (word c used_at)) (BadLength (at s)) ▸
    ask (word c near_at == address s) (BadAddress (at s))

-- what a first sector that is not read has wrong; `read` never answers Link
abbrev pub head_fault : HeaderFault → Sector → LayoutFault
head_fault Mark s = BadMark s
head_fault End s = BadLength s
head_fault Link s = BadAddress s

-- the header that c holds
pub record HeaderOf (c : Contents) (h : Header) : Type 0 where
  pub fields : h ≡ fields_in c
  pub end : good_end (word c last_at) (word c used_at) ≡ true

-- sector address i, and extension address k with its table
unfoldable pub near_turn : Contents → ℕ → World → ℕ → Step
near_turn c s w i = link w.size w.shown (nat_le i (word c last_at)) s (word c (near_at + word_size * i)) (λ n. done)

unfoldable pub table_turn : Contents → ℕ → World → ℕ → Step
table_turn c s w k =
    link w.size w.shown (nat_lt k (tables (word c last_at))) s (word c (tables_at + word_size * k)) (ask_table w.size w.shown (word c last_at) k)

unfoldable pub near_asks : Contents → ℕ → World → Step
near_asks c s w = each (near_turn c s w) (range 1 63)

unfoldable pub table_asks : Contents → ℕ → World → Step
table_asks c s w = each (table_turn c s w) (range 0 12)

-- of a page that holds c, on a level: its mark and zeros, its number of entries, its level
unfoldable pub top_asks : Contents → ℕ → ℕ → ℕ → Step
top_asks c deep level s =
    let leaf = nat_eq (word c first_at) 0 in
    ask (word c page_mark_at == page_mark && every (λ b. nat_eq b 0) (part c zeros_at (entries_at - zeros_at))) (BadMark (at s)) ▸
    ask (count_fits (kind_at level) leaf (word c count_at)) (BadCount (at s)) ▸
    ask (nat_le level most_levels && (not leaf || level == deep)) (BadLevel (at s))

-- the head that c holds, of a page that passed these
pub record TopOf (c : Contents) (level : ℕ) (h : PageHead) : Type 0 where
  pub count : h.count ≡ word c count_at
  pub first : h.first.0 ≡ word c first_at
  pub few : h.count ≤ most_entries
  pub high : level ≤ most_levels

-- an entry's name and file; the page that an address leads to below one on that level
unfoldable pub entry_asks : ℕ → List ℕ → ℕ → World → Step
entry_asks s f a w = rise s f ▸ link w.size w.shown true s a (ask_entry w.size w.shown (name_in f))

unfoldable pub below_asks : ℕ → Bool → ℕ → ℕ → World → Step
below_asks level due s a w = link w.size w.shown due s a (ask_page w.size w.shown w.deep (5 - level) (suc level))

-- entry i
unfoldable pub page_turn : Contents → ℕ → ℕ → World → ℕ → Step
page_turn c level s w i =
    entry_asks s (part c (entry_at i) name_size) (word c (entry_at i + file_at)) w ▸
    below_asks level (not (nat_eq (word c first_at) 0)) s (word c (entry_at i + below_at)) w

-- the answer of a look for the first leaf's level, on a disk that meant m before
abbrev pub LevelIs : Meaning → Result ℕ VolumeFault → Type 0
LevelIs m (Ok level) = (level ≡ last_level m.size m.shown most_levels 1 root_sector) × (m.live ≡ true)
LevelIs m (Err (Layout e)) = ⊥
LevelIs m (Err (Disk f)) = f.cause ≡ Gone

pub record Levelled {D : Type 0} (meaning : D → Meaning) (does : D → Request → Answer → D → Type 0) (d : D) (r : Result ℕ VolumeFault) (d' : D) : Type 0 where
  pub reads : Reads does d d'
  pub read : ReadOnly (meaning d) (meaning d')
  pub leaves : Leaves meaning does d (told r) d'
  pub level : LevelIs (meaning d) r

-- what a refusal of a first sector that was read says beside
abbrev pub HeadFault : {D : Type 0} → (D → Meaning) → (D → Request → Answer → D → Type 0) → D → ℕ → Done → D → Type 0
HeadFault meaning does d first (Ok u) d' = Unit {0}
HeadFault meaning does d first (Err (Layout e)) d' = first < (meaning d).size
HeadFault meaning does d first (Err (Disk f)) d' = does d (getting first) (Err f) d' × Refuses f.cause (meaning d) first f (meaning d')
