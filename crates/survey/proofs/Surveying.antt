-- From the questions asked to what a survey answers.
use Rattle.std.proofs.Common.{◌≡◌, ℕ, zero, suc, ◌+◌, ◌-◌, ◌<◌, ◌≤◌, Bool, true, false, List, ◌++◌, length, get_or, replicate, sum_by, Ok, Err, Result, sym, refl, ap, ◌∙◌, arith}
use Rattle.std.proofs.lemmas.Bool.{and_parts, leb-true}
use Rattle.std.proofs.lemmas.List.{length-reverse}
use Rattle.disk.specs.declared.fault.Cause.{Cause}
use Rattle.disk.specs.declared.fault.Cause.TheVariants.{Outside, Gone}
use Rattle.disk.specs.declared.fault.DiskFault.{DiskFault}
use Rattle.disk.specs.Meaning.{Contents, Meaning, Sound}
use Rattle.disk.specs.Rules.{Answer, Request, Refuses}
use Rattle.numbers.specs.Lengths.{sectors}
use Rattle.catalog.specs.declared.fault.LayoutFault.{LayoutFault}
use Rattle.catalog.specs.declared.fault.LayoutFault.TheVariants.{BadSize}
use Rattle.catalog.specs.declared.fault.VolumeFault.{VolumeFault}
use Rattle.catalog.specs.declared.fault.VolumeFault.TheVariants.{Disk, Layout}
use Rattle.catalog.specs.Catalogs.{Row, entries, page_sectors, file_sectors, free_sectors, rows, overlaid}
use Rattle.catalog.specs.Lays.{Lays, root_sector}
use Rattle.catalog.specs.Laws.{Sized, last_level}
use Rattle.catalog.specs.Questions.{Sofar, ask, onward, begin, good_size, fewest_sectors, most_sectors, leaf_level, ask_page, asked, catalog, given, found}
use Rattle.catalog.proofs.Found.{found-laid-both}
use Rattle.catalog.proofs.FirstLeaf.{serves}
use Rattle.catalog.proofs.Sectors.{met-sectors, divides}
use Rattle.catalog.proofs.Listing.{listed}
use Rattle.tree.specs.Tree.{most_levels}
use Rattle.survey.specs.declared.findings.Findings.{Findings}
use Rattle.survey.specs.declared.row.FileRow.{FileRow}
use Rattle.survey.specs.declared.survey.Counts.{Counts}
use Rattle.survey.specs.Lines.{lines, is_met, met_count, none_met}
use Rattle.survey.specs.Reads.Reads.{none}
use Rattle.survey.proofs.Tellings.{reads-then, read-same, read-then, leaves-then}
use Rattle.survey.specs.Surveys.{CountsOf, HasJust, Fails, Surveys, Empty}
use Rattle.survey.specs.Asks.{World, Memory, Stands, Agrees, Faults, Surveyed, Levelled, IsShown, yes}
use Rattle.survey.proofs.Counting.{member-in, in-member, count-met, sum-reverse, files-sectors, rows-count}

-- THE QUESTIONS, as they were asked: their run is the one of all questions
run-found : (size : ℕ) (shown : ℕ → Contents) (level : ℕ) (y : Result Sofar LayoutFault) → good_size size ≡ true → level ≡ last_level size shown most_levels 1 root_sector →
    y ≡ ask_page size shown level 5 1 root_sector (begin size shown root_sector) → asked size shown ≡ y
unfolding asked
run-found size shown level y g l e =
    ap (λ (b : Bool). onward (ask_page size shown (leaf_level size shown) 5 1 root_sector) (ask b BadSize (begin size shown root_sector))) g ∙ sym (serves size shown (begin size shown root_sector))
    ∙ ap (λ (k : ℕ). ask_page size shown k 5 1 root_sector (begin size shown root_sector)) (sym l) ∙ sym e

found_of : (size : ℕ) (shown : ℕ → Contents) (s : Sofar) → asked size shown ≡ Ok s → found size shown ≡ Ok (catalog size shown)
unfolding found
found_of size shown s e = ap (given size shown (catalog size shown)) e

refused_of : (size : ℕ) (shown : ℕ → Contents) (r : LayoutFault) → asked size shown ≡ Err r → found size shown ≡ Err r
unfolding found
refused_of size shown r e = ap (given size shown (catalog size shown)) e

pub bad-size : (size : ℕ) (shown : ℕ → Contents) → good_size size ≡ false → found size shown ≡ Err BadSize
unfolding asked
bad-size size shown g = refused_of size shown BadSize (ap (λ (b : Bool). onward (ask_page size shown (leaf_level size shown) 5 1 root_sector) (ask b BadSize (begin size shown root_sector))) g)

pub size-three : (size : ℕ) → good_size size ≡ true → (fewest_sectors ≤ size) × (size ≤ most_sectors)
size-three size g = let p = and_parts _ _ g in (leb-true _ _ p.0, leb-true _ _ p.1)

-- each sector of a live disk is whole
pub sized : (m : Meaning) → Sound m → m.live ≡ true → Sized m.size m.shown
sized m s l = λ k lt. (s.whole k (m.shown k) lt (s.shows l k lt)).long

-- THE FINDINGS, against the catalog
module _ (size : ℕ) (shown : ℕ → Contents) (s : Sofar) (a : asked size shown ≡ Ok s) (whole : Sized size shown) (w : World) (z : w.size ≡ size) (t : List FileRow) (x : Memory) (st : Stands w t x s) where
  laid-here : Lays size shown (catalog size shown)
  laid-here = ((found-laid-both size shown (catalog size shown) whole).0 (found_of size shown s a)).1

  names-are : x.found.names ≡ length (entries (catalog size shown))
  names-are = st.names ∙ sym (length-reverse s.listed) ∙ ap length (listed size shown s a) ∙ rows-count shown _ _ laid-here.files

  files-are : x.found.file_sectors ≡ length (file_sectors (catalog size shown))
  files-are =
      st.sectors ∙ sym (sum-reverse (λ (r : Row). sectors r.long) s.listed) ∙ ap (sum_by (λ (r : Row). sectors r.long)) (listed size shown s a) ∙ files-sectors shown _ _ laid-here.files

  met-are : met_count x.found.map.met ≡ length (page_sectors (catalog size shown)) + length (file_sectors (catalog size shown))
  met-are = let m = met-sectors size shown s a in count-met s.met x.found.map.met m.once st.marks ∙ m.count

  all-are : length (page_sectors (catalog size shown)) + length (file_sectors (catalog size shown)) + length (free_sectors size (catalog size shown)) ≡ size - 1
  all-are = (divides size shown (catalog size shown) laid-here).sum

  pub counted : 1 ≤ size → (x.found.file_sectors ≤ met_count x.found.map.met) × (met_count x.found.map.met < x.found.size)
  counted h =
      let i = files-are in
      let j = met-are in
      let k = all-are in
      let y : x.found.size ≡ size = st.size ∙ z in
      (omega arith, omega arith)

  pub counts-are : (n : Counts) → n.names ≡ x.found.names → n.pages + x.found.file_sectors ≡ met_count x.found.map.met → n.file_sectors ≡ x.found.file_sectors → n.free + 1 + met_count x.found.map.met ≡ x.found.size → CountsOf size (catalog size shown) n
  counts-are n p q r f =
      let i = files-are in
      let j = met-are in
      let k = all-are in
      let y : x.found.size ≡ size = st.size ∙ z in
      record { names = p ∙ names-are; pages = omega arith; file_sectors = r ∙ files-are; free = omega arith }

  pub just-met : HasJust x.found.map.met (page_sectors (catalog size shown) ++ file_sectors (catalog size shown))
  just-met = λ n.
      let m = (met-sectors size shown s a).same n in
      (λ (e : is_met x.found.map.met n ≡ true). m.0 (member-in n s.met (sym (st.marks n) ∙ e)), λ i. st.marks n ∙ in-member n s.met (m.1 i))

  pub rows-are : x.rows ≡ overlaid (lines (rows (catalog size shown))) t
  rows-are = st.rows ∙ ap (λ (l : List Row). overlaid (lines l) t) (listed size shown s a)

-- a map that is new
pub empty-new : (marks : List Bool) → marks ≡ none_met → Empty marks
unfolding none_met
empty-new marks e = λ n. ap (λ (l : List Bool). is_met l n) e ∙ unmet most_sectors n where
  unmet : (m i : ℕ) → get_or (replicate m false) i false ≡ false
  unmet zero i = refl
  unmet (suc m) zero = refl
  unmet (suc m) (suc i) = unmet m i

-- THE DISK'S FAULT
lost-of : (c : Cause) (m m' : Meaning) (n : ℕ) (f : DiskFault) → Refuses c m n f m' → c ≡ Gone → m'.live ≡ false
lost-of Outside m m' n f p e = cc
lost-of Gone m m' n f p e = p.lost

pub passed : (w : World) (t : List FileRow) (x : Memory) (y : Result Sofar LayoutFault) → Agrees w t yes x y → (s : Sofar) × (y ≡ Ok s) × Stands w t x s
passed w t x (Ok s) h = (s, refl, h)
passed w t x (Err e) h = absurd h

module _ {D : Type 0} {meaning : D → Meaning} {does : D → Request → Answer → D → Type 0} where
  pub fails : {d d' : D} {f : DiskFault} → good_size (meaning d).size ≡ true → Faults meaning does d f d' → f.cause ≡ Gone → Fails meaning does d f d'
  fails {d} {d'} {f} s p g =
      record { from = p.from; sector = p.sector; reached = p.reached; asked = p.asked; good = s; gone = g; lost = lost-of f.cause (meaning p.from) (meaning d') p.sector f p.why g; not_calm = p.not_calm g }

  -- refused by its size, and while the first leaf is looked for
  pub survey-size : {d : D} {old new : List FileRow} {marks : List Bool} {e : LayoutFault} {size : ℕ} → size ≡ (meaning d).size → (good_size size ≡ false) × (e ≡ BadSize) → Empty marks → Surveys meaning does d old (Err (Layout e)) d marks new
  survey-size {d} {marks = marks} z p h =
      record {
        reads = none;
        read = read-same (meaning d);
        stays = λ l. l;
        answer = record { is_found = bad-size _ _ (ap good_size (sym z) ∙ p.0) ∙ ap Err (sym p.1); empty = h };
      }

  pub survey-level : {d d' : D} {old new : List FileRow} {marks : List Bool} → good_size (meaning d).size ≡ true → (v : VolumeFault) → Levelled meaning does d (Err v) d' → Empty marks → Surveys meaning does d old (Err v) d' marks new
  survey-level s (Layout e) l h = absurd l.level
  survey-level s (Disk f) l h = record { reads = l.reads; read = l.read; stays = tt; answer = (fails s l.leaves l.level, h) }

-- the questions were asked of the disk d1, after the first leaf's level was read of d
module _ {D : Type 0} {meaning : D → Meaning} {does : D → Request → Answer → D → Type 0} (d d1 d2 : D) (size level : ℕ) (k : Findings) (t : List FileRow) (x2 : Memory)
    (good : good_size size ≡ true) (z : size ≡ (meaning d).size) (l : Levelled meaning does d (Ok level) d1)
    (n : (w : World) (t : List FileRow) → size ≡ w.size → level ≡ w.deep → Stands w t (record { found = k; rows = t }) (begin w.size w.shown root_sector)) where
  world : World
  world = record { size = (meaning d).size; deep = level; shown = (meaning d).shown }

  asked-here : Result Sofar LayoutFault
  asked-here = ask_page (meaning d).size (meaning d).shown level 5 1 root_sector (begin (meaning d).size (meaning d).shown root_sector)

  all-asked : (y : Result Sofar LayoutFault) → y ≡ asked-here → asked (meaning d).size (meaning d).shown ≡ y
  unfolding asked-here
  all-asked y e = run-found _ _ level y (ap good_size (sym z) ∙ good) l.level.0 e

  shown-here : IsShown (meaning d1) world
  unfolding world
  shown-here = record { size = l.read.size; shows = λ i h. l.read.shows i (let q = l.read.size in omega arith) }

  agreed : {r : Result (Unit {0}) VolumeFault} → Surveyed meaning does d1 (record { found = k; rows = t }) (λ w. ask_page w.size w.shown w.deep 5 1 root_sector) r d2 x2 → Agrees world t r x2 asked-here
  unfolding world asked-here
  agreed p = (p.asked world shown-here).agrees t _ (n world t z refl)

  module _ (sound : Sound (meaning d)) (p : Surveyed meaning does d1 (record { found = k; rows = t }) (λ w. ask_page w.size w.shown w.deep 5 1 root_sector) yes d2 x2) where
    pub survey-counts : (x2.found.file_sectors ≤ met_count x2.found.map.met) × (met_count x2.found.map.met < x2.found.size)
    unfolding world
    survey-counts =
        let h = passed world t x2 asked-here (agreed p) in
        let i = (size-three size good).0 in
        counted _ _ h.0 (all-asked (Ok h.0) (sym h.1)) (sized (meaning d) sound l.level.1) world refl t x2 h.2 (omega arith)

    pub survey-all : (c : Counts) → c.names ≡ x2.found.names → c.pages + x2.found.file_sectors ≡ met_count x2.found.map.met → c.file_sectors ≡ x2.found.file_sectors → c.free + 1 + met_count x2.found.map.met ≡ x2.found.size →
        Surveys meaning does d t (Ok c) d2 x2.found.map.met x2.rows
    unfolding world
    survey-all c e f g i =
        let h = passed world t x2 asked-here (agreed p) in
        let a = all-asked (Ok h.0) (sym h.1) in
        let w = sized (meaning d) sound l.level.1 in
        record {
          reads = reads-then l.reads p.reads;
          read = read-then l.read p.read;
          stays = λ v. p.leaves (l.leaves v);
          answer = record {
            catalog = catalog (meaning d).size (meaning d).shown;
            is_found = found_of _ _ h.0 a;
            counts = counts-are _ _ h.0 a w world refl t x2 h.2 c e f g i;
            met = just-met _ _ h.0 a w world refl t x2 h.2;
            listed = rows-are _ _ h.0 a w world refl t x2 h.2;
          };
        }

  pub survey-refused : {marks : List Bool} {new : List FileRow} (v : VolumeFault) → Surveyed meaning does d1 (record { found = k; rows = t }) (λ w. ask_page w.size w.shown w.deep 5 1 root_sector) (Err v) d2 x2 → Empty marks → Surveys meaning does d t (Err v) d2 marks new
  survey-refused (Layout e) p h =
      record { reads = reads-then l.reads p.reads; read = read-then l.read p.read; stays = λ v. p.leaves (l.leaves v); answer = record { is_found = refused_of _ _ e (all-asked (Err e) (sym (agreed p))); empty = h } }
  survey-refused (Disk f) p h =
      record { reads = reads-then l.reads p.reads; read = read-then l.read p.read; stays = tt; answer = (fails (ap good_size (sym z) ∙ good) (leaves-then meaning does d2 (Err (Disk f)) l.reads l.read l.leaves p.leaves) (agreed p), h) }
