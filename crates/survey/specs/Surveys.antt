-- What a survey of a volume answers: m is what the disk means before, d and d' the disk itself before and after.
use Rattle.std.specs.Prelude.{◌≡◌, ℕ, ◌≤◌, ◌↔◌, ◌⊎◌, Bool, true, false, List, ◌++◌, length, take, IsTrue, Ok, Err, Result}
use Rattle.disk.specs.declared.fault.Cause.TheVariants.{Outside, Gone}
use Rattle.disk.specs.declared.fault.DiskFault.{DiskFault}
use Rattle.disk.specs.Meaning.{Meaning, In}
use Rattle.disk.specs.Rules.{Answer, Request}
use Rattle.disk.specs.Rules.Request.{getting}
use Rattle.numbers.specs.declared.length.Length.{Length}
use Rattle.catalog.specs.declared.fault.LayoutFault.{LayoutFault}
use Rattle.catalog.specs.declared.fault.VolumeFault.{VolumeFault}
use Rattle.catalog.specs.declared.fault.VolumeFault.TheVariants.{Disk, Layout}
use Rattle.catalog.specs.Catalogs.{Extent, Catalog, bytes_of, entries, page_sectors, file_sectors, free_sectors, rows, overlaid}
use Rattle.catalog.specs.Questions.{good_size, found, file_found}
use Rattle.survey.specs.declared.row.FileRow.{FileRow}
use Rattle.survey.specs.declared.survey.Counts.{Counts}
use Rattle.survey.specs.Lines.{lines, is_met}
use Rattle.survey.specs.Reads.{Reads, ReadOnly}

-- how much a catalog holds on a disk of that size
pub record CountsOf (size : ℕ) (c : Catalog) (n : Counts) : Type 0 where
  pub names : n.names ≡ length (entries c)
  pub pages : n.pages ≡ length (page_sectors c)
  pub file_sectors : n.file_sectors ≡ length (file_sectors c)
  pub free : n.free ≡ length (free_sectors size c)

-- these marks have just these sectors; or none
abbrev pub HasJust : List Bool → List ℕ → Type 0
HasJust marks sectors = (n : ℕ) → IsTrue (is_met marks n) ↔ In n sectors

abbrev pub Empty : List Bool → Type 0
Empty marks = (n : ℕ) → is_met marks n ≡ false

-- ACCEPTED: the questions find a catalog, and this is it. The rows were old before and are new now
pub record Accepted (m : Meaning) (old : List FileRow) (n : Counts) (marks : List Bool) (new : List FileRow) : Type 0 where
  pub catalog : Catalog
  pub is_found : found m.size m.shown ≡ Ok catalog
  pub counts : CountsOf m.size catalog n
  pub met : HasJust marks (page_sectors catalog ++ file_sectors catalog)
  pub listed : new ≡ overlaid (lines (rows catalog)) old

-- REFUSED by the layout: the first no of the questions
pub record Refused (m : Meaning) (e : LayoutFault) (marks : List Bool) : Type 0 where
  pub is_found : found m.size m.shown ≡ Err e
  pub empty : Empty marks

-- unless its fault is the answer, a disk that was live is so afterwards
abbrev pub Stays : {T : Type 0} → Meaning → Result T VolumeFault → Meaning → Type 0
Stays m (Ok v) m' = m.live ≡ true → m'.live ≡ true
Stays m (Err (Layout e)) m' = m.live ≡ true → m'.live ≡ true
Stays m (Err (Disk f)) m' = Unit {0}

module _ {D : Type 0} (meaning : D → Meaning) (does : D → Request → Answer → D → Type 0) where
  -- THE DISK'S FAULT, unchanged: what the last get of this disk answered, which is gone and not live after it. A calm and live disk has none
  pub record Fails (d : D) (f : DiskFault) (d' : D) : Type 0 where
    pub from : D
    pub sector : ℕ
    pub reached : Reads does d from
    pub asked : does from (getting sector) (Err f) d'
    pub good : good_size (meaning d).size ≡ true
    pub gone : f.cause ≡ Gone
    pub lost : (meaning d').live ≡ false
    pub not_calm : (meaning d).calm ≡ true → (meaning d).live ≡ true → ⊥

  abbrev pub SurveyAnswers : D → List FileRow → Result Counts VolumeFault → D → List Bool → List FileRow → Type 0
  SurveyAnswers d old (Ok n) d' marks new = Accepted (meaning d) old n marks new
  SurveyAnswers d old (Err (Layout e)) d' marks new = Refused (meaning d) e marks
  SurveyAnswers d old (Err (Disk f)) d' marks new = Fails d f d' × Empty marks

  -- a survey, whatever it answers: nothing is put. What a refused one leaves in the rows is left free
  pub record Surveys (d : D) (old : List FileRow) (r : Result Counts VolumeFault) (d' : D) (marks : List Bool) (new : List FileRow) : Type 0 where
    pub reads : Reads does d d'
    pub read : ReadOnly (meaning d) (meaning d')
    pub stays : Stays (meaning d) r (meaning d')
    pub answer : SurveyAnswers d old r d' marks new

-- READ. The file found at a first sector, alone: its length, and its bytes as far as the buffer takes them; it held old and holds new
pub record Fetched (m : Meaning) (first long : ℕ) (old new : List ℕ) : Type 0 where
  pub extent : Extent
  pub is_found : file_found m.size m.shown first ≡ Ok extent
  pub long_is : long ≡ extent.long
  pub bytes : new ≡ overlaid (bytes_of m.shown extent) old

-- refused by the layout: the first no of the file's questions, and nothing is read
pub record FetchRefused (m : Meaning) (first : ℕ) (e : LayoutFault) (old new : List ℕ) : Type 0 where
  pub is_found : file_found m.size m.shown first ≡ Err e
  pub untouched : new ≡ old

-- up to a fault of the disk: nothing, or the first k bytes of the file that is found; which k is left free
abbrev pub Begun : Meaning → ℕ → List ℕ → List ℕ → Type 0
Begun m first old new = (new ≡ old) ⊎ ((x : Extent) × (file_found m.size m.shown first ≡ Ok x) × ((k : ℕ) × (new ≡ overlaid (take k (bytes_of m.shown x)) old)))

module _ {D : Type 0} (meaning : D → Meaning) (does : D → Request → Answer → D → Type 0) where
  -- there is no sector of that number: the disk's own answer, unchanged
  pub record NoSector (d : D) (first : ℕ) (f : DiskFault) (d' : D) (old new : List ℕ) : Type 0 where
    pub good : good_size (meaning d).size ≡ true
    pub beyond : (meaning d).size ≤ first
    pub asked : does d (getting first) (Err f) d'
    pub outside : f.cause ≡ Outside
    pub untouched : new ≡ old

  abbrev pub FetchAnswers : D → ℕ → List ℕ → Result Length VolumeFault → D → List ℕ → Type 0
  FetchAnswers d first old (Ok l) d' new = Fetched (meaning d) first l.0 old new
  FetchAnswers d first old (Err (Layout e)) d' new = FetchRefused (meaning d) first e old new
  FetchAnswers d first old (Err (Disk f)) d' new = (Fails meaning does d f d' × Begun (meaning d) first old new) ⊎ NoSector d first f d' old new

  -- a read of a file, whatever it answers: nothing is put
  pub record Fetches (d : D) (first : ℕ) (old : List ℕ) (r : Result Length VolumeFault) (d' : D) (new : List ℕ) : Type 0 where
    pub reads : Reads does d d'
    pub read : ReadOnly (meaning d) (meaning d')
    pub stays : Stays (meaning d) r (meaning d')
    pub answer : FetchAnswers d first old r d' new
