-- What is said of a card: bytes are the card.
use Rattle.std.specs.Prelude.{◌≡◌, ℕ, true, List, take, vec_items, Ok, Err, Result, IfOk}
use Rattle.std.specs.declared.alloc.AllocError.{AllocError}
use Rattle.catalog.specs.declared.fault.LayoutFault.{LayoutFault}
use Rattle.catalog.specs.declared.fault.VolumeFault.TheVariants.{Disk, Layout}
use Rattle.catalog.specs.Catalogs.{Catalog, rows}
use Rattle.catalog.specs.Lays.{Lays}
use Rattle.catalog.specs.Questions.{good_size, found}
use Rattle.disk.specs.Sectors.{count, sector}
use Rattle.survey.specs.declared.row.FileRow.{FileRow}
use Rattle.survey.specs.declared.survey.Counts.{Counts}
use Rattle.survey.specs.Lines.{lines}
use Rattle.survey.specs.Surveys.{CountsOf}
use Rattle.cardcheck.specs.declared.report.Report.{Report}
use Rattle.cardcheck.specs.declared.report.Report.TheVariants.{Sound, Broken}

module _ (bytes : List ℕ) where
  -- SOUND: the card's sectors hold a catalog, which the questions find. The counts are its counts, and the files its whole listing
  pub record Holds (files : List FileRow) (n : Counts) : Type 0 where
    pub catalog : Catalog
    pub is_laid : Lays (count bytes) (sector bytes) catalog
    pub is_found : found (count bytes) (sector bytes) ≡ Ok catalog
    pub counts : CountsOf (count bytes) catalog n
    pub listed : files ≡ lines (rows catalog)

  -- NOT SOUND: the first no of the questions; a card of 3 to 16,384 sectors holds no catalog then
  pub record HoldsNone (e : LayoutFault) : Type 0 where
    pub is_found : found (count bytes) (sector bytes) ≡ Err e
    pub none : (c : Catalog) → good_size (count bytes) ≡ true → Lays (count bytes) (sector bytes) c → ⊥

  -- a fault of a disk is never told: an image answers
  abbrev pub Says : Report → Type 0
  Says (Sound files n) = Holds (vec_items files) n
  Says (Broken (Layout e)) = HoldsNone e
  Says (Broken (Disk f)) = ⊥

-- a report, if there is memory for one; and the card, bytes' afterwards, is not changed
pub record Judges (bytes : List ℕ) (r : Result Report AllocError) (bytes' : List ℕ) : Type 0 where
  pub says : IfOk r (Says bytes)
  pub same : bytes' ≡ bytes

-- READ ENOUGH: what is said of the first n bytes is said of all
pub record ReadsEnough (n : ℕ) : Type 0 where
  pub says : (bytes : List ℕ) (r : Report) → Says (take n bytes) r → Says bytes r
