-- What the code that reads a file answers, of a file whose questions were answered with yes.
use Rattle.std.specs.Prelude.{◌≡◌, ℕ, ◌<◌, ◌≤◌, ◌⊎◌, List, drop, take, Ok, Err, Result, slice_index}
use Rattle.disk.specs.declared.fault.Cause.TheVariants.{Gone}
use Rattle.disk.specs.Meaning.{Meaning, In}
use Rattle.disk.specs.Rules.{Answer, Request}
use Rattle.numbers.specs.declared.sector.Sector.{Sector}
use Rattle.numbers.specs.Lengths.{last_sector}
use Rattle.layout.specs.declared.header.Header.{Header}
use Rattle.catalog.specs.declared.fault.VolumeFault.{VolumeFault}
use Rattle.catalog.specs.declared.fault.VolumeFault.TheVariants.{Disk, Layout}
use Rattle.catalog.specs.Catalogs.{bytes_of, overlaid}
use Rattle.catalog.specs.Lays.{FileAt}
use Rattle.catalog.specs.Questions.{extent}
use Rattle.survey.specs.Reads.{Reads, ReadOnly}
use Rattle.survey.specs.Asks.{World, IsShown, HeaderOf, Leaves, told}

-- a file that is laid at its first sector, with its header
pub record Held (w : World) (first : ℕ) (h : Header) : Type 0 where
  pub header : HeaderOf (w.shown first) h
  pub file : FileAt w.shown first (extent w.size w.shown first)
  pub inside : (n : ℕ) → In n (drop 1 (extent w.size w.shown first).parts) ⊎ In n (extent w.size w.shown first).tabs → (2 ≤ n) × (n < w.size)
  pub first_in : first < w.size

-- the answer is file sector i
abbrev pub PartIs : World → ℕ → ℕ → Result Sector VolumeFault → Type 0
PartIs w first i (Ok s) = s.0 ≡ slice_index (extent w.size w.shown first).parts i
PartIs w first i (Err (Layout e)) = ⊥
PartIs w first i (Err (Disk f)) = f.cause ≡ Gone

-- the bytes stand in the buffer, as far as it takes them, or the first k of them
abbrev pub FilledAs : World → ℕ → List ℕ → Result (Unit {0}) VolumeFault → List ℕ → Type 0
FilledAs w first old (Ok u) new = new ≡ overlaid (bytes_of w.shown (extent w.size w.shown first)) old
FilledAs w first old (Err (Layout e)) new = ⊥
FilledAs w first old (Err (Disk f)) new = (f.cause ≡ Gone) × ((k : ℕ) × (new ≡ overlaid (take k (bytes_of w.shown (extent w.size w.shown first))) old))

module _ {D : Type 0} (meaning : D → Meaning) (does : D → Request → Answer → D → Type 0) where
  pub record FindsPart (d : D) (size : ℕ) (h : Header) (first i : ℕ) (r : Result Sector VolumeFault) (d' : D) : Type 0 where
    pub reads : Reads does d d'
    pub read : ReadOnly (meaning d) (meaning d')
    pub leaves : Leaves meaning does d (told r) d'
    pub part : (w : World) → size ≡ w.size → IsShown (meaning d) w → Held w first h → i ≤ last_sector h.length.0 → PartIs w first i r

  pub record Fills (d : D) (size : ℕ) (h : Header) (first : ℕ) (old : List ℕ) (r : Result (Unit {0}) VolumeFault) (d' : D) (new : List ℕ) : Type 0 where
    pub reads : Reads does d d'
    pub read : ReadOnly (meaning d) (meaning d')
    pub leaves : Leaves meaning does d r d'
    pub filled : (w : World) → size ≡ w.size → IsShown (meaning d) w → Held w first h → FilledAs w first old r new
