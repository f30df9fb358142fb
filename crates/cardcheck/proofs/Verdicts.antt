-- A survey of an image answers by its bytes alone, and leaves them as they were.
use Rattle.std.proofs.Common.{◌≡◌, Vec, vec_items, subst, ℕ, ◌≤◌, Bool, List, [], ◌∷◌, ◌++◌, length, take, Ok, Err, refl, sym, ap, ◌∙◌, arith, length-append}
use lib.ListN.{length-map}
use Rattle.std.specs.declared.alloc.Global.{Global}
use Rattle.numbers.specs.Names.{Key}
use Rattle.tree.specs.Tree.{Entry}
use Rattle.disk.specs.declared.image.Image.{Image}
use Rattle.disk.specs.Meaning.{Contents, Meaning}
use Rattle.disk.specs.Rules.{Answer, Request}
use Rattle.disk.specs.Sectors.{count, sector, over, ImageDoes}
use Rattle.disk.proofs.Bytes.{whole-sector}
use Rattle.catalog.specs.declared.fault.VolumeFault.{VolumeFault}
use Rattle.catalog.specs.declared.fault.VolumeFault.TheVariants.{Disk, Layout}
use Rattle.catalog.specs.Catalogs.{Extent, Catalog, entries, extents_sectors, rows, overlaid}
use Rattle.catalog.specs.Lays.{FilesAt, Lays}
use Rattle.catalog.specs.Laws.{Sized}
use Rattle.catalog.proofs.Found.{found-laid-both, refused-none}
use Rattle.catalog.proofs.Sectors.{divides}
use Rattle.survey.specs.declared.row.FileRow.{FileRow}
use Rattle.survey.specs.declared.survey.Counts.{Counts}
use Rattle.survey.specs.Lines.{line, lines}
use Rattle.survey.specs.Reads.{Reads}
use Rattle.survey.specs.Reads.Reads.{none, more}
use Rattle.survey.specs.Surveys.{Surveys}
use Rattle.survey.proofs.Counting.{rows-count}
use Rattle.cardcheck.specs.declared.report.Report.TheVariants.{Sound, Broken}
use Rattle.cardcheck.specs.Judges.{Holds, Says, Judges}

abbrev pub image_meaning : Image → Meaning
image_meaning d = over d.bytes.now

abbrev pub image_does : Image → Request → Answer → Image → Type 0
image_does d q r e = ImageDoes d.bytes.now q r e.bytes.now

-- gets change no byte
same_bytes : {d d' : Image} → Reads image_does d d' → d'.bytes.now ≡ d.bytes.now
same_bytes none = refl
same_bytes (more r does) = does.leaves ∙ same_bytes r

-- a table that is long enough begins with all that was laid over it
take-overlaid : (xs ys : List FileRow) → length xs ≤ length ys → take (length xs) (overlaid xs ys) ≡ xs
take-overlaid [] ys h = refl
take-overlaid (x ∷ xs) [] h = absurd (omega arith)
take-overlaid (x ∷ xs) (y ∷ ys) h = ap (λ (l : List FileRow). x ∷ l) (take-overlaid xs ys (omega arith))

-- each file has a sector at least
files-few : (shown : ℕ → Contents) (es : List (Entry Key)) (xs : List Extent) → FilesAt shown es xs → length es ≤ length (extents_sectors xs)
files-few shown [] xs h = omega arith
files-few shown (e ∷ es) [] h = absurd h
files-few shown (e ∷ es) (x ∷ xs) h =
    let p = h.0.reaches.parts in
    let i = files-few shown es xs h.1 in
    omega (arith, p, i, length-append x.parts (x.tabs ++ extents_sectors xs), length-append x.tabs (extents_sectors xs))

module _ (bytes : List ℕ) where
  sized : Sized (count bytes) (sector bytes)
  sized s h = (whole-sector bytes s h).long

  module _ (c : Catalog) (laid : Lays (count bytes) (sector bytes) c) where
    names-fit : length (lines (rows c)) ≤ count bytes
    names-fit =
        let d = (divides (count bytes) (sector bytes) c laid).sum in
        let f = files-few (sector bytes) (entries c) c.files laid.files in
        omega (arith, length-map (rows c) line, rows-count (sector bytes) (entries c) c.files laid.files, d, f)

    whole-listing : (n : ℕ) (old : List FileRow) → n ≡ length (entries c) → length old ≡ count bytes → take n (overlaid (lines (rows c)) old) ≡ lines (rows c)
    whole-listing n old e h =
        let r = rows-count (sector bytes) (entries c) c.files laid.files in
        let m = length-map (rows c) line in
        let f = names-fit in
        ap (λ (k : ℕ). take k (overlaid (lines (rows c)) old)) (e ∙ sym r ∙ sym m) ∙ take-overlaid (lines (rows c)) old (omega (arith, f, h))

module _ {d d' : Image} {old new : List FileRow} {marks : List Bool} where
  survey_holds : (n : Counts) → length old ≡ count d.bytes.now → Surveys image_meaning image_does d old (Ok n) d' marks new → Holds d.bytes.now (take n.names new) n
  survey_holds n long s =
      let a = s.answer in
      let b = d.bytes.now in
      let laid = ((found-laid-both (count b) (sector b) a.catalog (sized b)).0 a.is_found).1 in
      record {
        catalog = a.catalog;
        is_laid = laid;
        is_found = a.is_found;
        counts = a.counts;
        listed = ap (take n.names) a.listed ∙ whole-listing b a.catalog laid n.names old a.counts.names long;
      }

  survey_says_no : (f : VolumeFault) → Surveys image_meaning image_does d old (Err f) d' marks new → Says d.bytes.now (Broken f)
  survey_says_no (Layout e) s =
      let b = d.bytes.now in
      record { is_found = s.answer.is_found; none = λ c good laid. refused-none (count b) (sector b) c e (sized b) good s.answer.is_found laid }
  survey_says_no (Disk f) s = s.answer.0.not_calm refl refl

  -- the listing of a sound card is cut to its names
  pub judges_sound : (n : Counts) (files : Vec FileRow Global) → length old ≡ count d.bytes.now → Surveys image_meaning image_does d old (Ok n) d' marks new →
      vec_items files ≡ take n.names new → Judges d.bytes.now (Ok (Sound files n)) d'.bytes.now
  judges_sound n files long s cut =
      record { says = subst (λ (xs : List FileRow). Holds d.bytes.now xs n) (sym cut) (survey_holds n long s); same = same_bytes s.reads }

  pub judges_broken : (f : VolumeFault) → Surveys image_meaning image_does d old (Err f) d' marks new → Judges d.bytes.now (Ok (Broken f)) d'.bytes.now
  judges_broken f s = record { says = survey_says_no f s; same = same_bytes s.reads }
