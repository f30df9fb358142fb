-- From one file's questions to what a read of it answers.
use Rattle.std.proofs.Common.{◌≡◌, ℕ, ◌+◌, ◌<◌, ◌≤◌, Bool, true, false, ◌⊎◌, inl, inr, List, [], ◌∷◌, length, get_or, set, drop, replicate, None, Ok, Err, Result, sym, refl, ap, ◌∙◌, subst, zero-le, arith}
use Rattle.std.proofs.lemmas.List.{length-set, length-replicate}
use Rattle.disk.specs.declared.fault.Cause.{Cause}
use Rattle.disk.specs.declared.fault.Cause.TheVariants.{Outside, Gone}
use Rattle.disk.specs.Meaning.{Contents, Meaning, In}
use Rattle.disk.specs.Rules.{Answer, Request, Refuses}
use Rattle.layout.specs.declared.header.Header.{Header}
use Rattle.catalog.specs.declared.fault.LayoutFault.{LayoutFault}
use Rattle.catalog.specs.declared.fault.LayoutFault.TheVariants.{BadSize}
use Rattle.catalog.specs.declared.fault.VolumeFault.{VolumeFault}
use Rattle.catalog.specs.declared.fault.VolumeFault.TheVariants.{Disk, Layout}
use Rattle.catalog.specs.Lays.{FileAt}
use Rattle.catalog.specs.Questions.{Sofar, ask, onward, begin, good_size, most_sectors, ask_file, extent, given, file_found}
use Rattle.catalog.proofs.Counts.{tick, occ, in-occ}
use Rattle.catalog.proofs.Means.{Free}
use Rattle.catalog.proofs.File.{file_rest, means-file, file-occ}
use Rattle.survey.specs.declared.findings.Findings.{Findings}
use Rattle.survey.specs.Lines.{none_met}
use Rattle.survey.specs.Reads.{ReadOnly}
use Rattle.survey.specs.Reads.Reads.{none, more}
use Rattle.survey.specs.Surveys.{Fetches}
use Rattle.survey.specs.Asks.{World, Memory, Stands, Agrees, Surveyed, HeadFault, HeaderOf, IsShown, head_asks, yes}
use Rattle.survey.specs.Fetches.{Held, Fills}
use Rattle.survey.proofs.Listing.{one_met}
use Rattle.survey.proofs.Reading.{long-held}
use Rattle.survey.proofs.Files.{head-only}
use Rattle.survey.proofs.Surveying.{fails, size-three, passed}
use Rattle.survey.proofs.Tellings.{reads-then, read-same, read-then, shown-then, leaves-then}

-- A FILE ASKED ALONE
file-asked : (size : ℕ) (shown : ℕ → Contents) (s : ℕ) (y : Result Sofar LayoutFault) → good_size size ≡ true → y ≡ ask_file size shown s (begin size shown s) → file_found size shown s ≡ given size shown (extent size shown s) y
unfolding file_found
file-asked size shown s y g e = ap (λ (b : Bool). given size shown (extent size shown s) (onward (ask_file size shown s) (ask b BadSize (begin size shown s)))) g ∙ ap (given size shown (extent size shown s)) (sym e)

file-bad-size : (size : ℕ) (shown : ℕ → Contents) (s : ℕ) → good_size size ≡ false → file_found size shown s ≡ Err BadSize
unfolding file_found
file-bad-size size shown s g = ap (λ (b : Bool). given size shown (extent size shown s) (onward (ask_file size shown s) (ask b BadSize (begin size shown s)))) g

-- its sectors but the first are on the disk
others-inside : (size : ℕ) (shown : ℕ → Contents) (s n : ℕ) → FileAt shown s (extent size shown s) → Free size (file_rest size shown s) (s ∷ []) → In n (drop 1 (extent size shown s).parts) ⊎ In n (extent size shown s).tabs → (2 ≤ n) × (n < size)
others-inside size shown s n f free i =
    go (free n) (file-occ size shown s n f) (first-of (extent size shown s).parts _ f.reaches.first f.reaches.parts) i
  where
    first-of : (l : List ℕ) (m : ℕ) → get_or l 0 0 ≡ s → length l ≡ 1 + m → occ n l ≡ tick n s + occ n (drop 1 l)
    first-of [] m e h = absurd (omega arith)
    first-of (y ∷ ys) m e h = ap (λ (z : ℕ). tick n z + occ n ys) e

    go : (occ n (file_rest size shown s) ≡ 0) ⊎ ((occ n (file_rest size shown s) + occ n (s ∷ []) ≤ 1) × (2 ≤ n) × (n < size)) →
        tick n s + occ n (file_rest size shown s) ≡ occ n (extent size shown s).parts + occ n (extent size shown s).tabs →
        occ n (extent size shown s).parts ≡ tick n s + occ n (drop 1 (extent size shown s).parts) →
        In n (drop 1 (extent size shown s).parts) ⊎ In n (extent size shown s).tabs → (2 ≤ n) × (n < size)
    go (inr h) e p j = (h.1, h.2)
    go (inl h) e p (inl j) = let o = in-occ n _ j in absurd (omega arith)
    go (inl h) e p (inr j) = let o = in-occ n _ j in absurd (omega arith)

held : (w : World) (first : ℕ) (h : Header) (st : Sofar) → HeaderOf (w.shown first) h → first < w.size → ask_file w.size w.shown first (begin w.size w.shown first) ≡ Ok st → Held w first h
held w first h st p l e =
    let m = (means-file w.size w.shown first).sound (begin w.size w.shown first) st e in
    record { header = p; file = m.0; inside = λ n. others-inside w.size w.shown first n m.0 m.1.free; first_in = l }

-- findings of which only the first sector is met
fresh : (size first : ℕ) → size ≤ most_sectors → first < size → Findings
unfolding none_met
fresh size first few l =
    record {
      size = size;
      leaf_level = 1;
      map = record { met = set none_met first true; long = long };
      last = None;
      names = 0;
      file_sectors = 0;
      small = few;
      few = zero-le;
      short = omega arith;
    }
  where
    long : length (set none_met first true) ≡ most_sectors
    long = length-set (replicate most_sectors false) first true ∙ length-replicate most_sectors false

-- the world of a disk that is read
abbrev pub of : Meaning → World
of m = record { size = m.size; deep = 1; shown = m.shown }

shown-of : (m : Meaning) → IsShown m (of m)
shown-of m = record { size = refl; shows = λ n l. refl }

good-at : (m : Meaning) (size : ℕ) → size ≡ m.size → good_size size ≡ true → good_size m.size ≡ true
good-at m size z g = ap good_size (sym z) ∙ g

stands-fresh : (m : Meaning) (size first : ℕ) (few : size ≤ most_sectors) (l : first < size) → size ≡ m.size → Stands (of m) [] (record { found = fresh size first few l; rows = [] }) (begin m.size m.shown first)
unfolding fresh
stands-fresh m size first few l z = record { size = z; deep = refl; marks = one_met _ first (omega arith) refl; name = refl; names = refl; sectors = refl; rows = refl }

module _ {D : Type 0} {meaning : D → Meaning} {does : D → Request → Answer → D → Type 0} where
  -- refused by its size
  pub fetch-size : {d : D} {first : ℕ} {old : List ℕ} {e : LayoutFault} {size : ℕ} → size ≡ (meaning d).size → (good_size size ≡ false) × (e ≡ BadSize) → Fetches meaning does d first old (Err (Layout e)) d old
  fetch-size {d} z p =
      record { reads = none; read = read-same (meaning d); stays = λ l. l; answer = record { is_found = file-bad-size _ _ _ (ap good_size (sym z) ∙ p.0) ∙ ap Err (sym p.1); untouched = refl } }

  module _ (d d2 : D) (size first : ℕ) (old : List ℕ) (good : good_size size ≡ true) (z : size ≡ (meaning d).size) (x x2 : Memory) (n : Stands (of (meaning d)) [] x (begin (meaning d).size (meaning d).shown first)) where
    agreed : {r : Result (Unit {0}) VolumeFault} → Surveyed meaning does d x (λ w. ask_file w.size w.shown first) r d2 x2 → Agrees (of (meaning d)) [] r x2 (ask_file (meaning d).size (meaning d).shown first (begin (meaning d).size (meaning d).shown first))
    agreed p = (p.asked (of (meaning d)) (shown-of (meaning d))).agrees [] _ n

    -- a question is answered with no, or the disk does not answer
    pub fetch-stopped : (v : VolumeFault) → Surveyed meaning does d x (λ w. ask_file w.size w.shown first) (Err v) d2 x2 → Fetches meaning does d first old (Err v) d2 old
    fetch-stopped (Layout e) p =
        record { reads = p.reads; read = p.read; stays = p.leaves; answer = record { is_found = file-asked (meaning d).size (meaning d).shown first (Err e) (good-at (meaning d) size z good) (sym (agreed p)); untouched = refl } }
    fetch-stopped (Disk f) p = record { reads = p.reads; read = p.read; stays = tt; answer = inl (fails (good-at (meaning d) size z good) p.leaves (agreed p), inl refl) }

    -- all are answered with yes, and the bytes are read
    module _ (d3 : D) (h : Header) (new : List ℕ) (p : Surveyed meaning does d x (λ w. ask_file w.size w.shown first) yes d2 x2) (o : HeaderOf ((meaning d).shown first) h) (l : first < (meaning d).size) where
      held-here : Held (of (meaning d)) first h
      held-here = let y = passed (of (meaning d)) [] x2 _ (agreed p) in held (of (meaning d)) first h y.0 o l y.1

      found-here : file_found (meaning d).size (meaning d).shown first ≡ Ok (extent (meaning d).size (meaning d).shown first)
      found-here = let y = passed (of (meaning d)) [] x2 _ (agreed p) in file-asked (meaning d).size (meaning d).shown first (Ok y.0) (good-at (meaning d) size z good) (sym y.1)

      pub fetch-all : Fills meaning does d2 size h first old (Ok tt) d3 new → Fetches meaning does d first old (Ok h.length) d3 new
      fetch-all q =
          record {
            reads = reads-then p.reads q.reads;
            read = read-then p.read q.read;
            stays = λ v. q.leaves (p.leaves v);
            answer = record {
              extent = extent (meaning d).size (meaning d).shown first;
              is_found = found-here;
              long_is = long-held (of (meaning d)) first h held-here;
              bytes = q.filled (of (meaning d)) z (shown-then p.read (shown-of (meaning d))) held-here;
            };
          }

      pub fetch-lost : (v : VolumeFault) → Fills meaning does d2 size h first old (Err v) d3 new → Fetches meaning does d first old (Err v) d3 new
      fetch-lost (Layout e) q = absurd (q.filled (of (meaning d)) z (shown-then p.read (shown-of (meaning d))) held-here)
      fetch-lost (Disk f) q =
          let r = q.filled (of (meaning d)) z (shown-then p.read (shown-of (meaning d))) held-here in
          record {
            reads = reads-then p.reads q.reads;
            read = read-then p.read q.read;
            stays = tt;
            answer = inl (fails (good-at (meaning d) size z good) (leaves-then meaning does d3 (Err (Disk f)) p.reads p.read p.leaves q.leaves) r.0, inr (extent (meaning d).size (meaning d).shown first, found-here, r.1));
          }

  -- the first sector is refused, or there is none
  module _ (d d2 : D) (size first : ℕ) (old : List ℕ) (good : good_size size ≡ true) (z : size ≡ (meaning d).size) where
    head-inside : (v : VolumeFault) → ((x : Memory) → first < x.found.size → Surveyed meaning does d x (λ w. head_asks (w.shown first) first) (Err v) d2 x) → first < (meaning d).size → Fetches meaning does d first old (Err v) d2 old
    unfolding fresh
    head-inside v p l =
        let few = (size-three size good).1 in
        let i : first < size = omega arith in
        let x : Memory = record { found = fresh size first few i; rows = [] } in
        fetch-stopped d d2 size first old good z x x (stands-fresh (meaning d) size first few i z) v (head-only first (p x i))

    pub fetch-head : (v : VolumeFault) → ((x : Memory) → first < x.found.size → Surveyed meaning does d x (λ w. head_asks (w.shown first) first) (Err v) d2 x) → HeadFault meaning does d first (Err v) d2 → Fetches meaning does d first old (Err v) d2 old
    fetch-head (Layout e) p h = head-inside (Layout e) p h
    fetch-head (Disk f) p h = go f.cause refl h.1 where
      go : (c : Cause) → f.cause ≡ c → Refuses c (meaning d) first f (meaning d2) → Fetches meaning does d first old (Err (Disk f)) d2 old
      go Outside e r =
          record {
            reads = more none h.0;
            read = subst (ReadOnly (meaning d)) (sym r.same) (read-same (meaning d));
            stays = tt;
            answer = inr (record { good = good-at (meaning d) size z good; beyond = r.beyond; asked = h.0; outside = e; untouched = refl });
          }
      go Gone e r = head-inside (Disk f) p r.inside
