-- Bytes past the longest card and one sector more change nothing: either way the card is refused for its size.
use Rattle.std.proofs.Common.{◌≡◌, ℕ, ◌+◌, ◌*◌, ◌<◌, ◌≤◌, ◌⊎◌, Bool, true, false, List, length, take, Err, refl, ap, ◌∙◌, subst, arith, leb, inl, inr, length-take-le, take_all}
use Rattle.std.proofs.lemmas.Bool.{and_parts, leb-true, cases_lt}
use Rattle.disk.specs.Sectors.{count, sector}
use Rattle.catalog.specs.declared.fault.LayoutFault.TheVariants.{BadSize}
use Rattle.catalog.specs.declared.fault.VolumeFault.TheVariants.{Disk, Layout}
use Rattle.catalog.specs.Questions.{good_size, most_sectors}
use Rattle.survey.proofs.Surveying.{bad-size}
use Rattle.cardcheck.specs.declared.report.Report.{Report}
use Rattle.cardcheck.specs.declared.report.Report.TheVariants.{Sound, Broken}
use Rattle.cardcheck.specs.Judges.{Says, ReadsEnough}

too_large : (size : ℕ) → most_sectors < size → good_size size ≡ false
too_large size h = go (good_size size) refl
  where
    go : (b : Bool) → good_size size ≡ b → b ≡ false
    go false e = refl
    go true e = let a = leb-true size most_sectors (and_parts (leb 3 size) (leb size most_sectors) e).1 in absurd (omega arith)

-- two cards that are both too large
both_large : (cut bytes : List ℕ) (r : Report) → most_sectors < count cut → most_sectors < count bytes → Says cut r → Says bytes r
both_large cut bytes (Sound files n) p q h =
    let no = bad-size (count cut) (sector cut) (too_large (count cut) p) in
    let yes = h.is_found in
    cc
both_large cut bytes (Broken (Layout e)) p q h =
    let here = bad-size (count cut) (sector cut) (too_large (count cut) p) in
    let there = h.is_found in
    let large = too_large (count bytes) q in
    let same : BadSize ≡ e = cc in
    record { is_found = bad-size (count bytes) (sector bytes) large ∙ ap Err same; none = λ c good laid. cc }
both_large cut bytes (Broken (Disk f)) p q h = h

pub reads_enough : (n : ℕ) → 1024 * (most_sectors + 1) ≤ n → ReadsEnough n
reads_enough n m = record { says = λ bytes r h. go bytes r h (cases_lt n (length bytes)) }
  where
    go : (bytes : List ℕ) (r : Report) → Says (take n bytes) r → (n < length bytes) ⊎ (length bytes ≤ n) → Says bytes r
    go bytes r h (inl p) =
        let long = length-take-le n bytes (omega arith) in
        both_large (take n bytes) bytes r (omega (arith, long, m)) (omega (arith, p, m)) h
    go bytes r h (inr p) = subst (λ (bs : List ℕ). Says bs r) (take_all n bytes p) h
