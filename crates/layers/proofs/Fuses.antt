-- A fuse that counts hands a put on and counts it.
use Rattle.std.proofs.Common.{◌≡◌, ℕ, false, Ok, Err, refl, ap}
use Rattle.std.proofs.lemmas.Bool.{both_ways}
use Rattle.disk.specs.declared.fault.Cause.{Cause}
use Rattle.disk.specs.declared.fault.Cause.TheVariants.{Outside, Gone}
use Rattle.disk.specs.declared.fault.DiskFault.{DiskFault}
use Rattle.disk.specs.Meaning.{Contents, Meaning}
use Rattle.disk.specs.Rules.{Answer, Refuses, PutAnswers, Puts}
use Rattle.layers.specs.declared.fuse.FuseState.{FuseState}
use Rattle.layers.specs.declared.fuse.FuseState.TheVariants.{Counting}
use Rattle.layers.specs.Fusing.{fused}

module _ (m m' : Meaning) (n : ℕ) (x : Contents) (j k : ℕ) where
  refuses : (c : Cause) (f : DiskFault) → Refuses c m n f m' → Refuses c (fused (Counting j) m) n f (fused (Counting k) m')
  refuses Outside f h = record { beyond = h.beyond; sector = h.sector; same = ap (fused (Counting k)) h.same }
  refuses Gone f h = record { inside = h.inside; lost = h.lost }

  answers : (r : Answer) → PutAnswers m n x r m' → PutAnswers (fused (Counting j) m) n x r (fused (Counting k) m')
  answers (Ok u) h = record { inside = h.inside; was = h.was; live = h.live; shown = h.shown }
  answers (Err f) h = refuses f.cause f h

  counted : (r : Answer) → Puts m n x r m' → Puts (fused (Counting j) m) n x r (fused (Counting k) m')
  counted r p = record {
    answer = answers r p.answer;
    size = p.size;
    others = p.others;
    adds = p.adds;
    calm = record { stays = λ e. absurd (both_ways false refl e); accepts = λ e. absurd (both_ways false refl e) };
    sound = record { shows = p.sound.shows; some = p.sound.some; whole = p.sound.whole };
  }

pub puts-counted : (m m' : Meaning) (n : ℕ) (x : Contents) (s : FuseState) (j k : ℕ) (r : Answer) → s ≡ Counting j → Puts m n x r m' → Puts (fused s m) n x r (fused (Counting k) m')
puts-counted m m' n x s j k r is p = rw is (counted m m' n x j k r p)
