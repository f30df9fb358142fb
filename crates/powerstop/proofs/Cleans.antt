-- Every pile over a blank image is one that a plan can start from.
use Rattle.std.proofs.Common.{◌≡◌, ℕ, ◌+◌, ◌-◌, ◌*◌, ◌≤◌, List, [], Ok, Err, Result, length, replicate, refl, ap, ◌∙◌, arith}
use Rattle.std.proofs.lemmas.List.{take-replicate, drop-replicate, length-replicate}
use Rattle.std.specs.Result.{IfOk}
use Rattle.disk.specs.Meaning.{Meaning}
use Rattle.disk.proofs.Images.{only}
use Rattle.disk.specs.Sectors.{sector, over}
use Rattle.layers.specs.declared.fuse.FuseState.{FuseState}
use Rattle.layers.specs.declared.fuse.FuseState.TheVariants.{Counting}
use Rattle.layers.specs.declared.kept.Kept.{Kept}
use Rattle.layers.specs.Fusing.{fused}
use Rattle.layers.specs.Holding.{held}
use Rattle.layers.specs.Rows.{at}
use Rattle.plan.specs.Plans.{blank}
use Rattle.powerstop.specs.Tries.{Clean}
use Rattle.trial.specs.declared.stop.Report.{Report}

-- a sector that ends within n zeros is blank
blank-sector : (n k : ℕ) → 1024 * k + 1024 ≤ n → sector (replicate n 0) k ≡ blank
unfolding sector blank
blank-sector n k h = rw (drop-replicate {X = ℕ} (1024 * k) n 0, take-replicate {X = ℕ} 1024 (n - 1024 * k) 0 (omega arith)) refl

pub clean-over : (bytes : List ℕ) (n : ℕ) → bytes ≡ replicate n 0 → Clean (over bytes)
clean-over bytes n e = record {
  fresh = record { live = refl; settled = λ k x lt i. only i };
  blank = λ k lt. ap (λ b. sector b k) e ∙ blank-sector n k (let l = ap length e ∙ length-replicate {A = ℕ} n 0 in omega arith);
}

pub clean-fused : (m : Meaning) (s : FuseState) (k : ℕ) → s ≡ Counting k → Clean m → Clean (fused s m)
clean-fused m s k is c = rw is (record {
  fresh = record { live = c.fresh.live; settled = c.fresh.settled };
  blank = c.blank;
})

pub clean-held : (m : Meaning) (s : List Kept) → s ≡ [] → Clean m → Clean (held (at s) m)
clean-held m s is c = rw is (record {
  fresh = record { live = c.fresh.live; settled = c.fresh.settled };
  blank = c.blank;
})

-- what holds of a report holds of a result that has one
pub of-report : {D E : Type 0} (Is : D → Type 0) (Tells : D → Report → Type 0) (r : Result Report E) (d : D) → Is d → IfOk r (Tells d) → IfOk r (λ p. (d : D) × Is d × Tells d p)
of-report Is Tells (Ok p) d i t = (d, i, t)
of-report Is Tells (Err e) d i t = tt
