use Rattle.std.proofs.Common.{sym, ap, ◌∙◌, subst}
use Rattle.disk.specs.Sectors.{over}
use Rattle.disk.specs.declared.image.Image.{Image}
use Rattle.layers.specs.Fusing.{fused}
use Rattle.layers.specs.Holding.{held}
use Rattle.layers.specs.Rows.{at}
use Rattle.layers.specs.declared.fuse.Fuse.{Fuse}
use Rattle.layers.specs.declared.hold.Hold.{Hold}
use Rattle.powerstop.specs.Tries.{Clean, Told, image_meaning, image_does, hold_meaning, hold_does, fuse_meaning, fuse_does, IsImage, IsHold, IsFuse}
use Rattle.powerstop.proofs.Cleans.{clean-over, clean-fused, clean-held, of-report}
use Rattle.powerstop.proofs.pile.try_over.Goals as goal

pub returns-in-Image-clause-clean : goal.returns-in-Image-clause-clean
returns-in-Image-clause-clean c zero-at = c.try_disk.ensures.clean (clean-over _ _ (c.new-image.ensures ∙ zero-at))

pub returns-in-Hold-clause-clean : goal.returns-in-Hold-clause-clean
returns-in-Hold-clause-clean c zero-at =
    let image = clean-over _ _ (c.new-image.ensures ∙ zero-at) in
    let below = subst (λ (b : Image). Clean (over b.bytes.now)) (sym c.new.ensures.below) image in
    c.try_disk-in-Hold.ensures.clean (clean-held _ _ c.new.ensures.empty below)

pub returns-in-Fuse-clause-clean : goal.returns-in-Fuse-clause-clean
returns-in-Fuse-clause-clean c zero-at =
    let image = clean-over _ _ (c.new-image.ensures ∙ zero-at) in
    let below = subst (λ (b : Image). Clean (over b.bytes.now)) (sym c.new-in-Fuse.ensures.below) image in
    c.try_disk-in-Fuse.ensures.clean (clean-fused _ _ _ c.new-in-Fuse.ensures.state below)

pub returns-in-HoldOverFuse-clause-clean : goal.returns-in-HoldOverFuse-clause-clean
returns-in-HoldOverFuse-clause-clean c zero-at =
    let image = clean-over _ _ (c.new-image.ensures ∙ zero-at) in
    let fuse = clean-fused _ _ _ c.new-in-HoldOverFuse.ensures.state (subst (λ (b : Image). Clean (over b.bytes.now)) (sym c.new-in-HoldOverFuse.ensures.below) image) in
    let below = subst (λ (b : Fuse Image). Clean (fused b.state (over b.below.bytes.now))) (sym c.new-in-HoldOverFuse-2.ensures.below) fuse in
    c.try_disk-in-HoldOverFuse.ensures.clean (clean-held _ _ c.new-in-HoldOverFuse-2.ensures.empty below)

pub returns-in-FuseOverHold-clause-clean : goal.returns-in-FuseOverHold-clause-clean
returns-in-FuseOverHold-clause-clean c zero-at =
    let image = clean-over _ _ (c.new-image.ensures ∙ zero-at) in
    let hold = clean-held _ _ c.new-in-FuseOverHold.ensures.empty (subst (λ (b : Image). Clean (over b.bytes.now)) (sym c.new-in-FuseOverHold.ensures.below) image) in
    let below = subst (λ (b : Hold Image). Clean (held (at b.table.rows.items) (over b.below.bytes.now))) (sym c.new-in-FuseOverHold-2.ensures.below) hold in
    c.try_disk-in-FuseOverHold.ensures.clean (clean-fused _ _ _ c.new-in-FuseOverHold-2.ensures.state below)

pub returns-in-Hold-clause-ran : goal.returns-in-Hold-clause-ran
returns-in-Hold-clause-ran c =
    rw c.in-Hold.is
    (of-report (IsHold (IsImage c.args.bytes.now)) (λ d. Told (hold_meaning image_meaning) (hold_does image_meaning image_does) d c.args.steps.now) _ c.new.result (ap (λ (b : Image). b.bytes.now) c.new.ensures.below ∙ c.new-image.ensures, c.new.ensures.empty) c.try_disk-in-Hold.ensures.ran)

pub returns-in-HoldOverFuse-clause-ran : goal.returns-in-HoldOverFuse-clause-ran
returns-in-HoldOverFuse-clause-ran c =
    let below = subst (IsFuse c.args.setup.passes (IsImage c.args.bytes.now)) (sym c.new-in-HoldOverFuse-2.ensures.below)
    (ap (λ (b : Image). b.bytes.now) c.new-in-HoldOverFuse.ensures.below ∙ c.new-image.ensures, c.new-in-HoldOverFuse.ensures.state) in
    rw c.in-HoldOverFuse.is
    (of-report (IsHold (IsFuse c.args.setup.passes (IsImage c.args.bytes.now)))
    (λ d. Told (hold_meaning (fuse_meaning image_meaning)) (hold_does (fuse_meaning image_meaning) (fuse_does image_meaning image_does)) d c.args.steps.now)
    _ c.new-in-HoldOverFuse-2.result (below, c.new-in-HoldOverFuse-2.ensures.empty) c.try_disk-in-HoldOverFuse.ensures.ran)

pub returns-in-FuseOverHold-clause-ran : goal.returns-in-FuseOverHold-clause-ran
returns-in-FuseOverHold-clause-ran c =
    let below = subst (IsHold (IsImage c.args.bytes.now)) (sym c.new-in-FuseOverHold-2.ensures.below)
    (ap (λ (b : Image). b.bytes.now) c.new-in-FuseOverHold.ensures.below ∙ c.new-image.ensures, c.new-in-FuseOverHold.ensures.empty) in
    rw c.in-FuseOverHold.is
    (of-report (IsFuse c.args.setup.passes (IsHold (IsImage c.args.bytes.now)))
    (λ d. Told (fuse_meaning (hold_meaning image_meaning)) (fuse_does (hold_meaning image_meaning) (hold_does image_meaning image_does)) d c.args.steps.now)
    _ c.new-in-FuseOverHold-2.result (below, c.new-in-FuseOverHold-2.ensures.state) c.try_disk-in-FuseOverHold.ensures.ran)
