-- What a try of a plan on a pile finds.
use Rattle.std.specs.Prelude.{◌≡◌, ℕ, List, [], IfOk, Result}
use Rattle.disk.specs.declared.image.Image.{Image}
use Rattle.disk.specs.Meaning.{Meaning}
use Rattle.disk.specs.Rules.{Answer, Request}
use Rattle.disk.specs.Sectors.{over, ImageDoes}
use Rattle.layers.specs.declared.fuse.Fuse.{Fuse}
use Rattle.layers.specs.declared.fuse.FuseState.TheVariants.{Counting}
use Rattle.layers.specs.declared.hold.Hold.{Hold}
use Rattle.layers.specs.Fusing.{fused, FuseDoes}
use Rattle.layers.specs.Holding.{held, HoldDoes}
use Rattle.layers.specs.Rows.{at}
use Rattle.plan.specs.declared.step.Step.{Step}
use Rattle.powerstop.specs.declared.pile.Pile.{Pile}
use Rattle.powerstop.specs.declared.pile.Pile.TheVariants as pile
use Rattle.trial.specs.Runs.{Fresh}
use Rattle.trial.specs.Stops.{Blank, Reported}
use Rattle.trial.specs.declared.stop.Report.{Report}

-- a disk that a plan can start from: live, settled and blank
pub record Clean (m : Meaning) : Type 0 where
  pub fresh : Fresh m
  pub blank : Blank m

-- no sector shows what the plan does not allow
abbrev pub NothingWrong : {E : Type 0} → Result Report E → Type 0
NothingWrong r = IfOk r (λ p. p.wrong ≡ 0)

abbrev pub NothingWrongFrom : {E : Type 0} → Meaning → Result Report E → Type 0
NothingWrongFrom m r = Clean m → NothingWrong r

-- the report is of a run of the plan on this disk, a restart, and a look at all sectors
module _ {D : Type 0} (meaning : D → Meaning) (does : D → Request → Answer → D → Type 0) (d : D) (ss : List Step) where
  abbrev pub Told : Report → Type 0
  Told p = (d₁ : D) × Reported meaning does d ss p d₁

  abbrev pub Truthful : {E : Type 0} → Result Report E → Type 0
  Truthful r = IfOk r Told

-- what an image, a hold over a disk and a fuse over a disk mean and do
abbrev pub image_meaning : Image → Meaning
image_meaning d = over d.bytes.now

abbrev pub image_does : Image → Request → Answer → Image → Type 0
image_does d q r e = ImageDoes d.bytes.now q r e.bytes.now

module _ {D : Type 0} (meaning : D → Meaning) where
  abbrev pub hold_meaning : Hold D → Meaning
  hold_meaning d = held (at d.table.rows.items) (meaning d.below)

  abbrev pub fuse_meaning : Fuse D → Meaning
  fuse_meaning d = fused d.state (meaning d.below)

  module _ (does : D → Request → Answer → D → Type 0) where
    abbrev pub hold_does : Hold D → Request → Answer → Hold D → Type 0
    hold_does d q r e = HoldDoes does (meaning d.below) d.table.rows.items d.below q r e.table.rows.items e.below

    abbrev pub fuse_does : Fuse D → Request → Answer → Fuse D → Type 0
    fuse_does d q r e = FuseDoes does (meaning d.below).size d.state d.below q r e.state e.below

-- an image over these bytes, a hold that keeps nothing, a fuse that lets so many puts pass
abbrev pub IsImage : List ℕ → Image → Type 0
IsImage bytes d = d.bytes.now ≡ bytes

abbrev pub IsHold : {D : Type 0} → (D → Type 0) → Hold D → Type 0
IsHold below d = below d.below × (d.table.rows.items ≡ [])

abbrev pub IsFuse : {D : Type 0} → ℕ → (D → Type 0) → Fuse D → Type 0
IsFuse passes below d = below d.below × (d.state ≡ Counting passes)

-- the report is of this plan on this pile, built over an image of these bytes
module _ (passes : ℕ) (bytes : List ℕ) (ss : List Step) (p : Report) where
  abbrev pub OnPile : Pile → Type 0
  OnPile pile.Image = (d : Image) × IsImage bytes d × Told image_meaning image_does d ss p
  OnPile pile.Hold = (d : Hold Image) × IsHold (IsImage bytes) d × Told (hold_meaning image_meaning) (hold_does image_meaning image_does) d ss p
  OnPile pile.Fuse = (d : Fuse Image) × IsFuse passes (IsImage bytes) d × Told (fuse_meaning image_meaning) (fuse_does image_meaning image_does) d ss p
  OnPile pile.HoldOverFuse =
      let m = fuse_meaning image_meaning in
      (d : Hold (Fuse Image)) × IsHold (IsFuse passes (IsImage bytes)) d × Told (hold_meaning m) (hold_does m (fuse_does image_meaning image_does)) d ss p
  OnPile pile.FuseOverHold =
      let m = hold_meaning image_meaning in
      (d : Fuse (Hold Image)) × IsFuse passes (IsHold (IsImage bytes)) d × Told (fuse_meaning m) (fuse_does m (hold_does image_meaning image_does)) d ss p

-- and so it is, where there is one
abbrev pub Tried : {E : Type 0} → ℕ → List ℕ → List Step → Pile → Result Report E → Type 0
Tried passes bytes ss k r = IfOk r (λ p. OnPile passes bytes ss p k)
