use Rattle.std.proofs.Common.{refl}
use Rattle.disk.proofs.Images.{sound-over}
use Rattle.disk.proofs.image.ImageDisk.size.Goals as goal

pub returns : goal.returns
returns c = record { is = refl; same = refl; sound = sound-over _ }
