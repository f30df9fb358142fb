use Rattle.std.proofs.Common.{arith}
use Rattle.disk.proofs.Refusals.{gets-outside}
use Rattle.disk.proofs.Images.{sound-over, gets-over}
use Rattle.disk.proofs.image.ImageDisk.get.Goals as goal

pub returns-then-n-size-clause-rule : goal.returns-then-n-size-clause-rule
returns-then-n-size-clause-rule c = gets-outside _ (sound-over _) c.outside.ensures (omega (arith, c.size.ensures.is))

pub returns-clause-rule : goal.returns-clause-rule
returns-clause-rule c = gets-over _ _ _ _ (omega (arith, c.size.ensures.is)) c.read.ensures
