use Rattle.std.proofs.Common.{arith}
use Rattle.disk.proofs.Refusals.{puts-outside}
use Rattle.disk.proofs.Images.{sound-over, puts-over, does-put}
use Rattle.disk.proofs.image.ImageDisk.put.Goals as goal

pub returns-then-n-size-clause-rule : goal.returns-then-n-size-clause-rule
returns-then-n-size-clause-rule c = puts-outside _ (sound-over _) c.outside.ensures (omega (arith, c.size.ensures.is))

pub returns-clause-rule : goal.returns-clause-rule
returns-clause-rule c = let w = c.write_sector.ensures in puts-over _ _ _ (omega (arith, c.size.ensures.is)) w.whole w.after

pub returns-clause-done : goal.returns-clause-done
returns-clause-done c = let w = c.write_sector.ensures in does-put _ _ _ (omega (arith, c.size.ensures.is)) w.whole w.after
