use Rattle.std.proofs.Common.{◌-◌}
use Rattle.layers.proofs.Fuses.{puts-counted}
use Rattle.layers.proofs.fuse.FuseDisk.put.Goals as goal

pub returns-in-Counting-clause-rule : goal.returns-in-Counting-clause-rule
returns-in-Counting-clause-rule g c = puts-counted _ _ _ _ _ c.in-Counting.left (c.in-Counting.left - 1) _ c.in-Counting.is c.put.ensures.rule
