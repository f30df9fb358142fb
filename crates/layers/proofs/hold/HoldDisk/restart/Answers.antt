use Rattle.layers.proofs.Holds.{restarts-below}
use Rattle.layers.proofs.Downs.{nothing-at}
use Rattle.layers.proofs.hold.HoldDisk.restart.Goals as goal

pub returns-clause-rule : goal.returns-clause-rule
returns-clause-rule g c = restarts-below _ (nothing-at c.clear.new.self.rows.items c.clear.ensures) _ _ _ _ c.restart.ensures.rule
