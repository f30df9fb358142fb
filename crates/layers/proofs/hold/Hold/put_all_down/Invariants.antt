use Rattle.std.proofs.Common.{length, Ok}
use Rattle.layers.specs.Rows.{at}
use Rattle.layers.specs.Holding.{held, Spills, Downs}
use Rattle.layers.proofs.hold.Hold.put_all_down.Given as goal

abbrev pub invariant-loop-self : goal.invariant-loop-self
invariant-loop-self g l =
    Spills
    (held (at l.initial.self.table.rows.items) (g.D.Disk.meaning l.initial.self.below))
    (Ok tt)
    (held (at l.self.table.rows.items) (g.D.Disk.meaning l.self.below))
    × Downs g.D.Disk.does l.initial.self.table.rows.items l.initial.self.below l.self.table.rows.items l.self.below

abbrev pub decreases-loop-self : goal.decreases-loop-self
decreases-loop-self g l = length l.self.table.rows.items
