use Rattle.std.proofs.Common.{take}
use Rattle.trial.specs.Runs.{Accepted}
use Rattle.trial.proofs.Steps.{Kept}
use Rattle.trial.proofs.run.run.Given as goal

abbrev pub invariant-loop-i : goal.invariant-loop-i
invariant-loop-i g l =
    Kept (g.D.Disk.meaning l.initial.disk) (take l.i l.steps) (g.D.Disk.meaning l.disk)
    × Accepted g.D.Disk.does l.initial.disk (take l.i l.steps) l.disk
