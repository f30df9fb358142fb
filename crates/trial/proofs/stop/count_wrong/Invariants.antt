use Rattle.trial.proofs.Stops.{Looked}
use Rattle.trial.proofs.stop.count_wrong.Given as goal

abbrev pub invariant-loop-k : goal.invariant-loop-k
invariant-loop-k g l = Looked (g.D.Disk.meaning l.initial.disk) l.steps l.k l.wrong (g.D.Disk.meaning l.disk)
