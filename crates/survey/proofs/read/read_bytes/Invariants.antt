use Rattle.std.proofs.Common.{◌-◌}
use Rattle.survey.proofs.Reading.{Filling}
use Rattle.survey.proofs.read.read_bytes.Given as goal

abbrev pub decreases-loop-done : goal.decreases-loop-done
decreases-loop-done g l = l.end - l.done

abbrev pub invariant-loop-done : goal.invariant-loop-done
invariant-loop-done g l = Filling g.D.Disk.meaning g.D.Disk.does l.initial.disk l.size l.header l.first.0 l.initial.into l.done l.disk l.into
