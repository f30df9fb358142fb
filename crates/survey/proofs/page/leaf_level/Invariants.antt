use Rattle.survey.specs.Reads.{Reads}
use Rattle.survey.proofs.Levels.{Down}
use Rattle.survey.proofs.page.leaf_level.Given as goal

abbrev pub invariant-loop-level : goal.invariant-loop-level
invariant-loop-level g l = record {
  reads : Reads g.D.Disk.does l.initial.disk l.disk;
  down : Down (g.D.Disk.meaning l.initial.disk) (g.D.Disk.meaning l.disk) l.level l.page.0;
}
