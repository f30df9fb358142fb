use Rattle.std.proofs.Common.{List}
use Rattle.disk.specs.Meaning.{Contents}
use Rattle.survey.specs.declared.row.FileRow.{FileRow}
use Rattle.survey.specs.Asks.{Tells, HeaderOf, near_turn, yes}
use Rattle.survey.proofs.Steps.{run}
use Rattle.survey.proofs.file.ask_near.Given as goal

abbrev pub invariant-loop-i : goal.invariant-loop-i
invariant-loop-i l =
    (c : Contents) (rows : List FileRow) → HeaderOf c l.header →
    Tells (record { found = l.initial.findings; rows = rows }) (λ w. run (near_turn c l.first.0 w) 1 l.i) yes (record { found = l.findings; rows = rows })
