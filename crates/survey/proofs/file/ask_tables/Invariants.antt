use Rattle.std.proofs.Common.{List}
use Rattle.disk.specs.Meaning.{Contents}
use Rattle.survey.specs.declared.row.FileRow.{FileRow}
use Rattle.survey.specs.Asks.{Surveyed, HeaderOf, table_turn, yes}
use Rattle.survey.proofs.Steps.{run}
use Rattle.survey.proofs.file.ask_tables.Given as goal

abbrev pub invariant-loop-k : goal.invariant-loop-k
invariant-loop-k g l =
    (c : Contents) (rows : List FileRow) → HeaderOf c l.header →
    Surveyed g.D.Disk.meaning g.D.Disk.does l.initial.disk (record { found = l.initial.findings; rows = rows }) (λ w. run (table_turn c l.first.0 w) 0 l.k) yes l.disk (record { found = l.findings; rows = rows })
