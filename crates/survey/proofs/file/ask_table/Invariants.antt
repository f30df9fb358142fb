use Rattle.std.proofs.Common.{◌≡◌, List}
use Rattle.disk.specs.Meaning.{Contents}
use Rattle.numbers.specs.Lengths.{table_sectors}
use Rattle.layout.specs.Words.{addresses_in}
use Rattle.survey.specs.declared.row.FileRow.{FileRow}
use Rattle.survey.specs.Asks.{Tells, entry_turn, yes}
use Rattle.survey.proofs.Steps.{run}
use Rattle.survey.proofs.file.ask_table.Given as goal

abbrev pub invariant-loop-j : goal.invariant-loop-j
invariant-loop-j g l =
    (c : Contents) (rows : List FileRow) → l.addresses ≡ addresses_in c 0 table_sectors →
    Tells (record { found = l.initial.findings; rows = rows }) (λ w. run (entry_turn c l.last l.k l.table.0 w) 0 l.j) yes (record { found = l.findings; rows = rows })
