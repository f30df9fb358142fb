use Rattle.std.proofs.Common.{◌+◌, ◌-◌, ◌*◌}
use Rattle.survey.specs.Asks.{Surveyed, page_turn, yes}
use Rattle.survey.proofs.Steps.{run}
use Rattle.survey.proofs.page.+pages.Given as goal

abbrev pub decreases-ask_below : goal.decreases-ask_below
decreases-ask_below g l = 2 * (5 - l.parent.level) + 1

abbrev pub decreases-ask_page : goal.decreases-ask_page
decreases-ask_page g l = 2 * (6 - l.place.level)

abbrev pub invariant-ask_page-loop-i : goal.invariant-ask_page-loop-i
invariant-ask_page-loop-i g l =
    Surveyed g.D.Disk.meaning g.D.Disk.does l.initial.disk (record { found = l.initial.findings; rows = l.initial.rows }) (λ w. run (page_turn l.bytes l.place.level l.place.page.0 w) 0 l.i) yes l.disk (record { found = l.findings; rows = l.rows })
