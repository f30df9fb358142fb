use Rattle.std.proofs.Common.{rules, ◌∙◌, ap, take, take_at}
use Rattle.cardcheck.proofs.Verdicts.{judges_sound, judges_broken}
use Rattle.cardcheck.proofs.report.Report.of.Goals as goal

pub returns-in-Ok : goal.returns-in-Ok
returns-in-Ok c =
    let cut = c.truncate.ensures.items in
    let whole = take_at c.survey.new.rows _ c.in_ok-files.files.len (search rules) in
    judges_sound c.in-Ok.counts c.truncate.new.self (search rules) c.in-Ok.ensures (cut ∙ ap (take c.in-Ok.counts.names) whole)

pub returns-in-Err : goal.returns-in-Err
returns-in-Err c = judges_broken c.in-Err.fault c.in-Err.ensures
