use Rattle.std.proofs.Common.{◌≡◌, ◌+◌, set, sym, refl, ap, ◌∙◌, arith}
use Rattle.std.proofs.lemmas.List.{set_past}
use Rattle.survey.proofs.Listing.{listed, row-line}
use Rattle.survey.proofs.findings.Findings.list.Goals as goal
use Rattle.survey.proofs.findings.Findings.list.Goals.{then-self-rows, else-self-rows}

pub returns-clause-told : goal.returns-clause-told
returns-clause-told c = λ w.
    let laid : c.if-self-rows.rows ≡ set c.args.rows.now c.args.self.now.names c.args.row =
    elim c.if-self-rows.branch [
      | then-self-rows v ↦ v.rows-is
      | else-self-rows v ↦ v.rows-is ∙ sym (set_past c.args.rows.now c.args.self.now.names c.args.row (omega arith))
    ] in
    listed w _ _ _ refl refl refl refl refl (ap (λ n. c.args.self.now.file_sectors + n) c.sectors.ensures)
    (laid ∙ ap (set c.args.rows.now c.args.self.now.names) (sym (row-line c.args.row.name.bytes c.args.row.first.0 c.args.row.length.0 c.requires.name)))
