use Rattle.std.proofs.Common.{refl, ap, arith}
use Rattle.survey.specs.declared.findings.Findings.{Findings}
use Rattle.survey.specs.Asks.{told, table_turn}
use Rattle.survey.proofs.Tellings.{exit, s_said, s_ends, s_start, s_more, s_broke}
use Rattle.survey.proofs.Files.{tables-all, turn-some, turn-none, turn-err}
use Rattle.survey.proofs.file.ask_tables.Goals as goal
use Rattle.survey.proofs.file.ask_tables.Goals.{in-Some+in_ok-ask_table, in_default}

pub loop-k-init : goal.loop-k-init
loop-k-init g c = λ b rows p. s_start _ _ (table_turn b c.args.first.0) 0

pub loop-k-preserved : goal.loop-k-preserved
loop-k-preserved g c = λ b rows p.
    s_more (table_turn b c.args.first.0) 0 _ (omega arith) (c.loop-k.invariant b rows p)
    (elim c.match-branch-2.branch [
      | in-Some+in_ok-ask_table w ↦ s_ends w.disk-is (ap (λ (k : Findings). record { found = k; rows = rows }) w.findings-is)
          (turn-some b _ p c.link.new.self c.args.first.0 _ _ _ _ (omega arith) c.last_sector-last.ensures c.tables.ensures w.in-Some.is c.in_ok-table.ensures.led (c.in_ok-table.ensures.told rows) (w.in_ok-ask_table.ensures rows))
      | in_default w ↦ s_ends w.disk-is (ap (λ (k : Findings). record { found = k; rows = rows }) w.findings-is)
          (turn-none b _ p _ c.link.new.self c.args.first.0 _ _ _ _ (omega arith) c.last_sector-last.ensures c.tables.ensures w.in_default.is c.in_ok-table.ensures.led (c.in_ok-table.ensures.told rows))
    ])

pub returns-in_err-table : goal.returns-in_err-table
returns-in_err-table g c = λ b rows p.
    s_said (λ w s. tables-all b c.args.first.0 12 w refl) (ap told (exit _ c.from_residual.ensures.1))
    (s_broke (table_turn b c.args.first.0) 0 _ 12 (omega arith) (omega arith) (c.loop-k.invariant b rows p)
    (turn-err b _ p _ c.args.first.0 _ _ _ _ (omega arith) c.last_sector-last.ensures c.tables.ensures (c.in_err-table.ensures.told rows)))

pub returns-in_err-ask_table : goal.returns-in_err-ask_table
returns-in_err-ask_table g c = λ b rows p.
    s_said (λ w s. tables-all b c.args.first.0 12 w refl) (ap told (exit _ c.from_residual-in_err-ask_table.ensures.1))
    (s_broke (table_turn b c.args.first.0) 0 _ 12 (omega arith) (omega arith) (c.loop-k.invariant b rows p)
    (turn-some b _ p c.link.new.self c.args.first.0 _ _ _ _ (omega arith) c.last_sector-last.ensures c.tables.ensures c.in-Some.is c.in_ok-table.ensures.led (c.in_ok-table.ensures.told rows) (c.in_err-ask_table.ensures rows)))

pub returns : goal.returns
returns g c = λ b rows p. s_said (λ w s. tables-all b c.args.first.0 _ w (omega arith)) refl (c.loop-k.invariant b rows p)
