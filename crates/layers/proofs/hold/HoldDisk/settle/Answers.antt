use Rattle.std.proofs.Common.{sym}
use Rattle.disk.proofs.Refusals.{settles-gone}
use Rattle.layers.proofs.Holds.{settles-below, settles-err}
use Rattle.layers.proofs.Rows.{sound-table}
use Rattle.layers.proofs.Downs.{err-is, nothing-at}
use Rattle.layers.proofs.hold.HoldDisk.settle.Goals as goal

pub returns-then-not-live-clause-rule : goal.returns-then-not-live-clause-rule
returns-then-not-live-clause-rule g c = settles-gone _ (sound-table c.args.self.now.table _ c.live.ensures.sound) c.gone.ensures (sym c.if-not-live.ensures.is)

pub returns-in_err-put_all_down-clause-rule : goal.returns-in_err-put_all_down-clause-rule
returns-in_err-put_all_down-clause-rule g c =
    let e = err-is c.from_residual.result c.in_err-put_all_down.field-0.0 c.from_residual.ensures.1 in
    settles-err _ _ _ _ e c.in_err-put_all_down.ensures.rule

pub returns-clause-rule : goal.returns-clause-rule
returns-clause-rule g c =
    let h = c.in_ok-put_all_down.ensures in
    settles-below _ (nothing-at c.put_all_down.new.self.table.rows.items h.done.1) _ _ _ _ h.rule c.settle.ensures.rule
