use Rattle.layers.specs.Holding.Downs.{none, more}
use Rattle.layers.proofs.Holds.{spills-none, spills-more, spills-err}
use Rattle.layers.proofs.Rows.{sound-table}
use Rattle.layers.proofs.Downs.{err-is}
use Rattle.layers.proofs.hold.Hold.put_all_down.Goals as goal

pub loop-self-init : goal.loop-self-init
loop-self-init g c = (spills-none _ (sound-table c.args.self.now.table _ c.requires.sound) c.requires.live, none)

pub loop-self-preserved : goal.loop-self-preserved
loop-self-preserved g c =
    let h = c.in_ok-put_down.ensures in
    (spills-more _ _ _ _ c.loop-self.invariant.0 h.rule, more c.loop-self.invariant.1 h.done)

pub returns-in_err-put_down-clause-rule : goal.returns-in_err-put_down-clause-rule
returns-in_err-put_down-clause-rule g c =
    let e = err-is c.from_residual.result c.in_err-put_down.field-0.0 c.from_residual.ensures.1 in
    spills-err _ _ _ _ _ e c.loop-self.invariant.0 c.in_err-put_down.ensures.rule
