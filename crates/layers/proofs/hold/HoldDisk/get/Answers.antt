use Rattle.std.proofs.Common.{sym, refl, arith}
use Rattle.disk.proofs.Refusals.{gets-outside, gets-gone}
use Rattle.layers.proofs.Holds.{gets_kept, gets-below}
use Rattle.layers.proofs.Rows.{all_whole, sound-table}
use Rattle.layers.proofs.hold.HoldDisk.get.Goals as goal

pub returns-then-n-size-clause-rule : goal.returns-then-n-size-clause-rule
returns-then-n-size-clause-rule g c =
    gets-outside _ (sound-table c.args.self.now.table _ c.size.ensures.sound) c.outside.ensures (omega (arith, c.size.ensures.is))

pub returns-then-not-live-clause-rule : goal.returns-then-not-live-clause-rule
returns-then-not-live-clause-rule g c =
    gets-gone _ (sound-table c.args.self.now.table _ c.size.ensures.sound) c.gone.ensures (sym c.if-not-live.ensures.is) (omega (arith, c.size.ensures.is))

pub returns-in-Some-clause-rule : goal.returns-in-Some-clause-rule
returns-in-Some-clause-rule g c =
    let t = c.args.self.now.table in
    gets_kept _ _ _ _ _ c.size.ensures.sound (all_whole t.rows.items t.tidy) (omega (arith, c.size.ensures.is)) (sym c.if-not-live.ensures.is) (sym c.in-Some.ensures)

pub returns-in-None-clause-rule : goal.returns-in-None-clause-rule
returns-in-None-clause-rule g c =
    let t = c.args.self.now.table in
    gets-below _ _ _ _ _ _ _ _ (all_whole t.rows.items t.tidy) (sym c.in-None.ensures) refl c.get-in-None.ensures.rule
