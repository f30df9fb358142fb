use Rattle.std.proofs.Common.{◌<◌, length, sym, ap, ◌∙◌, arith}
use Rattle.disk.proofs.Refusals.{puts-outside, puts-gone}
use Rattle.layers.specs.Rows.{at}
use Rattle.layers.proofs.Holds.{puts-kept, then-put, puts-err, spills-from}
use Rattle.layers.proofs.Rows.{all_whole, sound-table}
use Rattle.layers.proofs.Downs.{err-is, kept-with}
use Rattle.layers.proofs.hold.HoldDisk.put.Goals as goal

pub returns-then-n-size-clause-rule : goal.returns-then-n-size-clause-rule
returns-then-n-size-clause-rule g c =
    puts-outside _ (sound-table c.args.self.now.table _ c.size.ensures.sound) c.outside.ensures (omega (arith, c.size.ensures.is))

pub returns-then-not-live-clause-rule : goal.returns-then-not-live-clause-rule
returns-then-not-live-clause-rule g c =
    puts-gone _ (sound-table c.args.self.now.table _ c.size.ensures.sound) c.gone.ensures (sym c.if-not-live.ensures.is) (omega (arith, c.size.ensures.is))

pub returns-in_default-clause-rule : goal.returns-in_default-clause-rule
returns-in_default-clause-rule g c =
    let u = c.keep.new.self in
    puts-kept (at c.args.self.now.table.rows.items) (at u.rows.items) _ _ _ (omega (arith, c.size.ensures.is)) (sym c.if-not-live.ensures.is) c.size.ensures.sound (all_whole u.rows.items u.tidy) c.in_default.ensures.kept.kept

pub returns-in_err-put_down-clause-rule : goal.returns-in_err-put_down-clause-rule
returns-in_err-put_down-clause-rule g c =
    let told = c.in-Err.ensures in
    let e = err-is c.from_residual.result c.in_err-put_down.field-0.0 c.from_residual.ensures.1 in
    let s = spills-from _ (at c.args.self.now.table.rows.items) _ _ _ (λ k. ap (λ l. at l k) told.same) c.in_err-put_down.ensures.rule in
    puts-err _ _ _ _ _ _ e (omega (arith, c.size.ensures.is)) s

pub returns-clause-rule : goal.returns-clause-rule
returns-clause-rule g c =
    let v = c.put_down.new.self.table.rows.items in
    let u = c.keep-2.new.self in
    let told = c.in-Err.ensures in
    let h = c.in_ok-put_down.ensures in
    let s = spills-from _ (at c.args.self.now.table.rows.items) _ _ _ (λ k. ap (λ l. at l k) told.same) h.rule in
    let long = ap length told.same ∙ told.full in
    let room : length v < 16 = omega (arith, h.fewer) in
    let with = kept-with v _ room c.keep-2.ensures.full c.keep-2.ensures.kept in
    then-put _ _ _ _ _ s (puts-kept (at v) _ _ _ _ (omega (arith, c.size.ensures.is, s.size)) s.answer.1 h.sound (all_whole u.rows.items u.tidy) with.kept)
