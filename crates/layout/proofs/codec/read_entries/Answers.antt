use Rattle.std.proofs.Common.{[], ◌∷◌, length, ap, ◌∙◌, length-append, arith}
use Rattle.std.proofs.lemmas.Result.{err_from_is_err_and}
use Rattle.layout.specs.Entries.{check_entry}
use Rattle.layout.proofs.Paging.{row_read, row-refused}
use Rattle.layout.proofs.codec.read_entries.Goals as goal

pub returns-in_err-entry : goal.returns-in_err-entry
returns-in_err-entry c =
    let p = err_from_is_err_and c.from_residual.result c.from_residual.ensures.1 in
    rw (p.1, p.2)
    (row-refused c.args.size c.args.leaf c.args.sector.now c.args.count c.loop-i.i (omega arith) _ _ _ (c.in_err-entry.ensures ∙ ap (check_entry c.args.size c.args.leaf) c.load.ensures) c.loop-i.invariant.0)

pub loop-i-preserved : goal.loop-i-preserved
loop-i-preserved c = (
  row_read c.args.size c.args.leaf c.args.sector.now c.args.count c.loop-i.i (omega arith) _ _ _ c.in_ok-entry.entry
      (c.in_ok-entry.ensures ∙ ap (check_entry c.args.size c.args.leaf) c.load.ensures) c.push.ensures c.loop-i.invariant.0,
  omega (arith, ap length c.push.ensures ∙ length-append c.loop-i.entries (c.in_ok-entry.entry ∷ []), c.loop-i.invariant.1),
)
