use Rattle.std.proofs.Common.{refl, arith, ◌∙◌}
use Rattle.layout.proofs.Heading.{put-one-more}
use Rattle.layout.proofs.word.store_addresses.Goals as goal

pub loop-i-preserved : goal.loop-i-preserved
loop-i-preserved c =
    c.store.ensures.after
    ∙ put-one-more c.args.sector.now c.loop-i.sector c.args.at c.loop-i.i _ c.args.list.now (record { 0 = 0 }) (omega arith) (omega arith) refl c.loop-i.invariant
