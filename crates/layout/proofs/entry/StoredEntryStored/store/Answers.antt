use Rattle.std.proofs.Common.{◌+◌, arith}
use Rattle.layout.proofs.Writing.{three-written}
use Rattle.layout.proofs.entry.StoredEntryStored.store.Goals as goal

pub returns-clause-after : goal.returns-clause-after
returns-clause-after c =
    let s = c.args.self.now in
    three-written c.args.sector.now c.store.new.sector c.store-2.new.sector c.store-3.new.sector c.args.at (c.args.at + 32) (c.args.at + 36) s.name.bytes s.file.0 s.below.0
    c.store.ensures.after c.store-2.ensures.after c.store-3.ensures.after (omega (arith, c.store.ensures.long)) (omega arith) (omega arith)
