use Rattle.std.proofs.Common.{ap, ◌∙◌, set, arith}
use lib.Seq.{take-set-lt}
use Rattle.layout.proofs.entries.Entries.replace.Goals as goal

pub returns-clause-after : goal.returns-clause-after
returns-clause-after c =
    let p = c.self.inside in
    take-set-lt p.count p.places c.args.i c.args.entry (omega arith) ∙ ap (λ xs. set xs c.args.i c.args.entry) c.self.view_is
