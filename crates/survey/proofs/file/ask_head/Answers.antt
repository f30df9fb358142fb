use Rattle.std.proofs.Common.{true, false, Err, refl, ap}
use Rattle.catalog.specs.declared.fault.VolumeFault.TheVariants.{Layout}
use Rattle.survey.proofs.Files.{head-no, head-own, head-all, header-of, own-test}
use Rattle.survey.proofs.Tellings.{tells_said}
use Rattle.survey.proofs.file.ask_head.Goals as goal

pub returns-in-Err-clause-told : goal.returns-in-Err-clause-told
returns-in-Err-clause-told c = λ x. tells_said (λ w. refl) (ap (λ f. Err (Layout f)) c.head_fault.ensures) (head-no c.args.bytes.now c.args.first x c.in-Err.fault c.in-Err.ensures)

pub returns-then-ne-clause-told : goal.returns-then-ne-clause-told
returns-then-ne-clause-told c = λ x.
    head-own c.args.bytes.now _ x c.in-Ok.header c.in-Ok.ensures (own-test c.args.bytes.now c.in-Ok.header _ c.args.first.0 true (header-of c.args.bytes.now _ c.in-Ok.ensures) c.ne.ensures c.from.ensures c.if-ne.true)

pub returns-clause-told : goal.returns-clause-told
returns-clause-told c = λ x.
    head-all c.args.bytes.now _ x c.in-Ok.header c.in-Ok.ensures (own-test c.args.bytes.now c.in-Ok.header _ c.args.first.0 false (header-of c.args.bytes.now _ c.in-Ok.ensures) c.ne.ensures c.from.ensures c.if-ne.false)

pub returns-clause-head : goal.returns-clause-head
returns-clause-head c = header-of c.args.bytes.now _ c.in-Ok.ensures
