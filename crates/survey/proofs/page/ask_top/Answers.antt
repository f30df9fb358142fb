use Rattle.std.proofs.Common.{true, false}
use Rattle.survey.proofs.Pages.{count-test, level-test, top-mark, top-count, top-level, top-all, top-of}
use Rattle.survey.proofs.page.ask_top.Goals as goal

pub returns-in_default-clause-told : goal.returns-in_default-clause-told
returns-in_default-clause-told c = λ x. top-mark c.args.bytes.now _ _ c.args.place.page x _ c.read.ensures c.in_default.not-Ok

pub returns-then-is_err-clause-told : goal.returns-then-is_err-clause-told
returns-then-is_err-clause-told c = λ x.
    top-count c.args.bytes.now _ _ c.args.place.page x c.in-Ok.head c.in-Ok.ensures (count-test _ _ _ true c.check_count.ensures c.kind_at.ensures c.is_err.ensures.value c.if-is_err.true)

pub returns-then-not-is_on_level-clause-told : goal.returns-then-not-is_on_level-clause-told
returns-then-not-is_on_level-clause-told c = λ x.
    top-level c.args.bytes.now _ _ c.args.place.page x c.in-Ok.head c.in-Ok.ensures (count-test _ _ _ false c.check_count.ensures c.kind_at.ensures c.is_err.ensures.value c.if-is_err.false)
    (level-test _ _ c.in-Ok.head false c.is_on_level.ensures c.is_leaf.ensures c.if-not-is_on_level.true)

pub returns-clause-told : goal.returns-clause-told
returns-clause-told c = λ x.
    top-all c.args.bytes.now _ _ c.args.place.page x c.in-Ok.head c.in-Ok.ensures (count-test _ _ _ false c.check_count.ensures c.kind_at.ensures c.is_err.ensures.value c.if-is_err.false)
    (level-test _ _ c.in-Ok.head true c.is_on_level.ensures c.is_leaf.ensures c.if-not-is_on_level.false)

pub returns-clause-top : goal.returns-clause-top
returns-clause-top c =
    top-of c.args.bytes.now c.args.leaf_level c.args.place.level c.in-Ok.head c.in-Ok.ensures (count-test _ _ _ false c.check_count.ensures c.kind_at.ensures c.is_err.ensures.value c.if-is_err.false)
    (level-test _ _ c.in-Ok.head true c.is_on_level.ensures c.is_leaf.ensures c.if-not-is_on_level.false)
