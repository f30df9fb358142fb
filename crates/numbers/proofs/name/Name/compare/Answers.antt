use Rattle.std.proofs.Common.{◌∙◌}
use Rattle.numbers.proofs.Ordered.{type-order}
use Rattle.numbers.proofs.name.Name.compare.Goals as goal

pub returns : goal.returns
returns c = c.cmp.ensures ∙ type-order c.args.self.now.bytes c.args.other.now.bytes
