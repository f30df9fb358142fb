use Rattle.std.proofs.Common.{rules}
use Rattle.std.proofs.lemmas.Slice.{overwrites}
use Rattle.plan.specs.Plans.{blank}
use Rattle.plan.proofs.reader.fill.Goals as goal

pub returns : goal.returns
unfolding blank
returns c = search (rules, overwrites)
