use Rattle.numbers.proofs.Naming.{name-fields}
use Rattle.numbers.proofs.Ordered.{type-order, name-order}
use Rattle.numbers.proofs.laws.names_stand.Goals as goal

pub returns : goal.returns
returns c = record { fields = name-fields; order = name-order; derived = λ a b. type-order a.bytes b.bytes }
