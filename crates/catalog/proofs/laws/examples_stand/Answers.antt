use Rattle.catalog.proofs.laws.examples_stand.Goals as goal
use Rattle.catalog.proofs.Examples.{examples}

pub returns : goal.returns
returns c = examples
