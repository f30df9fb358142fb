use Rattle.catalog.proofs.laws.first_leaf_stands.Goals as goal
use Rattle.catalog.proofs.FirstLeaf.{serves}

pub returns : goal.returns
returns c = serves
