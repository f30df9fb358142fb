use Rattle.tree.proofs.lookup_stands.Goals as goal
use Rattle.tree.proofs.Look.{lookup-finds}

pub returns-clause-finds : goal.returns-clause-finds
returns-clause-finds g c = lookup-finds
