use Rattle.tree.proofs.examples_stand.Goals as goal
use Rattle.tree.proofs.Tall.{reached}

pub returns-clause-reached : goal.returns-clause-reached
returns-clause-reached c = reached
