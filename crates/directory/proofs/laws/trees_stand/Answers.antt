use Rattle.directory.proofs.Treeing.{tree_laws}
use Rattle.directory.proofs.laws.trees_stand.Goals as goal

pub returns : goal.returns
returns c = tree_laws
