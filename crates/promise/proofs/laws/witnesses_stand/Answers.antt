use Rattle.promise.proofs.laws.witnesses_stand.Goals as goal
use Rattle.promise.proofs.Witnesses.{witnesses, refused}

pub returns : goal.returns
returns c = record { done = witnesses; refused = refused }
