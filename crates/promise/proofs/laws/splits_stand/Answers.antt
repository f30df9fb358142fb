use Rattle.promise.proofs.laws.splits_stand.Goals as goal
use Rattle.promise.proofs.Splits.{splits}

pub returns : goal.returns
returns c = splits
