use Rattle.promise.proofs.laws.refusals_stand.Goals as goal
use Rattle.promise.proofs.Outcomes.{refusals}

pub returns : goal.returns
returns c = refusals
