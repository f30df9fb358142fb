use Rattle.promise.proofs.laws.together_stand.Goals as goal
use Rattle.promise.proofs.StayTogether.{formats, turns}
use Rattle.promise.proofs.StartTogether.{starts}

pub returns : goal.returns
returns c = record { formats = formats; turns = turns; starts = starts }
