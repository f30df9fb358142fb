use Rattle.promise.proofs.laws.proper_stands.Goals as goal
use Rattle.promise.proofs.StayProper.{turns, formats}
use Rattle.promise.proofs.StartProper.{starts}

pub returns : goal.returns
returns c = record { turns = turns; formats = formats; starts = starts }
