use Rattle.catalog.proofs.laws.written_stands.Goals as goal
use Rattle.catalog.proofs.Written.{page-written, header-typed, head-written}

pub returns : goal.returns
returns c = record { page = page-written; header = header-typed; head = head-written }
