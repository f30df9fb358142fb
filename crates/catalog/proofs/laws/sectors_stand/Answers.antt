use Rattle.catalog.proofs.laws.sectors_stand.Goals as goal
use Rattle.catalog.proofs.Sectors.{met-sectors, divides}

pub returns : goal.returns
returns c = record { met = met-sectors; divides = divides }
