use Rattle.catalog.proofs.laws.frame_stands.Goals as goal
use Rattle.catalog.proofs.Frame.{frame}
use Rattle.catalog.proofs.Found.{found-frame}

pub returns : goal.returns
returns c = record { lays = frame; found = found-frame }
