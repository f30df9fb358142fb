use Rattle.recovery.proofs.wider_stands.Goals as goal
use Rattle.recovery.proofs.Agreement.{wider-steady}
use Rattle.recovery.proofs.Wider.{breaks-wider, counts-wider, close-wider, follow-wider, refused-wider}
use Rattle.recovery.proofs.Harmless.{wrote-wider}

pub returns : goal.returns
returns c = record { steady = wider-steady; breaks = breaks-wider; counts = counts-wider; close = close-wider; wrote = wrote-wider; follow = follow-wider; refused = refused-wider }
