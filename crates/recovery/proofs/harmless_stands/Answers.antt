use Rattle.recovery.proofs.harmless_stands.Goals as goal
use Rattle.recovery.proofs.Agreement.{put-steady}
use Rattle.recovery.proofs.Harmless.{outside-harmless, data-harmless, table-harmless, writing-harmless}

pub returns : goal.returns
returns c = record { steady = put-steady; outside = outside-harmless; bytes = data-harmless; table = table-harmless; write = writing-harmless }
