use Rattle.recovery.proofs.lives_stand.Goals as goal
use Rattle.recovery.proofs.Kept.{lives-holds}

pub returns : goal.returns
returns c = lives-holds
