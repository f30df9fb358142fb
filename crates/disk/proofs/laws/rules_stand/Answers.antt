use Rattle.disk.proofs.Follows.{follows}
use Rattle.disk.proofs.laws.rules_stand.Goals as goal

pub returns : goal.returns
returns c = follows
