use Rattle.disk.proofs.Images.{restarts-over}
use Rattle.disk.proofs.image.ImageDisk.restart.Goals as goal

pub returns-clause-rule : goal.returns-clause-rule
returns-clause-rule c = restarts-over _
