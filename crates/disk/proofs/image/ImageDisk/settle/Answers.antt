use Rattle.disk.proofs.Images.{settles-over}
use Rattle.disk.proofs.image.ImageDisk.settle.Goals as goal

pub returns-clause-rule : goal.returns-clause-rule
returns-clause-rule c = settles-over _
