use Rattle.catalog.proofs.laws.file_stands.Goals as goal
use Rattle.catalog.proofs.FileAlone.{file-alone}

pub returns : goal.returns
returns c = file-alone
