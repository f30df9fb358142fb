use Rattle.layout.proofs.Extension.{extension-tables}
use Rattle.layout.proofs.FirstSector.{first-sectors}
use Rattle.layout.proofs.laws.headers_stand.Goals as goal

pub returns : goal.returns
returns c = (first-sectors, extension-tables)
