use Rattle.layout.proofs.PageForm.{directory-pages}
use Rattle.layout.proofs.laws.pages_stand.Goals as goal

pub returns : goal.returns
returns c = directory-pages
