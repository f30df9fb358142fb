use Rattle.std.proofs.Common.{sym}
use Rattle.numbers.proofs.Naming.{zero-filled}
use Rattle.numbers.proofs.name.Name.new.Goals as goal

pub returns : goal.returns
returns c = (sym c.if-not-is_good_name.ensures, zero-filled c.args.text.now _ c.copy_from_slice.ensures.after)
