use Rattle.layout.proofs.Numbers.{stored-numbers}
use Rattle.layout.proofs.Reading.{stored-values}
use Rattle.layout.proofs.laws.numbers_stand.Goals as goal

pub returns : goal.returns
returns c = record { numbers = stored-numbers; values = stored-values }
