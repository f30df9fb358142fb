use Rattle.std.proofs.Common.{arith, ◌∙◌}
use Rattle.std.proofs.lemmas.List.{length-map}
use Rattle.numbers.specs.declared.sector.Address.{Address}
use Rattle.layout.specs.Words.{numbers}
use Rattle.layout.proofs.Writing.{length-stored_all}
use Rattle.layout.proofs.word.ArrayAddressStored.store.Goals as goal

pub returns-clause-long : goal.returns-clause-long
returns-clause-long g c = length-stored_all (numbers c.args.self.now) ∙ omega (arith, length-map c.args.self.now (λ (a : Address). a.0))
