use Rattle.std.proofs.Common.{rules, tests, ◌≡◌, ℕ, ◌+◌, ◌*◌, refl, arith}
use Rattle.numbers.specs.declared.sector.Address.{Address}
use Rattle.layout.specs.Words.{word_size, word}
use Rattle.layout.proofs.Reading.{made, addresses-read}
use Rattle.layout.proofs.word.ArrayAddressStored.load.Goals as goal

pub returns : goal.returns
returns g c =
    addresses-read c.args.sector.now c.args.at g.row.N c.from_fn.result c.from_fn.ensures.items.long
    (λ j h. made _ _ (λ (i : ℕ) (a : Address). a.0 ≡ word c.args.sector.now (c.args.at + word_size * i)) (λ i y q k. search (rules, tests)) c.from_fn.result g.row.N 0 j _ (record { 0 = 0 }) refl c.from_fn.ensures.items.each (omega arith) (omega arith))
