use Rattle.std.proofs.Common.{◌≡◌, ℕ, length, ap, ◌∙◌, arith}
use Rattle.numbers.specs.declared.sector.Address.{Address}
use Rattle.layout.specs.Words.{stored, written}
use Rattle.numbers.specs.Lengths.{last_sector, last_bytes}
use Rattle.layout.specs.Headers.{numbers}
use Rattle.std.proofs.lemmas.List.{length-map}
use Rattle.layout.proofs.Heading.{header-written}
use Rattle.layout.proofs.header.Header.encode.Goals as goal

pub returns : goal.returns
returns c =
    let h = c.args.self.now in
    let lt : length h.tables ≡ 12 = omega arith in
    header-written c.args.sector.now c.store.new.sector c.store-2.new.sector c.store-3.new.sector c.store-4.new.sector c.store-5.new.sector
    c.store-6.new.sector c.store-7.new.sector h.name.bytes (last_sector h.length.0) (last_bytes h.length.0) h.date (numbers h.tables) (numbers h.sectors)
    c.store-2.ensures.long (length-map h.tables (λ (a : Address). a.0) ∙ lt) c.store.ensures.after c.store-2.ensures.after
    (c.store-3.ensures.after ∙ ap (λ (n : ℕ). written c.store-2.new.sector 36 (stored n)) c.last_sector.ensures)
    (c.store-4.ensures.after ∙ ap (λ (n : ℕ). written c.store-3.new.sector 40 (stored n)) c.last_bytes.ensures)
    c.store-5.ensures.after c.store-6.ensures.after c.store-7.ensures.after
