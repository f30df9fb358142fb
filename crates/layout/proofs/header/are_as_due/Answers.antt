use Rattle.std.proofs.Common.{rules, tests, ◌≡◌, ℕ, ltb, arith, ◌∙◌}
use Rattle.std.specs.List.{list_all, enumerate_from}
use Rattle.std.proofs.lemmas.Iterator.{YieldsList-from_slice}
use Rattle.std.proofs.lemmas.Iterator.Consumers.{YieldsList-from_enumerate}
use Rattle.std.proofs.lemmas.Iterator.Search.{all_from_yields_List}
use Rattle.numbers.specs.declared.sector.Address.{Address}
use Rattle.numbers.specs.Sectors.{as_due}
use Rattle.layout.proofs.Heading.{due-all}
use Rattle.layout.proofs.header.are_as_due.Goals as goal

pub returns : goal.returns
returns c = λ from.
    let p : c.all.result ≡ list_all (λ (p : ℕ × Address). as_due c.args.size (ltb p.0 c.args.due) p.1.0) (enumerate_from 0 c.args.list.now) =
    all_from_yields_List (λ (p : ℕ × Address). as_due c.args.size (ltb p.0 c.args.due) p.1.0) _ _ c.all.result c.all.ensures.ran
    (YieldsList-from_enumerate (YieldsList-from_slice c.args.list.now cc) (cc)) (λ x b q k. search (rules, tests)) in
    p ∙ due-all c.args.size c.args.due from 0 from (omega arith) c.args.list.now
