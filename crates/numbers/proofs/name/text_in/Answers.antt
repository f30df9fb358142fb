use Rattle.std.proofs.Common.{rules, tests, ◌≡◌, eqb, sym, ◌∙◌}
use Rattle.std.proofs.lemmas.Iterator.{YieldsList-from_slice}
use Rattle.std.proofs.lemmas.Iterator.Search.{position_from_yields_List}
use Rattle.std.specs.List.{position}
use Rattle.numbers.proofs.Naming.{front-found, front-whole}
use Rattle.numbers.proofs.name.text_in.Goals as goal

pub returns-in-Some : goal.returns-in-Some
returns-in-Some c =
    let p : c.position.result ≡ position (λ b. eqb b 0) c.args.field.now =
    position_from_yields_List (λ b. eqb b 0) _ _ c.position.result c.position.ensures.ran (YieldsList-from_slice c.args.field.now c.iter.ensures.rest) (λ x b q k. search (rules, tests)) in
    front-found c.args.field.now c.in-Some.end (sym p ∙ c.in-Some.is)

pub returns-in-None : goal.returns-in-None
returns-in-None c =
    let p : c.position.result ≡ position (λ b. eqb b 0) c.args.field.now =
    position_from_yields_List (λ b. eqb b 0) _ _ c.position.result c.position.ensures.ran (YieldsList-from_slice c.args.field.now c.iter.ensures.rest) (λ x b q k. search (rules, tests)) in
    front-whole c.args.field.now (sym p ∙ c.in-None.is)
