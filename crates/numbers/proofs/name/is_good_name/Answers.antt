use Rattle.std.proofs.Common.{rules, tests, ◌≡◌, ◌-◌, arith, length, drop, sym, ◌∙◌}
use Rattle.std.proofs.lemmas.Iterator.{YieldsList-from_slice}
use Rattle.std.proofs.lemmas.Iterator.Search.{all_from_yields_List}
use Rattle.std.proofs.lemmas.List.{take_all, length-drop}
use Rattle.numbers.specs.Names.{letter_digit_dot, every}
use Rattle.numbers.proofs.Naming.{good-by-rest}
use Rattle.numbers.proofs.name.is_good_name.Goals as goal

pub returns-in-len1-up : goal.returns-in-len1-up
returns-in-len1-up c =
    let r : c.iter.result.rest.now ≡ drop 1 c.args.text.now = c.iter.ensures.rest ∙ take_all (length c.args.text.now - 1) (drop 1 c.args.text.now) (omega (arith, length-drop 1 c.args.text.now)) in
    let p : c.all.result ≡ every letter_digit_dot (drop 1 c.args.text.now) =
    all_from_yields_List letter_digit_dot _ _ c.all.result c.all.ensures.ran (YieldsList-from_slice (drop 1 c.args.text.now) r) (λ x b q k. search (rules, tests)) in
    p ∙ good-by-rest c.args.text.now (omega arith) (sym c.if-is_letter.ensures) (omega arith)
