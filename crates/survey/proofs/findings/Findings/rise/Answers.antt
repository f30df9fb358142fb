use Rattle.std.proofs.Common.{◌≡◌, Bool, true, sym, refl, ap, ◌∙◌, List, ℕ, arith}
use Rattle.numbers.specs.Names.{Key, is_name_field, name_in}
use Rattle.numbers.specs.Order.{cmp}
use Rattle.catalog.specs.Questions.{is_above}
use Rattle.survey.proofs.Listing.{rise-no, rise-yes}
use Rattle.survey.proofs.findings.Findings.rise.Goals as goal

field : {b : Bool} {n f : List ℕ} (k : Key) → n ≡ f → is_name_field f ≡ true → (is_name_field n ≡ true → b ≡ is_above (cmp (name_in n) k)) → is_above (cmp (name_in f) k) ≡ b
field k e g h = sym (h (ap is_name_field e ∙ g) ∙ ap (λ (x : List ℕ). is_above (cmp (name_in x) k)) e)

pub returns-then-not-is_above_last-clause-told : goal.returns-then-not-is_above_last-clause-told
returns-then-not-is_above_last-clause-told c = λ rows.
    let i = c.in-Some.ensures in
    record {
      room = omega arith;
      asked = λ w. rise-no w _ c.args.holder c.args.field i.0 (λ k h. field k i.1 i.0 (c.is_above_last.ensures k h) ∙ c.if-not-is_above_last.true);
    }

pub returns-clause-told : goal.returns-clause-told
returns-clause-told c = λ rows.
    let i = c.in-Some.ensures in
    record {
      room = omega arith;
      asked = λ w. rise-yes w _ _ c.args.holder.0 c.in-Some.name c.args.field i.1 i.0
          (λ k h. field k i.1 i.0 (c.is_above_last.ensures k h) ∙ c.if-not-is_above_last.false) refl refl refl refl refl refl refl;
    }
