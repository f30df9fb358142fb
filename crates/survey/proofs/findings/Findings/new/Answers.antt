use Rattle.std.proofs.Common.{List, Bool, true, set, refl, ap, ◌∙◌, arith}
use Rattle.survey.proofs.Listing.{one_met}
use Rattle.survey.proofs.findings.Findings.new.Goals as goal

pub returns-clause-stands : goal.returns-clause-stands
returns-clause-stands c = λ w t z d. record {
  size = z;
  deep = d;
  marks = one_met _ c.args.first.0 (omega arith) (c.meet.ensures.met ∙ ap (λ (m : List Bool). set m c.args.first.0 true) c.new-map.ensures);
  name = refl;
  names = refl;
  sectors = refl;
  rows = refl;
}
