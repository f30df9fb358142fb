use Rattle.std.proofs.Common.{refl}
use Rattle.survey.specs.Lines.{none_met}
use Rattle.survey.proofs.map.SectorMap.new.Goals as goal

pub returns : goal.returns
unfolding none_met
returns c = refl
