use Rattle.survey.proofs.Listing.{above_first, above_last}
use Rattle.survey.proofs.asks.is_above_last.Goals as goal

pub returns-in-Some : goal.returns-in-Some
returns-in-Some c = λ k h g. above_last _ _ k _ _ _ c.in-Some.is c.is_gt.ensures c.compare.ensures h g

pub returns-in-None : goal.returns-in-None
returns-in-None c = λ k h g. above_first _ k _ c.in-None.is h g
