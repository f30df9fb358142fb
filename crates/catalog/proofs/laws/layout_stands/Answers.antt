use Rattle.catalog.proofs.laws.layout_stands.Goals as goal
use Rattle.catalog.proofs.Found.{found-laid-both, unique, refused-none}

pub returns : goal.returns
returns c = record { laid = found-laid-both; unique = unique; refused = refused-none }
