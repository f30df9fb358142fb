use Rattle.catalog.proofs.laws.listing_stands.Goals as goal
use Rattle.catalog.proofs.Listing.{listed}

pub returns : goal.returns
returns c = listed
