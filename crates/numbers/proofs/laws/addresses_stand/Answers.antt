use Rattle.numbers.proofs.Linking.{addresses}
use Rattle.numbers.proofs.laws.addresses_stand.Goals as goal

pub returns : goal.returns
returns c = addresses
