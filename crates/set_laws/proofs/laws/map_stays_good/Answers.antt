use Rattle.set_laws.proofs.KeptMapLaws.{map_stays_good}
use Rattle.set_laws.proofs.laws.map_stays_good.Goals as goal

pub returns : goal.returns
returns c = map_stays_good
