use Rattle.set_laws.proofs.Unnamed.{unnamed_stays}
use Rattle.set_laws.proofs.laws.unnamed_stay.Goals as goal

pub returns : goal.returns
returns c = unnamed_stays
