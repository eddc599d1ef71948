use Rattle.set_laws.proofs.KeptNames.{name_stays_good}
use Rattle.set_laws.proofs.KeptObjects.{object_stays_good}
use Rattle.set_laws.proofs.laws.objects_stay_good.Goals as goal

pub returns-clause-object : goal.returns-clause-object
returns-clause-object c = object_stays_good

pub returns-clause-name : goal.returns-clause-name
returns-clause-name c = name_stays_good
