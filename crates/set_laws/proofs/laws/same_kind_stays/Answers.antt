use Rattle.set_laws.proofs.SameKind.{identifiers_stay, kind_stays}
use Rattle.set_laws.proofs.laws.same_kind_stays.Goals as goal

pub returns-clause-identifiers : goal.returns-clause-identifiers
returns-clause-identifiers c = identifiers_stay

pub returns-clause-kind : goal.returns-clause-kind
returns-clause-kind c = kind_stays
