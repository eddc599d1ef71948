use Rattle.package_laws.proofs.Above.{above_is_listed, listed_is_above}
use Rattle.package_laws.proofs.laws.listed_are_above.Goals as goal

pub returns-clause-above : goal.returns-clause-above
returns-clause-above c = listed_is_above

pub returns-clause-listed : goal.returns-clause-listed
returns-clause-listed c = above_is_listed
