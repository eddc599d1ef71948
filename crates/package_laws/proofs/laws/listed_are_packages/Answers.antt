use Rattle.package_laws.proofs.Packages.{listed_has_package, package_is_listed}
use Rattle.package_laws.proofs.laws.listed_are_packages.Goals as goal

pub returns-clause-has : goal.returns-clause-has
returns-clause-has c = listed_has_package

pub returns-clause-listed : goal.returns-clause-listed
returns-clause-listed c = package_is_listed
