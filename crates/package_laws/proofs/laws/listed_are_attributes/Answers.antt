use Rattle.package_laws.proofs.Attributes.{attribute_is_listed, listed_has_attribute}
use Rattle.package_laws.proofs.laws.listed_are_attributes.Goals as goal

pub returns-clause-has : goal.returns-clause-has
returns-clause-has c = listed_has_attribute

pub returns-clause-listed : goal.returns-clause-listed
returns-clause-listed c = attribute_is_listed
