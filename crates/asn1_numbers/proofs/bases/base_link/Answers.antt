-- An assignment, and a number that none has.
use Rattle.asn1_numbers.specs.NumberedBases.IsBaseLink.{typed, absent}
use Rattle.asn1_numbers.proofs.bases.base_link.Goals as goal

pub returns-in-Some : goal.returns-in-Some
returns-in-Some c = typed c.in-Some.ensures c.type_link.ensures

pub returns-in-None : goal.returns-in-None
returns-in-None c = absent c.in-None.ensures
