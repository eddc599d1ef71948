-- The name of a type of CMIP-1.
use Rattle.asn1_numbers.specs.NumberedBases.IsEnd.{standard}
use Rattle.asn1_numbers.proofs.bases.name_link.Goals as goal

pub returns-in-Standard : goal.returns-in-Standard
returns-in-Standard c = λ limits. (_, standard c.in-Standard.ensures)
