-- By the laws of each kind of value.
use Rattle.asn1_values_syntax.proofs.OneValue.{one_bound, one_signed_number, parts_agree, values_agree}
use Rattle.asn1_values_syntax.proofs.value_laws.one_value.Goals as goal

pub returns : goal.returns
returns c = record { number = one_signed_number; bound = one_bound; value = values_agree; part = parts_agree }
