-- The parts, one after the other.
use Rattle.asn1_values_syntax.specs.Asn1.{asn1}
use Rattle.asn1_values_syntax.specs.TypeForms.{is_number_or_name}
use Rattle.asn1_values_syntax.proofs.named_number.read_number_or_name.Goals as goal

pub returns : goal.returns
returns c = c.keep_token.ensures asn1 is_number_or_name c.is_arc_at.ensures
