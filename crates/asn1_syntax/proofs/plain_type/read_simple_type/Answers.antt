-- The parts, one after the other.
use Rattle.asn1_values_syntax.specs.Asn1.{asn1}
use Rattle.asn1_values_syntax.specs.TypeForms.{is_simple_type}
use Rattle.asn1_syntax.proofs.plain_type.read_simple_type.Goals as goal

pub returns : goal.returns
returns c = c.keep_token.ensures asn1 is_simple_type c.is_simple_type_at.ensures
