-- The parts, one after the other.
use Rattle.asn1_values_syntax.specs.Asn1.{asn1}
use Rattle.asn1_values_syntax.specs.ValueForms.{is_literal}
use Rattle.asn1_values_syntax.proofs.value.read_literal.Goals as goal

pub returns : goal.returns
returns c = c.keep_token.ensures asn1 is_literal c.is_literal_at.ensures
