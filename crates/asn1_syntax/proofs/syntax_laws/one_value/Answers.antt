-- By the laws of each part.
use Rattle.asn1_syntax.proofs.ModuleValues.{assignments_agree, modules_agree}
use Rattle.asn1_syntax.proofs.PlainValues.{constraints_agree, one_named_bit, one_named_integer, one_range, one_tag}
use Rattle.asn1_syntax.proofs.PlainValues.{plain_types_agree}
use Rattle.asn1_syntax.proofs.TypeValues.{alternatives_agree, components_agree, presences_agree, types_agree}
use Rattle.asn1_syntax.proofs.syntax_laws.one_value.Goals as goal

pub returns : goal.returns
returns c = record {
  module_text = modules_agree;
  assignment = assignments_agree;
  type_text = types_agree;
  component = components_agree;
  alternative = alternatives_agree;
  presence = presences_agree;
  plain_type = plain_types_agree;
  constraint = constraints_agree;
  range = one_range;
  named_integer = one_named_integer;
  named_bit = one_named_bit;
  tag = one_tag;
}
