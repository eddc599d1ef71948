-- By the laws of each part.
use Rattle.asn1_syntax.proofs.ModuleSameTrees.{assignments_alike, modules_alike}
use Rattle.asn1_syntax.proofs.TypeSameTrees.{alternatives_alike, components_alike, constraints_alike, plain_types_alike}
use Rattle.asn1_syntax.proofs.TypeSameTrees.{presences_alike, types_alike}
use Rattle.asn1_syntax.proofs.syntax_laws.one_tree.Goals as goal

pub returns : goal.returns
returns c = record {
  module_text = modules_alike;
  assignment = assignments_alike;
  type_text = types_alike;
  component = components_alike;
  alternative = alternatives_alike;
  presence = presences_alike;
  plain_type = plain_types_alike;
  constraint = constraints_alike;
}
