-- By the laws of each part.
use Rattle.token_grammar.proofs.Values.{one_token, one_document_name, one_label_reference, one_qualified_name, one_arc}
use Rattle.token_grammar.proofs.Values.{one_first_arc, one_object_identifier}
use Rattle.token_grammar.proofs.part_laws.one_value.Goals as goal

pub returns : goal.returns
returns c = record {
  token = one_token;
  document_name = one_document_name;
  label_reference = one_label_reference;
  qualified_name = one_qualified_name;
  arc = one_arc;
  first_arc = one_first_arc;
  object_identifier = one_object_identifier;
}
