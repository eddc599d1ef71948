-- An assignment of a value.
use Rattle.std.proofs.Common.{◌∙◌, ap}
use Rattle.asn1_names.specs.ModuleTerms.{AssignmentTerm}
use Rattle.asn1_names.specs.TermViews.{assigned_term, type_term}
use Rattle.asn1_values_syntax.specs.ValueTrees.{value_tree}
use Rattle.asn1_numbers.proofs.values.value_link.Goals as goal

pub returns-in-OfValue : goal.returns-in-OfValue
returns-in-OfValue c = c.text_link.ensures c.in-Some.field-0-0 (type_term c.in-OfValue.of) (record {
  numbered = c.in-Some.ensures.numbered;
  at = c.in-Some.ensures.at;
  module_is = c.in-Some.ensures.module_is;
  text = value_tree c.in-OfValue.value;
  assigns = ap (λ (x : AssignmentTerm). x.assigned) c.in-Some.ensures.is ∙ ap assigned_term c.in-OfValue.is;
})
