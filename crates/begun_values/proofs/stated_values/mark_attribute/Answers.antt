-- By the attribute's type.
use Rattle.asn1_values_syntax.specs.ValueTrees.{value_tree}
use Rattle.gdmo_names.specs.PartTerms.{module_terms_of}
use Rattle.gdmo_types.proofs.FieldLaws.{on_ok_by}
use Rattle.begun_values.specs.SectionValues.{LabelledSyntax}
use Rattle.begun_values.proofs.SectionLaws.{valued}
use Rattle.begun_values.proofs.stated_values.mark_attribute.Goals as goal

pub returns : goal.returns
returns c = on_ok_by c.mark_value.result (λ marked parts document role label link wanted tells.
    valued (module_terms_of parts) (LabelledSyntax parts document role label) c.attribute_meaning.result
    (value_tree c.args.value.now) c.args.names.now c.mark_value.new.names
    (c.attribute_meaning.ensures parts document role label link wanted tells) (marked parts link))
    c.mark_value.ensures
