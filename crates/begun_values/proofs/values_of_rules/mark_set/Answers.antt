-- The value that is set.
use Rattle.std.proofs.Common.{◌∙◌, ap, refl, sym}
use Rattle.asn1_values_syntax.specs.ValueTrees.{value_tree}
use Rattle.gdmo_names.specs.Mentions.Role.{StepAttribute}
use Rattle.gdmo_names.specs.PartViews.{taken_term}
use Rattle.gdmo_rules.specs.TakenViews.{taken_view}
use Rattle.gdmo_types.proofs.FieldLaws.{on_ok_by}
use Rattle.begun_values.specs.SectionValues.{LabelledSyntax}
use Rattle.begun_values.proofs.SectionLaws.{taken_marked}
use Rattle.begun_values.proofs.values_of_rules.mark_set.Goals as goal

pub returns-in-Value : goal.returns-in-Value
returns-in-Value c = on_ok_by c.mark_attribute.result (λ marked parts rule link tells.
    let label = c.args.step.now.attribute in
    taken_marked (LabelledSyntax parts rule.document StepAttribute label) (taken_term c.args.step.now.value)
    (value_tree c.in-Value.value.now) (ap taken_view (sym c.in-Value.is) ∙ c.taken_value.ensures)
    (marked parts rule.document StepAttribute label link refl tells)) c.mark_attribute.ensures
