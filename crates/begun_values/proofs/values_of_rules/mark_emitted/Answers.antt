-- The value that is emitted.
use Rattle.std.proofs.Common.{ap}
use Rattle.asn1_values_syntax.specs.ValueTrees.{value_tree}
use Rattle.gdmo_names.specs.PartTerms.{module_terms_of}
use Rattle.gdmo_names.specs.PartViews.{optional_value}
use Rattle.gdmo_types.proofs.FieldLaws.{on_ok_by}
use Rattle.begun_values.specs.SectionValues.{ToldSyntax}
use Rattle.begun_values.proofs.SectionLaws.{stated_marked, valued}
use Rattle.begun_values.proofs.values_of_rules.mark_emitted.Goals as goal

pub returns-in-Some : goal.returns-in-Some
returns-in-Some c = on_ok_by c.mark_value.result (λ marked parts rule link tells.
    let Of = ToldSyntax parts rule.document c.args.step.now.notification in
    let text = value_tree c.in-Some.value in
    stated_marked Of (optional_value c.args.step.now.value) text (ap optional_value c.in-Some.is)
    (valued (module_terms_of parts) Of c.told_meaning.result text c.args.names.now c.mark_value.new.names
    (c.told_meaning.ensures parts rule.document c.args.step.now.notification link tells) (marked parts link)))
    c.mark_value.ensures
