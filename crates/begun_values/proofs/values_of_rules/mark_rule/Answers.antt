-- The steps of the rule.
use Rattle.std.proofs.Common.{map, sym}
use Rattle.std.proofs.Math.Path.{subst}
use Rattle.gdmo_names.specs.InStep.{AreEach}
use Rattle.gdmo_names.specs.PartViews.{rule_term, step_term}
use Rattle.gdmo_targets.specs.SectionTables.{TellsStep}
use Rattle.gdmo_types.proofs.FieldLaws.{on_ok_by}
use Rattle.gdmo_begun_names.specs.BegunMarks.{AnyFirst, Marks}
use Rattle.begun_values.specs.SectionValues.{StepFirsts}
use Rattle.begun_values.proofs.values_of_rules.mark_rule.Goals as goal

pub returns : goal.returns
returns c = on_ok_by c.mark_steps.result (λ marked parts document link is.
    let rule = rule_term document c.args.rule.now in
    let Tells = TellsStep parts c.args.linkage.now.templates.now document in
    subst (λ xs. Marks (AnyFirst (StepFirsts parts rule) (map step_term xs)) c.args.names.now c.mark_steps.new.names)
    c.as_slice.ensures.value (marked parts rule link is.is_action
    (subst (λ xs. AreEach Tells (map step_term xs) c.as_slice-2.result.now) (sym c.as_slice.ensures.value)
    (subst (λ ys. AreEach Tells rule.steps ys) (sym c.as_slice-2.ensures.value) is.are_steps))))
    c.mark_steps.ensures
