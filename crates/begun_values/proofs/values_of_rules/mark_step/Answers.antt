-- A step of each kind that states a value.
use Rattle.std.proofs.Common.{sym}
use Rattle.std.proofs.Math.Path.{subst}
use Rattle.gdmo_names.specs.PartViews.{step_term}
use Rattle.gdmo_targets.specs.SectionTables.{TellsStep}
use Rattle.gdmo_types.proofs.FieldLaws.{on_ok_by}
use Rattle.gdmo_begun_names.specs.BegunMarks.{Marks}
use Rattle.begun_values.specs.SectionValues.{StepFirsts}
use Rattle.begun_values.proofs.values_of_rules.mark_step.Goals as goal

pub returns-in-Set : goal.returns-in-Set
returns-in-Set c = on_ok_by c.mark_set.result (λ marked parts rule link action tells.
    subst (λ s. Marks (StepFirsts parts rule (step_term s)) c.args.names.now c.mark_set.new.names) (sym c.in-Set.is)
    (marked parts rule link (subst (λ s. TellsStep parts c.args.linkage.now.templates.now rule.document (step_term s)
    c.args.target) c.in-Set.is tells))) c.mark_set.ensures

pub returns-in-Emit : goal.returns-in-Emit
returns-in-Emit c = on_ok_by c.mark_emitted.result (λ marked parts rule link action tells.
    subst (λ s. Marks (StepFirsts parts rule (step_term s)) c.args.names.now c.mark_emitted.new.names)
    (sym c.in-Emit.is) (marked parts rule link (subst (λ s. TellsStep parts c.args.linkage.now.templates.now
    rule.document (step_term s) c.args.target) c.in-Emit.is tells))) c.mark_emitted.ensures

pub returns-in-Reply : goal.returns-in-Reply
returns-in-Reply c = on_ok_by c.mark_replied.result (λ marked parts rule link action tells.
    subst (λ s. Marks (StepFirsts parts rule (step_term s)) c.args.names.now c.mark_replied.new.names)
    (sym c.in-Reply.is) (marked parts rule link action)) c.mark_replied.ensures
