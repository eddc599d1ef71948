-- The attribute is known, or it isn't.
use Rattle.std.proofs.Math.Path.{subst}
use Rattle.gdmo_names.specs.FaultSets.{Notes}
use Rattle.gdmo_names.specs.Mentions.{mention}
use Rattle.gdmo_names.specs.Mentions.Role.{StepAttribute}
use Rattle.gdmo_names.specs.PartViews.{taken_term}
use Rattle.gdmo_names.specs.TemplateTerms.ReferenceTerm.{ByLabel}
use Rattle.gdmo_types.specs.RoleTargets.{MeansNumber}
use Rattle.gdmo_rules.specs.StepFaults.{TakenFaults}
use Rattle.gdmo_rules.proofs.StepTypeLaws.{no_target_noted, target_noted}
use Rattle.gdmo_rules.proofs.step_types.judge_set.Goals as goal

pub returns-in_default-clause-noted : goal.returns-in_default-clause-noted
returns-in_default-clause-noted c = λ parts rule is are known meant.
    let label = c.args.step.now.attribute in
    no_target_noted parts rule.document label
    (λ attribute. TakenFaults parts rule attribute (taken_term c.args.step.now.value)) c.args.faults.now.first
    (subst (MeansNumber parts c.args.linkage.now.templates.now rule.document (mention StepAttribute (ByLabel label)))
    c.in_default.is meant)

pub returns-clause-noted : goal.returns-clause-noted
returns-clause-noted c = λ parts rule is are known meant.
    let label = c.args.step.now.attribute in
    let x = subst (MeansNumber parts c.args.linkage.now.templates.now rule.document
    (mention StepAttribute (ByLabel label))) c.in-Some.is meant in
    target_noted parts rule.document label x.0
    (λ attribute. TakenFaults parts rule attribute (taken_term c.args.step.now.value)) x.2
    (subst (λ t. Notes (TakenFaults parts rule x.0 t) c.args.faults.now.first c.note_taken.new.faults.first)
    c.taken_value.ensures (c.in_ok-note_taken.ensures.noted parts rule x.0 is are known x.1 x.2.of_kind))
