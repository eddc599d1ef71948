-- The attribute is known, or it isn't.
use Rattle.std.proofs.Math.Path.{subst}
use Rattle.gdmo_names.specs.FaultSets.{Notes, OneFault}
use Rattle.gdmo_names.specs.FirstLabelFault.LabelFault.{KindWrong}
use Rattle.gdmo_names.specs.Mentions.{mention}
use Rattle.gdmo_names.specs.Mentions.Role.{StepAttribute}
use Rattle.gdmo_names.specs.TemplateTerms.ReferenceTerm.{ByLabel}
use Rattle.gdmo_types.specs.RoleTargets.{MeansNumber}
use Rattle.gdmo_rules.specs.StepFaults.{AddedFaults}
use Rattle.gdmo_rules.specs.TypeFaults.{IsNoInteger}
use Rattle.gdmo_rules.proofs.StepTypeLaws.{no_target_noted, target_noted}
use Rattle.gdmo_rules.proofs.step_types.judge_add.Goals as goal

pub returns-in_default-clause-noted : goal.returns-in_default-clause-noted
returns-in_default-clause-noted c = λ parts rule is are known meant.
    let label = c.args.step.now.attribute in
    no_target_noted parts rule.document label (AddedFaults parts rule label) c.args.faults.now.first
    (subst (MeansNumber parts c.args.linkage.now.templates.now rule.document (mention StepAttribute (ByLabel label)))
    c.in_default.is meant)

pub returns-clause-noted : goal.returns-clause-noted
returns-clause-noted c = λ parts rule is are known meant.
    let label = c.args.step.now.attribute in
    let x = subst (MeansNumber parts c.args.linkage.now.templates.now rule.document
    (mention StepAttribute (ByLabel label))) c.in-Some.is meant in
    target_noted parts rule.document label x.0 (AddedFaults parts rule label) x.2
    (subst (λ d. Notes (OneFault (IsNoInteger parts x.0) KindWrong d label.at) c.args.faults.now.first
    c.note_added.new.faults.first) known.is_in (c.in_ok-note_added.ensures.noted parts x.0 is are x.1 x.2.of_kind))
