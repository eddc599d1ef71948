-- The class, the action and the steps.
use Rattle.std.proofs.Common.{refl, map}
use Rattle.gdmo_names.specs.FaultSets.{AnyOf, Either}
use Rattle.gdmo_names.specs.Mentions.Role.{RuleAction, RuleClass}
use Rattle.gdmo_names.specs.PartViews.{step_term}
use Rattle.gdmo_names.specs.SectionFaults.{FaultsOfStep, LabelFaults}
use Rattle.gdmo_targets.specs.SectionTables.{TellsStep}
use Rattle.gdmo_names.proofs.InStepLaws.{at_slice}
use Rattle.gdmo_names.proofs.NotingLaws.{both_noted}
use Rattle.gdmo_targets.proofs.section_references.Labelled.rule_targets.Goals as goal

pub returns : goal.returns
returns c = λ parts is.
    let steps = at_slice (TellsStep parts c.args.self.now.templates.now c.args.document)
    (FaultsOfStep parts c.args.document) step_term c.in_ok-steps.steps.items c.as_slice.ensures.value (c.in_ok-steps.ensures parts is) in (
      record {
        is_in = refl;
        is_class = (c.named-class.ensures parts is).0;
        is_action = (c.named-action.ensures parts is).0;
        are_steps = steps.0;
      },
      both_noted (LabelFaults parts c.args.document RuleClass c.args.rule.now.class)
          (Either (LabelFaults parts c.args.document RuleAction c.args.rule.now.action)
          (AnyOf (FaultsOfStep parts c.args.document) (map step_term c.args.rule.now.steps.items)))
          (c.named-class.ensures parts is).1
          (both_noted (LabelFaults parts c.args.document RuleAction c.args.rule.now.action)
          (AnyOf (FaultsOfStep parts c.args.document) (map step_term c.args.rule.now.steps.items))
          (c.named-action.ensures parts is).1 steps.1),
    )
