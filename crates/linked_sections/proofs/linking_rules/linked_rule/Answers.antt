-- The class, the action and the steps.
use Rattle.std.proofs.Common.{map, sym}
use Rattle.std.proofs.Math.Path.{subst}
use Rattle.gdmo_names.specs.InStep.{AreAll, AreEach}
use Rattle.gdmo_names.specs.Mentions.{mention}
use Rattle.gdmo_names.specs.Mentions.Role.{RuleAction, RuleClass}
use Rattle.gdmo_names.specs.PartViews.{rule_term, step_term}
use Rattle.gdmo_names.specs.TemplateTerms.ReferenceTerm.{ByLabel}
use Rattle.gdmo_targets.specs.SectionTables.{TellsStep}
use Rattle.linked_sections.specs.KnownSections.{IsCompleteStep}
use Rattle.linked_sections.specs.LinkedSections.{IsStep}
use Rattle.linked_sections.proofs.linking_rules.linked_rule.Goals as goal

pub returns : goal.returns
returns c = λ parts document is complete told.
    let rule = rule_term document c.args.rule.now in
    let own = c.args.rule.now.steps.items in
    let tells = TellsStep parts c.args.linker.now.linkage.templates.now document in
    record {
      document = told.is_in;
      is_class = c.place-class.ensures parts document (mention RuleClass (ByLabel rule.class)) is complete.class_meant
          told.is_class;
      is_action = c.place-action.ensures parts document (mention RuleAction (ByLabel rule.action)) is
          complete.action_meant told.is_action;
      steps_are = subst (λ xs. AreEach (IsStep parts rule) (map step_term xs) c.in_ok-steps.steps.items)
          c.as_slice.ensures.value
          (c.in_ok-steps.ensures parts rule is
          (subst (λ xs. AreAll (IsCompleteStep parts rule) (map step_term xs)) (sym c.as_slice.ensures.value)
          complete.steps_complete)
          (subst (λ xs. AreEach tells (map step_term xs) c.as_slice-2.result.now) (sym c.as_slice.ensures.value)
          (subst (λ ns. AreEach tells (map step_term own) ns) (sym c.as_slice-2.ensures.value) told.are_steps)));
    }
