-- The types of the action.
use Rattle.gdmo_names.specs.Mentions.{mention}
use Rattle.gdmo_names.specs.Mentions.Role.{RuleAction}
use Rattle.gdmo_names.specs.TemplateTerms.ReferenceTerm.{ByLabel}
use Rattle.gdmo_rules.proofs.StepTypeLaws.{rule_types_told}
use Rattle.gdmo_rules.proofs.step_types.known_rule.Goals as goal

pub returns-clause-told : goal.returns-clause-told
returns-clause-told c = λ parts rule is are own. record {
  is_in = own.is_in;
  types = rule_types_told parts c.args.linkage.now.templates.now c.action_types.new.numbers.lists rule
      c.known_number-action.result c.in_ok-types.types
      (c.known_number-action.ensures parts rule.document (mention RuleAction (ByLabel rule.action)) own.is_action)
      (λ n x same at kind. c.in_ok-types.ensures.told parts n x is are same at kind) c.in_ok-types.ensures.missing;
}
