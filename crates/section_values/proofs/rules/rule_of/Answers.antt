-- The record of the identifiers and the steps.
use Rattle.std.proofs.Common.{◌∙◌}
use Rattle.section_values.proofs.SectionLaws.{rule_told}
use Rattle.section_values.proofs.rules.rule_of.Goals as goal

pub returns-clause-told : goal.returns-clause-told
returns-clause-told c = λ ms known.
    rule_told ms c.args.parts.now.linked.now c.args.rule.now c.in_ok-class.class c.in_ok-action.action
    c.in_ok-steps.steps
    c.rule_with.result (c.in_ok-class.ensures ∙ c.class_id.ensures) (c.in_ok-action.ensures ∙ c.action_id.ensures)
    (c.in_ok-steps.ensures.told ms known) c.rule_with.ensures
