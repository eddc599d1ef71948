-- One more rule, and all of them.
use Rattle.gdmo_names.specs.PartViews.{rule_term}
use Rattle.gdmo_targets.specs.SectionTables.{IsRuleTargets}
use Rattle.begun_values.specs.SectionValues.{RuleFirsts}
use Rattle.begun_values.proofs.GoingLaws.{goes_map_step}
use Rattle.begun_values.proofs.values_of_rules.mark_rules.Goals as goal

pub loop-rule-preserved : goal.loop-rule-preserved
loop-rule-preserved c = λ parts link.
    goes_map_step (IsRuleTargets parts c.args.linkage.now.templates.now) (RuleFirsts parts)
    (rule_term c.args.section.now.document) c.as_slice-rules.result.now c.loop-rule.rule-index c.rule-item.result
    c.args.targets.now c.args.at c.loop-rule.next c.in_ok-next.next c.loop-rule-test.true c.rule-item.is
    (c.loop-rule.invariant parts link) (c.in_ok-next.ensures parts c.args.section.now.document link)
