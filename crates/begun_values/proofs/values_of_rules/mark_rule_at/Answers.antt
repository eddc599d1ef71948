-- The rule whose targets stand at the place.
use Rattle.gdmo_names.specs.PartViews.{rule_term}
use Rattle.gdmo_targets.specs.SectionTables.{IsRuleTargets}
use Rattle.gdmo_types.proofs.StepLaws.{got_at}
use Rattle.begun_values.specs.SectionValues.{RuleFirsts}
use Rattle.begun_values.proofs.GoingLaws.{goes_one}
use Rattle.begun_values.proofs.values_of_rules.mark_rule_at.Goals as goal

pub returns-in_ok-mark_rule-in-Some : goal.returns-in_ok-mark_rule-in-Some
returns-in_ok-mark_rule-in-Some c = λ parts document link.
    goes_one (IsRuleTargets parts c.args.linkage.now.templates.now) (RuleFirsts parts)
    (rule_term document c.args.rule.now) c.in-Some.own.now c.args.targets.now c.args.at
    (got_at c.args.targets.now c.args.at c.in-Some.own.now c.in-Some.ensures.lookup.3.0 c.in-Some.ensures.lookup.1)
    (λ is. c.in_ok-mark_rule-in-Some.ensures parts document link is)
