-- One more of them, and all.
use Rattle.std.proofs.Common.{◌≡◌, ◌<◌, ◌≤◌, arith, get_or, length, rules, subst}
use Rattle.gdmo_names.specs.PartViews.{rule_term}
use Rattle.gdmo_names.specs.SectionFaults.{FaultsOfRule}
use Rattle.gdmo_targets.specs.SectionTables.{IsRuleTargets}
use Rattle.gdmo_names.proofs.InStepLaws.{noted_all, noted_none, noted_one_more}
use Rattle.gdmo_targets.proofs.section_references.Labelled.add_rules.Goals as goal

pub loop-rule-init : goal.loop-rule-init
loop-rule-init c = λ parts is. noted_none (IsRuleTargets parts c.args.self.now.templates.now) (FaultsOfRule parts)
    c.args.rules.now.items c.args.faults.now.first

pub loop-rule-preserved : goal.loop-rule-preserved
loop-rule-preserved c = λ parts is.
    let same : c.deref-rule-items.result.now ≡ c.args.section.now.rules.items = search rules in
    noted_one_more (IsRuleTargets parts c.args.self.now.templates.now) (FaultsOfRule parts)
    (rule_term c.args.section.now.document) c.args.section.now.rules.items c.loop-rule.rule-index c.rule-item.result c.args.rules.now.items
    c.loop-rule.rules.items c.push.new.self.items c.in_ok-rule_targets.field-0 (subst (λ xs. c.loop-rule.rule-index < length xs) same c.loop-rule-test.true)
    (subst (λ xs. c.rule-item.result ≡ get_or xs c.loop-rule.rule-index c.rule-item.result) same c.rule-item.is)
    c.in_ok-push.ensures.items (c.loop-rule.invariant parts is) (c.in_ok-rule_targets.ensures parts is)

pub returns : goal.returns
returns c = λ parts is.
    let same : c.deref-rule-items.result.now ≡ c.args.section.now.rules.items = search rules in
    noted_all (IsRuleTargets parts c.args.self.now.templates.now) (FaultsOfRule parts)
    (rule_term c.args.section.now.document) c.args.section.now.rules.items c.loop-rule.rule-index c.args.rules.now.items c.loop-rule.rules.items
    (subst (λ xs. length xs ≤ c.loop-rule.rule-index) same (omega (arith, c.loop-rule-test.false))) (c.loop-rule.invariant parts is)
