-- The rule that comes next.
use Rattle.std.proofs.Common.{◌≡◌, ap, length, sym, ◌∙◌}
use Rattle.gdmo_linking.proofs.StepLaws.{each_size}
use Rattle.gdmo_names.specs.PartViews.{rule_term}
use Rattle.gdmo_targets.specs.SectionTables.{IsRuleTargets}
use Rattle.linked_sections.specs.KnownSections.{IsCompleteRule}
use Rattle.linked_sections.specs.LinkedSections.{IsRule}
use Rattle.linked_sections.proofs.PushLaws.{got_none, got_one, next_is, next_pushed, next_there, next_told}
use Rattle.linked_sections.proofs.linking_rules.push_rule.Goals as goal

pub returns-in_ok-push-in-Some : goal.returns-in_ok-push-in-Some
returns-in_ok-push-in-Some c = λ parts document is before behind known each.
    let x = rule_term document c.args.rule.now in
    let i = length c.as_slice.result.now in
    let here : i ≡ length before = ap length c.as_slice.ensures.value ∙ sym (each_size (IsRule parts) before
    c.args.linked.now.items each) in
    let at = got_one c.args.targets.now i c.get.result c.in-Some.own c.get.ensures.lookup.0 c.get.ensures.lookup.1
    c.in-Some.is in
    next_pushed (IsRule parts) before x c.args.linked.now.items c.push.new.self.items
    c.in_ok-rule-in-Some.rule each
    (c.in_ok-rule-in-Some.ensures parts document is (next_is (IsCompleteRule parts) before behind x known.complete)
    (next_told (IsRuleTargets parts c.args.linker.now.linkage.templates.now) before behind x c.args.targets.now i
    c.in-Some.own.now known.told here at))
    c.in_ok-push-in-Some.ensures.items

pub returns-in-None : goal.returns-in-None
returns-in-None c = λ parts document is before behind known each.
    let x = rule_term document c.args.rule.now in
    let i = length c.as_slice.result.now in
    let here : i ≡ length before = ap length c.as_slice.ensures.value ∙ sym (each_size (IsRule parts) before
    c.args.linked.now.items each) in
    absurd (next_there (IsRuleTargets parts c.args.linker.now.linkage.templates.now) before behind x c.args.targets.now i
    known.told here (got_none c.args.targets.now i c.get.result c.get.ensures.lookup.0 c.get.ensures.lookup.1
    c.in-None.is))
