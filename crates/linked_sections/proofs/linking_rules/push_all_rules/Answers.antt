-- One rule more, and all of them.
use Rattle.std.proofs.Common.{◌<◌, ◌≤◌, ◌+◌, [], ◌∷◌, ap, arith, length, map, refl, take, ◌∙◌}
use Rattle.std.proofs.lemmas.List.{take_all}
use Rattle.gdmo_linking.proofs.StepLaws.{at_place}
use Rattle.gdmo_names.specs.PartViews.{rule_term}
use Rattle.linked_sections.specs.KnownSections.{AreKnownRules}
use Rattle.linked_sections.specs.LinkedSections.{IsRule}
use Rattle.linked_sections.proofs.PushLaws.{map_more, pushes_both, pushes_none, pushes_same}
use Rattle.linked_sections.proofs.linking_rules.push_all_rules.Goals as goal

pub loop-rule-init : goal.loop-rule-init
loop-rule-init c = λ parts is.
    pushes_none (AreKnownRules parts c.args.linker.now c.args.targets.now) (IsRule parts) c.args.linked.now.items
    c.args.linked.now.items refl

pub loop-rule-preserved : goal.loop-rule-preserved
loop-rule-preserved c = λ parts is.
    let xs = c.as_slice-rules.result.now in
    let i = c.loop-rule.rule-index in
    let x = c.rule-item.result in
    let document = c.args.section.now.document in
    let within : i < length xs = omega (arith, c.loop-rule-test.true) in
    let known = AreKnownRules parts c.args.linker.now c.args.targets.now in
    pushes_same known (IsRule parts) _ (map (rule_term document) (take (i + 1) xs)) c.args.linked.now.items
    c.push_rule.new.linked.items
    (map_more (rule_term document) xs i x (at_place xs i x within c.rule-item.is))
    (pushes_both known (IsRule parts) (map (rule_term document) (take i xs)) (rule_term document x ∷ [])
    c.args.linked.now.items c.loop-rule.linked.items c.push_rule.new.linked.items
    (c.loop-rule.invariant parts is) (c.in_ok-push_rule.ensures parts document is))

pub returns : goal.returns
returns c = λ parts is.
    let xs = c.as_slice-rules.result.now in
    let i = c.loop-rule.rule-index in
    let document = c.args.section.now.document in
    let past : length xs ≤ i = omega (arith, c.loop-rule-test.false) in
    pushes_same (AreKnownRules parts c.args.linker.now c.args.targets.now) (IsRule parts)
    (map (rule_term document) (take i xs)) (map (rule_term document) c.args.section.now.rules.items) c.args.linked.now.items
    c.loop-rule.linked.items
    (ap (map (rule_term document)) (take_all i xs past ∙ c.as_slice-rules.ensures.value)) (c.loop-rule.invariant parts is)
