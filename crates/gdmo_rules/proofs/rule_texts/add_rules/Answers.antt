-- One more rule, and all of a section.
use Rattle.std.proofs.Common.{◌≡◌, ◌<◌, ◌≤◌, arith, get_or, length, refl, rules, subst}
use Rattle.gdmo_targets.specs.StatedRules.{rule_terms}
use Rattle.gdmo_targets.proofs.StatedLaws.{texts_end, texts_step}
use Rattle.gdmo_rules.proofs.rule_texts.add_rules.Goals as goal

pub loop-rule-preserved : goal.loop-rule-preserved
loop-rule-preserved c =
    let same : c.deref-rule-items.result.now ≡ c.args.section.now.rules.items = search rules in
    texts_step (rule_terms c.args.rules.now.items) c.args.section.now.document c.args.section.now.rules.items
    c.loop-rule.rule-index c.rule-item.result c.loop-rule.rules.items c.push.new.self.items _
    (subst (λ xs. c.loop-rule.rule-index < length xs) same c.loop-rule-test.true)
    (subst (λ xs. c.rule-item.result ≡ get_or xs c.loop-rule.rule-index c.rule-item.result) same c.rule-item.is)
    c.in_ok-push.ensures.items refl c.loop-rule.invariant

pub returns : goal.returns
returns c =
    let same : c.deref-rule-items.result.now ≡ c.args.section.now.rules.items = search rules in
    texts_end (rule_terms c.args.rules.now.items) c.args.section.now.document c.args.section.now.rules.items
    c.loop-rule.rule-index c.loop-rule.rules.items
    (subst (λ xs. length xs ≤ c.loop-rule.rule-index) same (omega (arith, c.loop-rule-test.false)))
    c.loop-rule.invariant
