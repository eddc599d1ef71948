-- One more rule, and all of them.
use Rattle.std.proofs.Common.{◌≡◌, ◌<◌, ◌≤◌, arith, length, get_or}
use Rattle.std.proofs.Math.Path.{subst}
use Rattle.section_values.specs.BadSections.{BadOfRule}
use Rattle.section_values.specs.SectionRecords.{IsRule}
use Rattle.section_values.specs.ToldSections.{IsGoodRule}
use Rattle.section_values.proofs.ReadingLaws.{read_all, read_none, read_step, told_all}
use Rattle.section_values.proofs.SectionLaws.{good_rules, rules_noted}
use Rattle.section_values.proofs.rules.rule_records.Goals as goal

pub loop-rule-init : goal.loop-rule-init
loop-rule-init c = λ ms known.
    let linked = c.args.parts.now.linked.now in
    read_none (BadOfRule ms linked) (IsGoodRule ms linked) (IsRule ms linked) linked.rules.items
    c.new-items.result.items c.args.bad.now.first c.new-items.ensures.items

pub loop-rule-preserved : goal.loop-rule-preserved
loop-rule-preserved c = λ ms known.
    let linked = c.args.parts.now.linked.now in
    let i = c.loop-rule.rule-index in
    let slice = c.deref-rule-items.result.now in
    let item = c.rule-item.result in
    let same = c.deref-rule-items.ensures.value in
    let within : i < length slice = omega (arith, c.loop-rule-test.true) in
    read_step (BadOfRule ms linked) (IsGoodRule ms linked) (IsRule ms linked) linked.rules.items i item
    c.in_ok-found.found c.loop-rule.items.items c.push_rule.new.items.items
    (subst (λ xs. i < length xs) same within) (subst (λ xs. item ≡ get_or xs i item) same c.rule-item.is)
    c.in_ok-push_rule.ensures (c.in_ok-found.ensures.told ms known) (c.in_ok-found.ensures.noted ms known)
    (c.loop-rule.invariant ms known)

pub returns-clause-told : goal.returns-clause-told
returns-clause-told c = λ ms known registered have no_bad.
    let linked = c.args.parts.now.linked.now in
    told_all (BadOfRule ms linked) (IsGoodRule ms linked) (IsRule ms linked) linked.rules.items
    c.loop-rule.rule-index c.loop-rule.items.items
    (subst (λ xs. length xs ≤ c.loop-rule.rule-index) c.deref-rule-items.ensures.value c.loop-rule-test.false)
    (c.loop-rule.invariant ms known) (good_rules ms linked registered have no_bad)

pub returns-clause-noted : goal.returns-clause-noted
returns-clause-noted c = λ ms known.
    let linked = c.args.parts.now.linked.now in
    rules_noted ms linked
    (read_all (BadOfRule ms linked) (IsGoodRule ms linked) (IsRule ms linked) linked.rules.items
    c.loop-rule.rule-index c.loop-rule.items.items
    (subst (λ xs. length xs ≤ c.loop-rule.rule-index) c.deref-rule-items.ensures.value c.loop-rule-test.false)
    (c.loop-rule.invariant ms known))
