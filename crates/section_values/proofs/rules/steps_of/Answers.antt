-- One more step, and all of them.
use Rattle.std.proofs.Common.{◌≡◌, ◌<◌, ◌≤◌, arith, length, get_or}
use Rattle.std.proofs.Math.Path.{subst}
use Rattle.section_values.specs.BadSections.{BadOfStep}
use Rattle.section_values.specs.SectionRecords.{IsStep}
use Rattle.section_values.specs.ToldSections.{IsGoodStep}
use Rattle.section_values.proofs.ReadingLaws.{read_all, read_none, read_step, told_all}
use Rattle.section_values.proofs.rules.steps_of.Goals as goal

pub loop-step-init : goal.loop-step-init
loop-step-init c = λ ms known.
    let linked = c.args.parts.now.linked.now in
    let rule = c.args.rule.now in
    read_none (BadOfStep ms linked rule) (IsGoodStep ms linked rule) (IsStep ms linked rule) rule.steps.items
    c.new-items.result.items c.args.bad.now.first c.new-items.ensures.items

pub loop-step-preserved : goal.loop-step-preserved
loop-step-preserved c = λ ms known.
    let linked = c.args.parts.now.linked.now in
    let rule = c.args.rule.now in
    let i = c.loop-step.step-index in
    let slice = c.deref-step-items.result.now in
    let item = c.step-item.result in
    let same = c.deref-step-items.ensures.value in
    let within : i < length slice = omega (arith, c.loop-step-test.true) in
    read_step (BadOfStep ms linked rule) (IsGoodStep ms linked rule) (IsStep ms linked rule) rule.steps.items i item
    c.in_ok-found.found c.loop-step.items.items c.push_step.new.items.items
    (subst (λ xs. i < length xs) same within) (subst (λ xs. item ≡ get_or xs i item) same c.step-item.is)
    c.in_ok-push_step.ensures (c.in_ok-found.ensures.told ms known) (c.in_ok-found.ensures.noted ms known)
    (c.loop-step.invariant ms known)

pub returns-clause-told : goal.returns-clause-told
returns-clause-told c = λ ms known good.
    let linked = c.args.parts.now.linked.now in
    let rule = c.args.rule.now in
    told_all (BadOfStep ms linked rule) (IsGoodStep ms linked rule) (IsStep ms linked rule) rule.steps.items
    c.loop-step.step-index c.loop-step.items.items
    (subst (λ xs. length xs ≤ c.loop-step.step-index) c.deref-step-items.ensures.value c.loop-step-test.false)
    (c.loop-step.invariant ms known) good

pub returns-clause-noted : goal.returns-clause-noted
returns-clause-noted c = λ ms known.
    let linked = c.args.parts.now.linked.now in
    let rule = c.args.rule.now in
    read_all (BadOfStep ms linked rule) (IsGoodStep ms linked rule) (IsStep ms linked rule) rule.steps.items
    c.loop-step.step-index c.loop-step.items.items
    (subst (λ xs. length xs ≤ c.loop-step.step-index) c.deref-step-items.ensures.value c.loop-step-test.false)
    (c.loop-step.invariant ms known)
