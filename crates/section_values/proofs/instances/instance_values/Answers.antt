-- One more instance, and all of them.
use Rattle.std.proofs.Common.{◌≡◌, ◌<◌, ◌≤◌, Some, arith, length, get_or}
use Rattle.std.proofs.Math.Path.{subst}
use Rattle.section_values.specs.BadSections.{BadOfInstance}
use Rattle.section_values.specs.SectionRecords.{IsInstance}
use Rattle.section_values.specs.ToldSections.{IsGoodInstance}
use Rattle.section_values.proofs.ReadingLaws.{read_all, read_none, read_step, told_all}
use Rattle.section_values.proofs.SectionLaws.{good_instances, instances_noted}
use Rattle.section_values.proofs.instances.instance_values.Goals as goal

pub loop-instance-init : goal.loop-instance-init
loop-instance-init c = λ ms known.
    let linked = c.args.parts.now.linked.now in
    read_none (BadOfInstance ms linked) (IsGoodInstance ms linked) (IsInstance ms linked) linked.instances.items
    c.new-values.result.items c.args.bad.now.first c.new-values.ensures.items

pub loop-instance-preserved : goal.loop-instance-preserved
loop-instance-preserved c = λ ms known.
    let linked = c.args.parts.now.linked.now in
    let i = c.loop-instance.instance-index in
    let slice = c.deref-instance-items.result.now in
    let item = c.instance-item.result in
    let same = c.deref-instance-items.ensures.value in
    let within : i < length slice = omega (arith, c.loop-instance-test.true) in
    read_step (BadOfInstance ms linked) (IsGoodInstance ms linked) (IsInstance ms linked) linked.instances.items i item
    (Some c.in_ok-one.one) c.loop-instance.values.items c.push.new.self.items
    (subst (λ xs. i < length xs) same within) (subst (λ xs. item ≡ get_or xs i item) same c.instance-item.is)
    c.in_ok-push.ensures.items (c.in_ok-one.ensures.told ms known) (c.in_ok-one.ensures.noted ms known)
    (c.loop-instance.invariant ms known)

pub returns-clause-told : goal.returns-clause-told
returns-clause-told c = λ ms known have no_bad.
    let linked = c.args.parts.now.linked.now in
    told_all (BadOfInstance ms linked) (IsGoodInstance ms linked) (IsInstance ms linked) linked.instances.items
    c.loop-instance.instance-index c.loop-instance.values.items
    (subst (λ xs. length xs ≤ c.loop-instance.instance-index) c.deref-instance-items.ensures.value
    c.loop-instance-test.false)
    (c.loop-instance.invariant ms known) (good_instances ms linked have no_bad)

pub returns-clause-noted : goal.returns-clause-noted
returns-clause-noted c = λ ms known.
    let linked = c.args.parts.now.linked.now in
    instances_noted ms linked
    (read_all (BadOfInstance ms linked) (IsGoodInstance ms linked) (IsInstance ms linked) linked.instances.items
    c.loop-instance.instance-index c.loop-instance.values.items
    (subst (λ xs. length xs ≤ c.loop-instance.instance-index) c.deref-instance-items.ensures.value
    c.loop-instance-test.false)
    (c.loop-instance.invariant ms known))
