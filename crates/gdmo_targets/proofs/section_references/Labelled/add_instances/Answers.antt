-- One more of them, and all.
use Rattle.std.proofs.Common.{◌≡◌, ◌<◌, ◌≤◌, arith, get_or, length, rules, subst}
use Rattle.gdmo_names.specs.PartViews.{instance_term}
use Rattle.gdmo_names.specs.SectionFaults.{FaultsOfInstance}
use Rattle.gdmo_targets.specs.SectionTables.{IsInstanceTargets}
use Rattle.gdmo_names.proofs.InStepLaws.{noted_all, noted_none, noted_one_more}
use Rattle.gdmo_targets.proofs.section_references.Labelled.add_instances.Goals as goal

pub loop-instance-init : goal.loop-instance-init
loop-instance-init c = λ parts is. noted_none (IsInstanceTargets parts c.args.self.now.templates.now) (FaultsOfInstance parts)
    c.args.instances.now.items c.args.faults.now.first

pub loop-instance-preserved : goal.loop-instance-preserved
loop-instance-preserved c = λ parts is.
    let same : c.deref-instance-items.result.now ≡ c.args.section.now.instances.items = search rules in
    noted_one_more (IsInstanceTargets parts c.args.self.now.templates.now) (FaultsOfInstance parts)
    (instance_term c.args.section.now.document) c.args.section.now.instances.items c.loop-instance.instance-index c.instance-item.result c.args.instances.now.items
    c.loop-instance.instances.items c.push.new.self.items c.in_ok-instance_targets.field-0 (subst (λ xs. c.loop-instance.instance-index < length xs) same c.loop-instance-test.true)
    (subst (λ xs. c.instance-item.result ≡ get_or xs c.loop-instance.instance-index c.instance-item.result) same c.instance-item.is)
    c.in_ok-push.ensures.items (c.loop-instance.invariant parts is) (c.in_ok-instance_targets.ensures parts is)

pub returns : goal.returns
returns c = λ parts is.
    let same : c.deref-instance-items.result.now ≡ c.args.section.now.instances.items = search rules in
    noted_all (IsInstanceTargets parts c.args.self.now.templates.now) (FaultsOfInstance parts)
    (instance_term c.args.section.now.document) c.args.section.now.instances.items c.loop-instance.instance-index c.args.instances.now.items c.loop-instance.instances.items
    (subst (λ xs. length xs ≤ c.loop-instance.instance-index) same (omega (arith, c.loop-instance-test.false))) (c.loop-instance.invariant parts is)
