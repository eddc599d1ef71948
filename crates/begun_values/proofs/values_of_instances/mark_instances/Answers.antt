-- One more instance, and all of them.
use Rattle.gdmo_names.specs.PartViews.{instance_term}
use Rattle.gdmo_targets.specs.SectionTables.{IsInstanceTargets}
use Rattle.begun_values.specs.SectionValues.{InstanceFirsts}
use Rattle.begun_values.proofs.GoingLaws.{goes_map_step}
use Rattle.begun_values.proofs.values_of_instances.mark_instances.Goals as goal

pub loop-instance-preserved : goal.loop-instance-preserved
loop-instance-preserved c = λ parts link.
    goes_map_step (IsInstanceTargets parts c.args.linkage.now.templates.now) (InstanceFirsts parts)
    (instance_term c.args.section.now.document) c.as_slice-instances.result.now c.loop-instance.instance-index
    c.instance-item.result c.args.targets.now c.args.at c.loop-instance.next c.in_ok-next.next
    c.loop-instance-test.true c.instance-item.is (c.loop-instance.invariant parts link)
    (c.in_ok-next.ensures parts c.args.section.now.document link)
