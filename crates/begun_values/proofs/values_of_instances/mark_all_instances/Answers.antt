-- One more section, and all of them.
use Rattle.gdmo_names.specs.PartViews.{section_instances}
use Rattle.gdmo_targets.specs.SectionTables.{IsInstanceTargets}
use Rattle.begun_values.specs.SectionValues.{InstanceFirsts}
use Rattle.begun_values.proofs.GoingLaws.{goes_all, goes_flat_step}
use Rattle.begun_values.proofs.values_of_instances.mark_all_instances.Goals as goal

pub loop-section-preserved : goal.loop-section-preserved
loop-section-preserved c = λ parts link.
    goes_flat_step (IsInstanceTargets parts c.args.linkage.now.templates.now) (InstanceFirsts parts) section_instances
    c.args.sections.now c.loop-section.section-index c.section-item.result c.args.targets.now 0 c.loop-section.next
    c.in_ok-next.next c.loop-section-test.true c.section-item.is (c.loop-section.invariant parts link)
    (c.in_ok-next.ensures parts link)

pub returns : goal.returns
returns c = λ parts link each.
    goes_all (IsInstanceTargets parts c.args.linkage.now.templates.now) (InstanceFirsts parts) section_instances
    c.args.sections.now c.loop-section.section-index c.args.targets.now c.loop-section.next c.loop-section-test.false
    (c.loop-section.invariant parts link) each
