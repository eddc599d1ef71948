-- A section of instances, or another one.
use Rattle.std.proofs.Common.{[], ap, map, refl, sym}
use Rattle.gdmo_names.specs.PartViews.{instance_term, section_instances}
use Rattle.linked_sections.specs.KnownSections.{AreKnownInstances}
use Rattle.linked_sections.specs.LinkedSections.{IsInstance}
use Rattle.linked_sections.proofs.PushLaws.{pushes_none, pushes_same}
use Rattle.linked_sections.proofs.linking_instances.push_instances.Goals as goal

pub returns-in_ok-push_all_instances-in-Instances : goal.returns-in_ok-push_all_instances-in-Instances
returns-in_ok-push_all_instances-in-Instances c = λ parts is.
    let own = c.in-Instances.section in
    pushes_same (AreKnownInstances parts c.args.linker.now c.args.targets.now) (IsInstance parts)
    (map (instance_term own.document) own.instances.items) (section_instances c.args.section.now) c.args.linked.now.items
    c.push_all_instances.new.linked.items (sym (ap section_instances c.in-Instances.is))
    (c.in_ok-push_all_instances-in-Instances.ensures parts is)

pub returns-in-Rules : goal.returns-in-Rules
returns-in-Rules c = λ parts is.
    let known = AreKnownInstances parts c.args.linker.now c.args.targets.now in
    pushes_same known (IsInstance parts) [] (section_instances c.args.section.now) c.args.linked.now.items c.args.linked.now.items
    (sym (ap section_instances c.in-Rules.is))
    (pushes_none known (IsInstance parts) c.args.linked.now.items c.args.linked.now.items refl)
