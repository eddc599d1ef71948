use Rattle.std.proofs.Common.{map, take}
use Rattle.gdmo_linking.specs.Linkers.{IsLinker}
use Rattle.gdmo_names.specs.PartTerms.{PartTerms}
use Rattle.gdmo_names.specs.PartViews.{instance_term}
use Rattle.linked_sections.specs.KnownSections.{AreKnownInstances}
use Rattle.linked_sections.specs.LinkedSections.{IsInstance}
use Rattle.linked_sections.specs.SectionTexts.{Pushes}
use Rattle.linked_sections.proofs.linking_instances.push_all_instances.Given as goal

abbrev pub invariant-loop-instance : goal.invariant-loop-instance
invariant-loop-instance l = (parts : PartTerms) → IsLinker parts l.linker →
    Pushes (AreKnownInstances parts l.linker l.targets) (IsInstance parts)
    (map (instance_term l.section.document) (take l.instance-index l.instances)) l.initial.linked.items l.linked.items
