use Rattle.std.proofs.Common.{[], take}
use Rattle.std.specs.Prelude.{flat_map}
use Rattle.gdmo_linking.specs.Linkers.{IsLinker}
use Rattle.gdmo_names.specs.PartTerms.{PartTerms}
use Rattle.gdmo_names.specs.PartViews.{section_instances}
use Rattle.linked_sections.specs.KnownSections.{AreKnownInstances}
use Rattle.linked_sections.specs.LinkedSections.{IsInstance}
use Rattle.linked_sections.specs.SectionTexts.{Pushes}
use Rattle.linked_sections.proofs.linking_instances.linked_instances.Given as goal

abbrev pub invariant-loop-section : goal.invariant-loop-section
invariant-loop-section l = (parts : PartTerms) → IsLinker parts l.linker →
    Pushes (AreKnownInstances parts l.linker l.targets) (IsInstance parts)
    (flat_map section_instances (take l.section-index l.sections)) [] l.linked.items
