use Rattle.std.proofs.Common.{[], take}
use Rattle.std.specs.Prelude.{flat_map}
use Rattle.gdmo_linking.specs.Linkers.{IsLinker}
use Rattle.gdmo_names.specs.PartTerms.{PartTerms}
use Rattle.gdmo_names.specs.PartViews.{section_rules}
use Rattle.linked_sections.specs.KnownSections.{AreKnownRules}
use Rattle.linked_sections.specs.LinkedSections.{IsRule}
use Rattle.linked_sections.specs.SectionTexts.{Pushes}
use Rattle.linked_sections.proofs.linking_rules.linked_rules.Given as goal

abbrev pub invariant-loop-section : goal.invariant-loop-section
invariant-loop-section l = (parts : PartTerms) → IsLinker parts l.linker →
    Pushes (AreKnownRules parts l.linker l.targets) (IsRule parts)
    (flat_map section_rules (take l.section-index l.sections)) [] l.linked.items
