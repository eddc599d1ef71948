use Rattle.std.proofs.Common.{map, take}
use Rattle.gdmo_linking.specs.Linkers.{IsLinker}
use Rattle.gdmo_names.specs.PartTerms.{PartTerms}
use Rattle.gdmo_names.specs.PartViews.{rule_term}
use Rattle.linked_sections.specs.KnownSections.{AreKnownRules}
use Rattle.linked_sections.specs.LinkedSections.{IsRule}
use Rattle.linked_sections.specs.SectionTexts.{Pushes}
use Rattle.linked_sections.proofs.linking_rules.push_all_rules.Given as goal

abbrev pub invariant-loop-rule : goal.invariant-loop-rule
invariant-loop-rule l = (parts : PartTerms) → IsLinker parts l.linker →
    Pushes (AreKnownRules parts l.linker l.targets) (IsRule parts)
    (map (rule_term l.section.document) (take l.rule-index l.rules)) l.initial.linked.items l.linked.items
