use Rattle.std.proofs.Common.{ℕ, map, take}
use Rattle.gdmo_linking.specs.Linkers.{IsLinker}
use Rattle.gdmo_names.specs.InStep.{AreAll, AreEach}
use Rattle.gdmo_names.specs.Mentions.{Role}
use Rattle.gdmo_names.specs.PartTerms.{PartTerms}
use Rattle.gdmo_names.specs.PartViews.{pair_term}
use Rattle.gdmo_targets.specs.SectionTables.{TellsPair}
use Rattle.linked_sections.specs.KnownSections.{IsCompletePair}
use Rattle.linked_sections.specs.LinkedSections.{IsPair}
use Rattle.linked_sections.proofs.linking_instances.linked_pairs.Given as goal

abbrev pub invariant-loop-k : goal.invariant-loop-k
invariant-loop-k l = (parts : PartTerms) (document : ℕ) (role : Role) → IsLinker parts l.linker →
    AreAll (IsCompletePair parts document role) (map pair_term l.pairs) →
    AreEach (TellsPair parts l.linker.linkage.templates.now document role) (map pair_term l.pairs) l.targets →
    AreEach (IsPair parts document role) (take l.k (map pair_term l.pairs)) l.linked.items
