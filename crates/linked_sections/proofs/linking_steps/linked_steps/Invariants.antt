use Rattle.std.proofs.Common.{map, take}
use Rattle.gdmo_linking.specs.Linkers.{IsLinker}
use Rattle.gdmo_names.specs.InStep.{AreAll, AreEach}
use Rattle.gdmo_names.specs.PartTerms.{PartTerms, RuleTerm}
use Rattle.gdmo_names.specs.PartViews.{step_term}
use Rattle.gdmo_targets.specs.SectionTables.{TellsStep}
use Rattle.linked_sections.specs.KnownSections.{IsCompleteStep}
use Rattle.linked_sections.specs.LinkedSections.{IsStep}
use Rattle.linked_sections.proofs.linking_steps.linked_steps.Given as goal

abbrev pub invariant-loop-k : goal.invariant-loop-k
invariant-loop-k l = (parts : PartTerms) (rule : RuleTerm) → IsLinker parts l.linker →
    AreAll (IsCompleteStep parts rule) (map step_term l.steps) →
    AreEach (TellsStep parts l.linker.linkage.templates.now rule.document) (map step_term l.steps) l.targets →
    AreEach (IsStep parts rule) (take l.k (map step_term l.steps)) l.linked.items
