use Rattle.std.proofs.Common.{[], take}
use Rattle.gdmo_linking.specs.Linkers.{IsLinker}
use Rattle.gdmo_names.specs.DocumentTemplates.{templates}
use Rattle.gdmo_names.specs.FoundViews.{found_views}
use Rattle.gdmo_names.specs.InStep.{AreAll, AreEach}
use Rattle.gdmo_names.specs.PartTerms.{PartTerms}
use Rattle.linked_templates.specs.TemplateTables.{AreLinkedTemplates, IsComplete, IsRegistered, KeepsSections}
use Rattle.linked_templates.proofs.linking_templates.link_templates.Given as goal

abbrev pub invariant-loop-number : goal.invariant-loop-number
invariant-loop-number l = ((parts : PartTerms) → IsLinker parts l.linker → AreAll (IsComplete parts) (templates parts) →
    AreEach (IsRegistered parts) (templates parts) l.identifiers → AreLinkedTemplates parts [] l.initial.linked →
    AreLinkedTemplates parts (take l.number (found_views l.linker.linkage.templates.now)) l.linked)
    × KeepsSections l.initial.linked l.linked
