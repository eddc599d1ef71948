-- Resolved: what is told of the references of a set of documents, and what is known of them on the way (X.722, section 8;
-- docs/PROFILE.md, section 12).
use Rattle.std.specs.Prelude.{◌≡◌, Result, Ok, Err, flat_map}
use Rattle.gdmo_first_names.specs.ReadModules.{HasModules}
use Rattle.gdmo_names.specs.FirstLabelFault.{AreFaultless, TellsFirstFault}
use Rattle.gdmo_names.specs.PartTerms.{PartTerms}
use Rattle.gdmo_names.specs.PartViews.{section_instances, section_rules}
use Rattle.gdmo_names.specs.declared.refusal.LabelRefusal.{LabelRefusal}
use Rattle.gdmo_targets.specs.SectionTables.{AreSectionTargets}
use Rattle.gdmo_types.specs.Linkages.{IsLinkage}
use Rattle.linked_parts.specs.declared.linked.Linked.{Linked}
use Rattle.linked_documents.specs.LinkedParts.{AreLinkedParts}
use Rattle.label_laws.specs.ReadTexts.{AreReadParts}
use Rattle.gdmo_resolve.specs.declared.known_parts.KnownParts.{KnownParts}

-- nothing is wrong, and these are the linked parts; or this is the first fault
abbrev pub Concludes : PartTerms → Result Linked LabelRefusal → Type 0
Concludes parts (Ok linked) = AreFaultless parts × AreLinkedParts parts linked
Concludes parts (Err refusal) = TellsFirstFault parts refusal

-- what is known once all labels are looked up
pub record AreKnownParts (parts : PartTerms) (known : KnownParts) : Type 0 where
  pub is_linkage : IsLinkage parts known.linkage.now
  pub has_modules : HasModules parts known.tables.now
  pub reads_modules : HasModules parts known.parts.now.modules.items
  pub are_rules : parts.rules ≡ flat_map section_rules known.parts.now.sections.items
  pub are_instances : parts.instances ≡ flat_map section_instances known.parts.now.sections.items
  pub are_targets : AreSectionTargets parts known.linkage.now.templates.now known.targets.now
  pub are_read : AreReadParts parts
