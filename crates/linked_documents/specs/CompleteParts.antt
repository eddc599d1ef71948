-- CompleteParts: what is known of a set of documents where no reference is missing (X.722, section 8; docs/PROFILE.md,
-- section 12).
use Rattle.std.specs.Prelude.{◌≡◌, List, Option, ℕ, flat_map, map}
use Rattle.extra_syntax.specs.declared.section.Section.{Section}
use Rattle.linked_parts.specs.declared.linked.LinkedFirstName.{LinkedFirstName}
use Rattle.linked_documents.specs.LinkedParts.{told_name}
use Rattle.linked_sections.specs.KnownSections.{IsCompleteInstance, IsCompleteRule}
use Rattle.linked_templates.specs.TemplateTables.{IsComplete, IsRegistered}
use Rattle.gdmo_linking.specs.LinkedTables.{TellFirstNames}
use Rattle.gdmo_names.specs.DocumentTemplates.{templates}
use Rattle.gdmo_names.specs.InStep.{AreAll, AreEach}
use Rattle.gdmo_names.specs.PartTerms.{PartTerms}
use Rattle.gdmo_names.specs.PartViews.{section_instances, section_rules}
use Rattle.gdmo_names.specs.declared.found.Found.{Found}
use Rattle.gdmo_targets.specs.SectionTables.{AreSectionTargets}
use Rattle.gdmo_targets.specs.declared.section_references.SectionTargets.{SectionTargets}

-- all that templates, rules and instances name is there
pub record AreComplete (parts : PartTerms) : Type 0 where
  pub templates_complete : AreAll (IsComplete parts) (templates parts)
  pub rules_complete : AreAll (IsCompleteRule parts) parts.rules
  pub instances_complete : AreAll (IsCompleteInstance parts) parts.instances

-- the sections are those of the documents, and these are the templates that they name
pub record AreKnownSections (parts : PartTerms) (found : List Found) (sections : List Section)
    (targets : SectionTargets) : Type 0 where
  pub are_rules : parts.rules ≡ flat_map section_rules sections
  pub are_instances : parts.instances ≡ flat_map section_instances sections
  pub are_targets : AreSectionTargets parts found targets

-- what is told beside them: the identifiers of the templates, and the first names
pub record AreToldNames (parts : PartTerms) (identifiers : List (Option (List ℕ)))
    (first_names : List LinkedFirstName) : Type 0 where
  pub are_registered : AreEach (IsRegistered parts) (templates parts) identifiers
  pub are_first_names : TellFirstNames parts (map told_name first_names)
