-- LinkedParts: linked parts are those of a set of documents: each table has the templates of its kind in their order,
-- the rules and the instances stand as in the documents, and the first names are told (X.722, section 8;
-- docs/PROFILE.md, section 12).
use Rattle.std.specs.Prelude.{ℕ, List, map}
use Rattle.linked_parts.specs.declared.linked.Linked.{Linked}
use Rattle.linked_parts.specs.declared.linked.LinkedFirstName.{LinkedFirstName}
use Rattle.linked_sections.specs.LinkedSections.{IsRule, IsInstance}
use Rattle.gdmo_linking.specs.LinkedTables.{TellFirstNames}
use Rattle.linked_templates.specs.TemplateTables.{AreLinkedTemplates}
use Rattle.gdmo_names.specs.DocumentTemplates.{templates}
use Rattle.gdmo_names.specs.InStep.{AreEach}
use Rattle.gdmo_names.specs.PartTerms.{PartTerms}

abbrev pub told_name : LinkedFirstName → List ℕ × List ℕ
told_name x = (x.name.text, x.arcs.items)

pub record AreLinkedParts (parts : PartTerms) (linked : Linked) : Type 0 where
  pub tables : AreLinkedTemplates parts (templates parts) linked
  pub rules : AreEach (IsRule parts) parts.rules linked.rules.items
  pub instances : AreEach (IsInstance parts) parts.instances linked.instances.items
  pub first_names : TellFirstNames parts (map told_name linked.first_names.items)
