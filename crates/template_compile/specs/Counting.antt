-- Counting: how many templates of each kind, and types, documents have, and whether a section INSTANCES stands among
-- them (X.722, section 8.2; docs/PROFILE.md, section 2).
use Rattle.std.specs.Prelude.{◌≡◌, ℕ, ◌==◌, List, Bool, true, false, count_by, length, min, sum_by}
use Rattle.std.specs.List.{list_any}
use Rattle.asn1_syntax.specs.declared.module.Assigned.{Assigned}
use Rattle.asn1_syntax.specs.declared.module.Assigned.TheVariants.{OfType, OfValue}
use Rattle.asn1_syntax.specs.declared.module.Module.{Module}
use Rattle.document_parts.specs.declared.documents.Doc.{Doc}
use Rattle.extra_syntax.specs.declared.section.Section.{Section}
use Rattle.extra_syntax.specs.declared.section.Section.TheVariants.{Rules, Instances}
use Rattle.gdmo_names.specs.declared.parsed.Parsed.{Parsed}
use Rattle.gdmo_names.specs.DocumentTemplates.{templates}
use Rattle.gdmo_names.specs.PartTerms.{Placed, kind_of}
use Rattle.gdmo_names.specs.PartViews.{part_terms}
use Rattle.gdmo_names.specs.TemplateTerms.{TemplateKind}
use Rattle.gdmo_names.specs.TemplateTerms.TemplateKind.{ClassKind, PackageKind, ParameterKind, BindingKind}
use Rattle.gdmo_names.specs.TemplateTerms.TemplateKind.{AttributeKind, GroupKind, BehaviourKind, ActionKind}
use Rattle.gdmo_names.specs.TemplateTerms.TemplateKind.{NotificationKind}
use Rattle.template_compile.specs.Acceptance.{AreAcceptedAs}
use Rattle.template_compile.specs.declared.counts.Counts.{Counts}
use Rattle.term_model.specs.declared.schema.Set.{Set}

-- two kinds are one
abbrev pub kind_number : TemplateKind → ℕ
kind_number ClassKind = 0
kind_number PackageKind = 1
kind_number ParameterKind = 2
kind_number BindingKind = 3
kind_number AttributeKind = 4
kind_number GroupKind = 5
kind_number BehaviourKind = 6
kind_number ActionKind = 7
kind_number NotificationKind = 8

abbrev pub is_of_kind : TemplateKind → Placed → Bool
is_of_kind kind x = kind_number (kind_of x.template) == kind_number kind

-- the templates of a kind, those in line too
abbrev pub kind_count : TemplateKind → List Placed → ℕ
kind_count kind xs = count_by (is_of_kind kind) xs

abbrev pub template_count : TemplateKind → Parsed → ℕ
template_count kind parts = kind_count kind (templates (part_terms parts))

abbrev pub is_type : Assigned → Bool
is_type (OfType of) = true
is_type (OfValue of value) = false

-- the types that modules assign; they are told in 64 bits
abbrev pub types_of : Module → ℕ
types_of x = count_by (λ assignment. is_type assignment.assigned) x.assignments.items

abbrev pub type_count : List Module → ℕ
type_count modules = min (sum_by types_of modules) 18446744073709551615

abbrev pub counted : List Doc → Parsed → Counts
counted docs parts = record {
  documents = length docs;
  classes = template_count ClassKind parts;
  packages = template_count PackageKind parts;
  attributes = template_count AttributeKind parts;
  groups = template_count GroupKind parts;
  bindings = template_count BindingKind parts;
  actions = template_count ActionKind parts;
  notifications = template_count NotificationKind parts;
  parameters = template_count ParameterKind parts;
  behaviours = template_count BehaviourKind parts;
  types = type_count parts.modules.items;
}

abbrev pub is_instances : Section → Bool
is_instances (Rules of) = false
is_instances (Instances of) = true

-- the documents say some parts that are accepted as this schema, and this is how many there are of each kind, and
-- whether there are instances
pub record IsCompiled (docs : List Doc) (schema : Set) (counts : Counts) (has_instances : Bool) : Type 0 where
  pub parts : Parsed
  pub accepted : AreAcceptedAs docs parts schema
  pub counts_are : counts ≡ counted docs parts
  pub instances_are : has_instances ≡ list_any is_instances parts.sections.items
