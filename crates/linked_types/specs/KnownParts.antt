-- KnownParts: what is known of linked parts while their classes are closed: what names mean, and the types that parts
-- name, all of the same modules and parts (X.722, section 8; docs/PROFILE.md, sections 11, 12 and 18).
use Rattle.std.specs.Prelude.{ℕ, List, Option, option_and_then, slice_get}
use Rattle.asn1_names.specs.ModuleTerms.{ModuleTerm}
use Rattle.linked_parts.specs.declared.linked.LinkedHead.{LinkedHead}
use Rattle.filled_syntaxes.specs.AssignedValues.{AreAssignedValues}
use Rattle.filled_syntaxes.specs.KnownThings.{AreNamedThings}
use Rattle.linked_types.specs.PartTypes.{AreLinkedTypes}
use Rattle.linked_types.specs.TypeTables.{IsTypeTable}
use Rattle.linked_types.specs.declared.closing_parts.ClosingParts.{ClosingParts}

-- the identifier under which the template at a place of a table is registered
abbrev pub identifier_at : {L : Type 0} → (L → LinkedHead) → List L → ℕ → Option (List ℕ)
identifier_at head xs k = option_and_then (λ x. (head x).identifier) (slice_get xs k)

pub record AreClosingParts (ms : List ModuleTerm) (parts : ClosingParts) : Type 0 where
  pub things_are : AreNamedThings ms parts.linked.now parts.things.now
  pub table_is : IsTypeTable ms parts.linked.now parts.table.now
  pub types_are : AreLinkedTypes ms parts.linked.now parts.table.now parts.types.now
  pub values_are : AreAssignedValues ms parts.linked.now parts.values.now
