-- AttributeTypes: the type of each attribute, which one that is derived has from its base, by its place in a table of
-- types (X.722, section 8.7).
use Rattle.std.specs.Prelude.{◌≡◌, ◌↔◌, ℕ, List, Option, None, Some, length, map, slice_get}
use Rattle.term_values.specs.Syntaxes.{TypeSyntax}
use Rattle.asn1_names.specs.ModuleTerms.{ModuleTerm}
use Rattle.link_graphs.specs.declared.chains.Link.{Link}
use Rattle.link_graphs.specs.declared.chains.Link.TheVariants.{End, Next}
use Rattle.linked_parts.specs.declared.linked.Linked.{Linked}
use Rattle.linked_parts.specs.declared.linked.LinkedAttribute.{LinkedAttribute}
use Rattle.linked_parts.specs.declared.linked.LinkedName.{LinkedName}
use Rattle.linked_parts.specs.declared.linked.LinkedSyntax.{LinkedSyntax}
use Rattle.linked_parts.specs.declared.linked.LinkedSyntax.TheVariants.{OfAttribute, OfType}
use Rattle.class_faults.specs.AttributeSyntaxes.{AttributeHas}
use Rattle.linked_types.specs.TypeTables.{type_at}
use Rattle.linked_types.specs.declared.type_table.NamedType.{NamedType}
use Rattle.linked_types.specs.declared.type_table.TypeTable.{TypeTable}

-- where the syntax of an attribute leads: to its base, or to an end where it is that of a type
abbrev pub base_link : LinkedSyntax → Link
base_link (OfType name) = End
base_link (OfAttribute base) = Next base

abbrev pub base_links : List LinkedAttribute → List Link
base_links xs = map (λ (x : LinkedAttribute). base_link x.syntax) xs

-- the name of the type, where the syntax is that of a type
abbrev pub type_name : LinkedSyntax → Option LinkedName
type_name (OfType name) = Some name
type_name (OfAttribute base) = None

-- the same of the attribute at a place that may be missing
abbrev pub own_name : Option LinkedAttribute → Option LinkedName
own_name None = None
own_name (Some x) = type_name x.syntax

abbrev pub name_at : List LinkedAttribute → Option ℕ → Option LinkedName
name_at xs None = None
name_at xs (Some k) = own_name (slice_get xs k)

-- a type has exactly the syntax of the attribute at the place k, where this has one
abbrev pub HasItsSyntax : List ModuleTerm → Linked → ℕ → NamedType → Type 0
HasItsSyntax ms linked k x = (syntax : TypeSyntax) → (x.syntax ≡ Some syntax) ↔ AttributeHas ms linked k syntax

-- the place of the type of the attribute at the place k, where it has one
abbrev pub TellsAttributeType : List ModuleTerm → Linked → TypeTable → ℕ → Option ℕ → Type 0
TellsAttributeType ms linked table k None = (syntax : TypeSyntax) → ¬ AttributeHas ms linked k syntax
TellsAttributeType ms linked table k (Some place) =
    (x : NamedType) × (type_at table place ≡ Some x) × HasItsSyntax ms linked k x

pub record AreAttributeTypes (ms : List ModuleTerm) (linked : Linked) (table : TypeTable) (types : List (Option ℕ))
    : Type 0 where
  pub size : length types ≡ length linked.attributes.items
  pub told : (k : ℕ) (place : Option ℕ) → slice_get types k ≡ Some place → TellsAttributeType ms linked table k place
