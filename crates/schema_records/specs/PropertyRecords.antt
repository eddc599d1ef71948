-- PropertyRecords: which property is that of what is joined of an attribute, by the places of types in a table of types
-- and the numbers of values (X.722, section 8.4; docs/PROFILE.md, section 18).
use Rattle.std.specs.Prelude.{◌≡◌, ℕ, List, Option, None, Some, All, option_map}
use Rattle.std.specs.BTreeMap.{IsOrdered as AreOrdered, keys as map_keys}
use Rattle.std.specs.BTreeSet.{BTreeSet, IsOrdered, keys}
use Rattle.std.specs.List.{filter_map}
use Rattle.std.specs.Ordering.{nat_cmp}
use Rattle.term_values.specs.Syntaxes.{TypeSyntax}
use Rattle.term_values.specs.Typed.{TypedValue}
use Rattle.term_model.specs.declared.packages.Property.{Property}
use Rattle.term_model.specs.declared.schema.ClassRec.{ClassRec}
use Rattle.joined_statements.specs.HeldValues.{value_at}
use Rattle.joined_statements.specs.JoinedStatements.{Attributes, Values}
use Rattle.joined_statements.specs.declared.held.Held.{Held}
use Rattle.joined_statements.specs.declared.held.Held.TheVariants.{One}
use Rattle.joined_statements.specs.declared.joined.Joined.{Joined}
use Rattle.linked_parts.specs.declared.linked.Linked.{Linked}
use Rattle.linked_types.specs.PartIdentifiers.{AreEach, IsAttributeId}
use Rattle.linked_types.specs.TypeTables.{syntax_at, type_at}
use Rattle.linked_types.specs.declared.type_table.NamedType.{NamedType}
use Rattle.linked_types.specs.declared.type_table.TypeTable.{TypeTable}
use Rattle.schema_records.specs.RegisteredParts.{IsAttributePlace}

-- the syntax of the type at a place, and its name
abbrev pub type_syntax : TypeTable → ℕ → Option TypeSyntax
type_syntax table place = syntax_at table (Some place)

abbrev pub type_name : TypeTable → ℕ → Option (List ℕ)
type_name table place = option_map (λ (x : NamedType). x.name) (type_at table place)

-- the value that is held, where one is
abbrev pub held_value : Values → Held → Option TypedValue
held_value values (One number) = value_at values number
held_value values _ = None

-- what is found at places, in their order; where there is nothing, nothing is told
pub record AreFoundAt {X : Type 0} (found : ℕ → Option X) (places : BTreeSet ℕ) (xs : List X) : Type 0 where
  pub rise : IsOrdered nat_cmp places
  pub are : xs ≡ filter_map found (keys places)

pub record IsPropertyOf (table : TypeTable) (values : Values) (joined : Joined) (x : Property) : Type 0 where
  pub gets : joined.get ≡ x.get
  pub replaces : joined.replace ≡ x.replace
  pub adds : joined.add ≡ x.add
  pub removes : joined.remove ≡ x.remove
  pub sets_default : joined.set_to_default ≡ x.set_to_default
  pub is_default : held_value values joined.default ≡ x.default
  pub is_initial : held_value values joined.initial ≡ x.initial
  pub permits : AreFoundAt (type_syntax table) joined.permitted x.permitted
  pub requires_types : AreFoundAt (type_name table) joined.required x.required

-- the same of the attribute at a place
pub record IsJoinedProperty (linked : Linked) (table : TypeTable) (values : Values) (attribute : ℕ) (joined : Joined)
    (x : Property) : Type 0 where
  pub is_attribute : IsAttributeId linked attribute x.attribute
  pub is_joined : IsPropertyOf table values joined x

-- of each attribute in a table one property, by the places of the attributes, and no other
pub record AreJoinedProperties (linked : Linked) (table : TypeTable) (values : Values) (attributes : Attributes)
    (xs : List Property) : Type 0 where
  pub rise : AreOrdered nat_cmp attributes
  pub are : AreEach (λ (entry : ℕ × Joined) x. IsJoinedProperty linked table values entry.0 entry.1 x)
      attributes.entries xs

-- the attributes in a table are registered
abbrev pub AreAttributePlaces : Linked → Attributes → Type 0
AreAttributePlaces linked attributes = All (IsAttributePlace linked) (map_keys attributes)

-- a class has exactly the joined properties of a table
abbrev pub HasJoinedProperties : Linked → TypeTable → Values → Attributes → ClassRec → Type 0
HasJoinedProperties linked table values attributes x = AreJoinedProperties linked table values attributes x.properties
