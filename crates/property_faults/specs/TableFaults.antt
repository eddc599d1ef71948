-- TableFaults: what is wrong with the properties of classes, as a table of each class tells them: defaults, or initial
-- values, that are unequal, and types at places that leave nothing of a syntax (X.722, section 8.4; docs/PROFILE.md,
-- section 18).
use Rattle.std.specs.Prelude.{◌≡◌, ◌++◌, ◌||◌, ℕ, List, [], ◌∷◌, Bool, true, false, Option, None, Some, option_to_list}
use Rattle.std.specs.BTreeMap.{get}
use Rattle.std.specs.BTreeSet.{BTreeSet}
use Rattle.std.specs.Ordering.{nat_cmp}
use Rattle.term_values.specs.Syntaxes.{TypeSyntax}
use Rattle.term_model.specs.WholeRecords.{IsNotEmpty}
use Rattle.asn1_names.specs.ModuleTerms.{ModuleTerm}
use Rattle.linked_parts.specs.declared.linked.Linked.{Linked}
use Rattle.linked_parts.specs.declared.linked.LinkedHead.{LinkedHead}
use Rattle.class_faults.specs.AttributeSyntaxes.{AttributeHas}
use Rattle.class_faults.specs.FaultSets.{Either, FaultSet, OneFault}
use Rattle.class_faults.specs.FirstClassFault.ClassFault.{DefaultUnequal, PermittedEmpty}
use Rattle.joined_statements.specs.JoinedStatements.{Attributes}
use Rattle.joined_statements.specs.declared.held.Held.{Held}
use Rattle.joined_statements.specs.declared.held.Held.TheVariants.{Unequal}
use Rattle.joined_statements.specs.declared.joined.Joined.{Joined}
use Rattle.linked_types.specs.TypeTables.{syntax_at}
use Rattle.linked_types.specs.declared.type_table.TypeTable.{TypeTable}

-- unequal values are held
abbrev pub is_unequal : Held → Bool
is_unequal Unequal = true
is_unequal _ = false

-- the defaults of an attribute are unequal, or its initial values
abbrev pub is_any_unequal : Joined → Bool
is_any_unequal joined = is_unequal joined.default || is_unequal joined.initial

-- those of some attribute
pub record SomeUnequal (properties : Attributes) : Type 0 where
  pub attribute : ℕ
  pub joined : Joined
  pub stands : get nat_cmp properties attribute ≡ Some joined
  pub unequal : is_any_unequal joined ≡ true

-- the syntaxes of the types at places; one without a syntax gives none
abbrev pub types_at : TypeTable → List ℕ → List TypeSyntax
types_at table [] = []
types_at table (place ∷ places) = option_to_list (syntax_at table (Some place)) ++ types_at table places

-- the types at places leave nothing of the syntax of an attribute
pub record NothingLeft (ms : List ModuleTerm) (linked : Linked) (table : TypeTable) (attribute : ℕ)
    (places : BTreeSet ℕ) : Type 0 where
  pub syntax : TypeSyntax
  pub has : AttributeHas ms linked attribute syntax
  pub empty : ¬ IsNotEmpty syntax (types_at table places.keys)

-- those of some attribute
pub record SomeEmpty (ms : List ModuleTerm) (linked : Linked) (table : TypeTable) (properties : Attributes)
    : Type 0 where
  pub attribute : ℕ
  pub joined : Joined
  pub stands : get nat_cmp properties attribute ≡ Some joined
  pub empty : NothingLeft ms linked table attribute joined.permitted

-- the faults of a class that has this head, by its table, where it has one
abbrev pub TableFaults : List ModuleTerm → Linked → TypeTable → Option Attributes → LinkedHead → FaultSet
TableFaults ms linked table None head kind document at = ⊥
TableFaults ms linked table (Some properties) head kind document at =
    Either (OneFault (SomeUnequal properties) DefaultUnequal head.document head.label.at)
    (OneFault (SomeEmpty ms linked table properties) PermittedEmpty head.document head.label.at) kind document at
