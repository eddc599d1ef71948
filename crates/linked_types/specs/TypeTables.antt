-- TypeTables: the types that were named so far, each told by its place: its syntax with the values of its DEFAULTs, and
-- its name (X.680, sections 13.1, 16 and 25; docs/PROFILE.md, sections 11 and 12).
use Rattle.std.specs.Prelude.{◌≡◌, ◌++◌, ◌∷◌, [], ℕ, List, Option, None, Some, option_and_then, slice_get, slice_set}
use Rattle.term_values.specs.Syntaxes.{TypeSyntax}
use Rattle.asn1_names.specs.CodeMeanings.{Means}
use Rattle.asn1_names.specs.ModuleTerms.{AssignmentTerm, ModuleTerm}
use Rattle.asn1_names.specs.StandardModule.{standard_module_name}
use Rattle.asn1_names.specs.declared.name_tables.Meaning.{Meaning}
use Rattle.asn1_names.specs.declared.name_tables.Meaning.TheVariants.{TypeAt}
use Rattle.linked_parts.specs.declared.linked.Linked.{Linked}
use Rattle.linked_parts.specs.declared.linked.NamedMeaning.{NamedMeaning}
use Rattle.linked_parts.specs.declared.linked.NamedMeaning.TheVariants.{Assigned, Standard}
use Rattle.filled_syntaxes.specs.BadDefaults.{TellsFilled}
use Rattle.filled_syntaxes.specs.LinkedMeanings.{linked_arcs, linked_meaning}
use Rattle.filled_syntaxes.specs.NotedTexts.{TextSet}
use Rattle.filled_syntaxes.specs.declared.bad_texts.TextPlace.{TextPlace}
use Rattle.linked_types.specs.NotedDefaults.{NotesSome}
use Rattle.linked_types.specs.declared.type_table.NamedType.{NamedType}
use Rattle.linked_types.specs.declared.type_table.StandardPlace.{StandardPlace}
use Rattle.linked_types.specs.declared.type_table.TypeTable.{TypeTable}

-- the name of a type behind that of its module and a point
abbrev pub behind_module : List ℕ → List ℕ → List ℕ
behind_module module_name name = module_name ++ 46 ∷ name

abbrev pub called_in : List ℕ → Option AssignmentTerm → List ℕ
called_in module_name None = []
called_in module_name (Some x) = behind_module module_name x.name.text

abbrev pub called_at : Option ModuleTerm → ℕ → List ℕ
called_at None i = []
called_at (Some x) i = called_in x.name.text (slice_get x.assignments i)

-- the name of what is meant: that of the assignment in its module, or that of the type of CMIP-1
abbrev pub type_called : List ModuleTerm → NamedMeaning → List ℕ
type_called ms (Assigned m i) = called_at (slice_get ms m) i
type_called ms (Standard name) = behind_module standard_module_name name.text

-- the type at a place
abbrev pub type_at : TypeTable → ℕ → Option NamedType
type_at table place = slice_get table.items.items place

-- the syntax of the type at a place that may be missing
abbrev pub syntax_of : Option NamedType → Option TypeSyntax
syntax_of x = option_and_then (λ (y : NamedType). y.syntax) x

abbrev pub syntax_at : TypeTable → Option ℕ → Option TypeSyntax
syntax_at table None = None
syntax_at table (Some place) = syntax_of (type_at table place)

-- what stands at a place stays there
pub record Grows (old new : TypeTable) : Type 0 where
  pub stays : (place : ℕ) (x : NamedType) → type_at old place ≡ Some x → type_at new place ≡ Some x

-- a type is what a meaning says: its syntax, or that it has none, and its name
pub record IsNamedType (ms : List ModuleTerm) (linked : Linked) (meaning : NamedMeaning) (x : NamedType) : Type 0 where
  pub filled : TellsFilled ms (linked_arcs linked) (linked_meaning ms meaning) x.syntax
  pub called : x.name ≡ type_called ms meaning

-- the type that is meant stands at a place
pub record IsTypeAt (ms : List ModuleTerm) (linked : Linked) (meaning : NamedMeaning) (table : TypeTable) (place : ℕ)
    : Type 0 where
  pub item : NamedType
  pub stands : type_at table place ≡ Some item
  pub told : IsNamedType ms linked meaning item

-- this place is kept for a type: by the number of its assignment, or by its name in CMIP-1
abbrev pub KeepsAssigned : List (Option ℕ) → Meaning → ℕ → Type 0
KeepsAssigned assigned (TypeAt number) place = slice_get assigned number ≡ Some (Some place)
KeepsAssigned assigned _ place = ⊥

pub record KeepsStandard (standard : List StandardPlace) (text : List ℕ) (place : ℕ) : Type 0 where
  pub k : ℕ
  pub entry : StandardPlace
  pub stands : slice_get standard k ≡ Some entry
  pub called : entry.name ≡ text
  pub is : entry.place ≡ place

abbrev pub IsKept : TypeTable → NamedMeaning → Meaning → ℕ → Type 0
IsKept table (Assigned m i) meaning place = KeepsAssigned table.assigned.items meaning place
IsKept table (Standard name) meaning place = KeepsStandard table.standard.items name.text place

-- a further place that is kept
abbrev pub with_assigned : List (Option ℕ) → Meaning → ℕ → List (Option ℕ)
with_assigned assigned (TypeAt number) place = slice_set assigned number (Some place)
with_assigned assigned _ place = assigned

abbrev pub KeepsPlace : TypeTable → TypeTable → NamedMeaning → Meaning → ℕ → Type 0
KeepsPlace old new (Assigned m i) meaning place =
    (new.assigned.items ≡ with_assigned old.assigned.items meaning place) × (new.standard.items ≡ old.standard.items)
KeepsPlace old new (Standard name) meaning place = (new.assigned.items ≡ old.assigned.items)
    × (new.standard.items ≡ old.standard.items ++ record { name = name.text; place = place } ∷ [])

-- at each place that is kept stands the type for which it is kept
pub record IsTypeTable (ms : List ModuleTerm) (linked : Linked) (table : TypeTable) : Type 0 where
  pub kept : (named : NamedMeaning) (meaning : Meaning) (place : ℕ) → IsKept table named meaning place →
      Means ms meaning (linked_meaning ms named) → IsTypeAt ms linked named table place

-- types were named, and no text was noted but some of these, which denote no value
pub record NamesTypes (ms : List ModuleTerm) (linked : Linked) (Texts : TextSet) (old new : TypeTable)
    (before after : Option TextPlace) : Type 0 where
  pub table : IsTypeTable ms linked new
  pub grows : Grows old new
  pub noted : NotesSome Texts before after
