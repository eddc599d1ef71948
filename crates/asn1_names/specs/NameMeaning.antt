-- NameMeaning: what the names of modules, types and values mean (X.680, sections 13.1 and 14; docs/PROFILE.md, section
-- 11). Of two modules, or assignments, of one name the first is meant; CMIP-1 stands before all others.
use Rattle.std.specs.Prelude.{ℕ, ◌+◌, List, [], ◌∷◌, Bool, Option, None, Some, slice_get, if◌then◌else◌}
use Rattle.std.specs.List.{list_any}
use Rattle.token_grammar.specs.declared.token.Token.{Token}
use Rattle.token_grammar.specs.Form.{Tree}
use Rattle.term_values.specs.Syntaxes.{TypeSyntax}
use Rattle.asn1_names.specs.ModuleTerms.{NumberTerm, TypeTerm, AssignedTerm, AssignmentTerm, ImportTerm, ModuleTerm}
use Rattle.asn1_names.specs.ModuleTerms.AssignedTerm.{AssignsType, AssignsValue}
use Rattle.asn1_names.specs.StandardModule.{is_same_name, standard_module_name, standard_type}

-- what the name of a module means: CMIP-1, the module at a place of the list, or none
pub data ModuleMeaning : Type 0 where
  Standard : ModuleMeaning
  ModuleAt : ℕ → ModuleMeaning
  NoModule : ModuleMeaning

-- what the name of a type or value means: the assignment at a place of the module at a place, with its type, and for a
-- value its number or name and what it says; a type of CMIP-1; or nothing
pub data Meaning : Type 0 where
  TypeAt : ℕ → ℕ → TypeTerm → Meaning
  ValueAt : ℕ → ℕ → TypeTerm → Option NumberTerm → Tree → Meaning
  StandardType : TypeSyntax → Meaning
  Nothing : Meaning

-- the token is this name
abbrev pub is_called : List ℕ → Token → Bool
is_called name token = is_same_name token.text name

-- the first of the modules that has the name; the first of these has the place m
unfoldable pub first_module : List ℕ → ℕ → List ModuleTerm → ModuleMeaning
first_module name m [] = NoModule
first_module name m (x ∷ xs) = if is_called name x.name then ModuleAt m else first_module name (m + 1) xs

unfoldable pub module_meaning : List ModuleTerm → List ℕ → ModuleMeaning
module_meaning ms name = if is_same_name name standard_module_name then Standard else first_module name 0 ms

-- what the assignment at the place i of the module at the place m gives a name
abbrev pub assigned_meaning : ℕ → ℕ → AssignedTerm → Meaning
assigned_meaning m i (AssignsType of) = TypeAt m i of
assigned_meaning m i (AssignsValue of number text) = ValueAt m i of number text

-- the first of the assignments that has the name; the first of these has the place i in the module at the place m
unfoldable pub first_assignment : List ℕ → ℕ → ℕ → List AssignmentTerm → Meaning
first_assignment name m i [] = Nothing
first_assignment name m i (x ∷ xs) =
    if is_called name x.name then assigned_meaning m i x.assigned else first_assignment name m (i + 1) xs

-- what a module has of this name: what it assigns, and nothing that it imports
unfoldable pub assigned_in : List ModuleTerm → ℕ → List ℕ → Meaning
assigned_in ms m name = elim (slice_get ms m) as (λ _. Meaning) [
  | None ↦ Nothing
  | Some x ↦ first_assignment name m 0 x.assignments
]

abbrev pub standard_meaning : Option TypeSyntax → Meaning
standard_meaning None = Nothing
standard_meaning (Some syntax) = StandardType syntax

-- what a module, told by what its name means, has of a name
unfoldable pub meaning_within : List ModuleTerm → ModuleMeaning → List ℕ → Meaning
meaning_within ms Standard name = standard_meaning (standard_type name)
meaning_within ms (ModuleAt m) name = assigned_in ms m name
meaning_within ms NoModule name = Nothing

-- the name of the module in the first import of a name
unfoldable pub imported_from : List ℕ → List ImportTerm → Option Token
imported_from name [] = None
imported_from name (x ∷ xs) = if list_any (is_called name) x.symbols then Some x.module_name else imported_from name xs

unfoldable pub import_of : List ModuleTerm → ℕ → List ℕ → Option Token
import_of ms m name = elim (slice_get ms m) as (λ _. Option Token) [
  | None ↦ None
  | Some x ↦ imported_from name x.imports
]

unfoldable pub imported_meaning : List ModuleTerm → List ℕ → Option Token → Meaning
imported_meaning ms name None = Nothing
imported_meaning ms name (Some module_name) = meaning_within ms (module_meaning ms module_name.text) name

-- what the module itself assigns, else what it imports
abbrev pub own_or_imported : Meaning → Meaning → Meaning
own_or_imported (TypeAt m i of) imported = TypeAt m i of
own_or_imported (ValueAt m i of number text) imported = ValueAt m i of number text
own_or_imported (StandardType syntax) imported = StandardType syntax
own_or_imported Nothing imported = imported

-- what a name alone means in the module at the place m
unfoldable pub name_meaning : List ModuleTerm → ℕ → List ℕ → Meaning
name_meaning ms m name = own_or_imported (assigned_in ms m name) (imported_meaning ms name (import_of ms m name))

-- what `Module.Name`, or a name alone, means in the module at the place m
unfoldable pub reference_meaning : List ModuleTerm → ℕ → Option Token → Token → Meaning
reference_meaning ms m None name = name_meaning ms m name.text
reference_meaning ms m (Some module_name) name =
    meaning_within ms (module_meaning ms module_name.text) name.text

-- the type of the assignment at the place i of the module at the place m, where it assigns one
abbrev pub assigned_type : Option AssignmentTerm → Option TypeTerm
assigned_type None = None
assigned_type (Some x) = elim x.assigned as (λ _. Option TypeTerm) [
  | AssignsType of ↦ Some of
  | AssignsValue of number text ↦ None
]

unfoldable pub type_at : List ModuleTerm → ℕ → ℕ → Option TypeTerm
type_at ms m i = elim (slice_get ms m) as (λ _. Option TypeTerm) [
  | None ↦ None
  | Some x ↦ assigned_type (slice_get x.assignments i)
]
