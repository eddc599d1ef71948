-- AllFaults: what is wrong in the imports of modules, and in what they assign (docs/PROFILE.md, section 11). Tags are
-- told of types of at most 10,000 nodes; in one that has more this stands at its first word.
use Rattle.std.specs.Prelude.{◌≡◌, ◌≢◌, ◌⊎◌, ◌<◌, ℕ, List, Some, length}
use Rattle.token_grammar.specs.declared.token.Token.{Token}
use Rattle.asn1_names.specs.declared.refusal.UnsupportedKind.TheVariants.{TooManyNodes}
use Rattle.asn1_names.specs.AssignmentNumbers.{Numbered, assignment_count, numbered_at}
use Rattle.asn1_names.specs.Containment.{IsCyclic}
use Rattle.asn1_names.specs.FirstModuleFault.{FaultKind}
use Rattle.asn1_names.specs.FirstModuleFault.FaultKind.{TypeUnknown, ModuleUnknown, TypeCyclic, NotSupported}
use Rattle.asn1_names.specs.ModuleTerms.{ImportTerm, ModuleTerm}
use Rattle.asn1_names.specs.NameMeaning.{module_meaning, meaning_within}
use Rattle.asn1_names.specs.NameMeaning.Meaning.{Nothing}
use Rattle.asn1_names.specs.NameMeaning.ModuleMeaning.{NoModule}
use Rattle.asn1_names.specs.Occurrences.{IsIn, first_word, type_assigned}
use Rattle.asn1_resolve.specs.FaultSets.{AnyOf, Either, OneFault}
use Rattle.asn1_resolve.specs.TypeFaults.{IsFew, IsLarge, TypeFaults}

-- of a symbol that is imported from a module which is there
abbrev pub SymbolFaults : List ModuleTerm → Token → Token → ℕ → FaultKind → Type 0
SymbolFaults ms module_name symbol = OneFault ((module_meaning ms module_name.text ≢ NoModule)
    × (meaning_within ms (module_meaning ms module_name.text) symbol.text ≡ Nothing)) symbol.at TypeUnknown

-- of an import
abbrev pub ImportFaults : List ModuleTerm → ImportTerm → ℕ → FaultKind → Type 0
ImportFaults ms text =
    Either (OneFault (module_meaning ms text.module_name.text ≡ NoModule) text.module_name.at ModuleUnknown)
    (AnyOf (SymbolFaults ms text.module_name) text.symbols)

-- of an assignment: of the nodes of its type, of a type that contains itself, and of what stands in the type
abbrev pub AssignmentFaults : List ModuleTerm → Numbered → ℕ → FaultKind → Type 0
AssignmentFaults ms x = Either (Either (OneFault (IsLarge ms x.in_module (type_assigned x.assignment.assigned))
    (first_word (type_assigned x.assignment.assigned)).at (NotSupported TooManyNodes))
    (OneFault (IsCyclic ms x.in_module x.place) x.assignment.name.at TypeCyclic))
    (TypeFaults (IsFew ms x.in_module (type_assigned x.assignment.assigned)) ms x.in_module
    (type_assigned x.assignment.assigned))

-- of the imports of the module at a place
abbrev pub ImportFaultsAt : List ModuleTerm → ℕ → FaultKind → ℕ → ℕ → Type 0
ImportFaultsAt ms m kind document token =
    (x : ModuleTerm) × IsIn ms document m x × AnyOf (ImportFaults ms) x.imports token kind

-- of the assignment with a number
abbrev pub FaultsAt : List ModuleTerm → ℕ → FaultKind → ℕ → ℕ → Type 0
FaultsAt ms number kind document token = (x : Numbered) × (numbered_at ms number ≡ Some x) × (home : ModuleTerm)
    × IsIn ms document x.in_module home × AssignmentFaults ms x token kind

-- of each place below one
abbrev pub Below : (ℕ → FaultKind → ℕ → ℕ → Type 0) → ℕ → FaultKind → ℕ → ℕ → Type 0
Below Faults end kind document token = (i : ℕ) × (i < end) × Faults i kind document token

-- of all imports and all assignments
abbrev pub AllFaults : List ModuleTerm → FaultKind → ℕ → ℕ → Type 0
AllFaults ms kind document token = Below (ImportFaultsAt ms) (length ms) kind document token
    ⊎ Below (FaultsAt ms) (assignment_count ms) kind document token
