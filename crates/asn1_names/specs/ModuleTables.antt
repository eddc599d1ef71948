-- ModuleTables: when the code's tables of names are those of modules.
use Rattle.std.specs.Prelude.{◌≡◌, ℕ, ◌+◌, List, [], ◌∷◌, map, length, option_map}
use Rattle.std.specs.Borrow.{Bor}
use Rattle.indexmap.specs.IndexMap.{IndexMap}
use Rattle.asn1_syntax.specs.declared.module.Module.{Module}
use Rattle.asn1_names.specs.declared.name_tables.ModuleNames.{ModuleNames}
use Rattle.asn1_names.specs.declared.name_tables.NumberedAssignment.{NumberedAssignment}
use Rattle.asn1_names.specs.AssignmentNumbers.{Numbered, all_numbered, first_number, first_place}
use Rattle.asn1_names.specs.FirstNames.{found, sources}
use Rattle.asn1_names.specs.ModuleTerms.{ModuleTerm}
use Rattle.asn1_names.specs.NameMeaning.{imported_from}
use Rattle.asn1_names.specs.TermViews.{assignment_term, module_terms}

abbrev pub numbered_view : NumberedAssignment → Numbered
numbered_view x = record { in_module = x.module; place = x.place; assignment = assignment_term x.assignment.now }

-- the names of a module whose first assignment has the number n
pub record TellsNames (n : ℕ) (names : ModuleNames) (of : ModuleTerm) : Type 0 where
  pub assigned : (name : List ℕ) → found names.assigned name ≡ first_number name n of.assignments
  pub imported : (name : List ℕ) →
      sources names.imported name ≡ option_map (λ token. token.text) (imported_from name of.imports)

-- the names of modules, of which the first assignment has the number n
abbrev pub TellAllNames : ℕ → List ModuleNames → List ModuleTerm → Type 0
TellAllNames n [] [] = Unit {0}
TellAllNames n [] (x ∷ xs) = ⊥
TellAllNames n (names ∷ rest) [] = ⊥
TellAllNames n (names ∷ rest) (x ∷ xs) = TellsNames n names x × TellAllNames (n + length x.assignments) rest xs

-- the tables of modules
pub record AreTables {S : Type 0} (modules : List Module) (by_name : IndexMap (Bor (List ℕ)) ℕ S)
    (names : List ModuleNames) (assignments : List NumberedAssignment) : Type 0 where
  pub places : (name : List ℕ) → found by_name name ≡ first_place name 0 (module_terms modules)
  pub own : TellAllNames 0 names (module_terms modules)
  pub numbers : map numbered_view assignments ≡ all_numbered 0 (module_terms modules)
