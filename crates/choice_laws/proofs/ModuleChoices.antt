-- ModuleChoices: in modules of documents that were read each CHOICE in what is assigned has an alternative.
use Rattle.std.proofs.Common.{ℕ, ◌+◌, List, [], ◌∷◌, sym, subst, map}
use Rattle.std.specs.Prelude.{All, flat_map}
use Rattle.std.specs.Global.{Vec}
use Rattle.std.proofs.lemmas.List.{map-append}
use Rattle.std.proofs.lemmas.List.Elements.{All-append, All-cons, All-nil}
use Rattle.token_grammar.specs.declared.token.Token.{Token}
use Rattle.token_grammar.specs.Form.{Tree, After, Empty, Named, Or}
use Rattle.token_grammar.specs.Parts.{list_tree}
use Rattle.asn1_values_syntax.specs.Asn1.{asn1, assignment, type_assignment, value_assignment}
use Rattle.asn1_values_syntax.specs.ValueForms.{modules}
use Rattle.asn1_syntax.specs.declared.module.Assigned.{Assigned}
use Rattle.asn1_syntax.specs.declared.module.Assigned.TheVariants.{OfType, OfValue}
use Rattle.asn1_syntax.specs.declared.module.Assignment.{Assignment}
use Rattle.asn1_syntax.specs.declared.module.Module.{Module}
use Rattle.asn1_syntax.specs.ModuleTrees.{assigned_tree, assignment_tree, module_tree}
use Rattle.asn1_names.specs.ModuleTerms.{AssignmentTerm, ModuleTerm}
use Rattle.asn1_names.specs.Occurrences.{type_assigned}
use Rattle.asn1_names.specs.TermViews.{assigned_term, assignment_term, module_term}
use Rattle.document_units.specs.DocumentForms.{SpellsUnits}
use Rattle.document_units.specs.DocumentForms.SpellsUnits.{at_end, semicolon, unit}
use Rattle.document_units.specs.UnitForms.{SpellsUnit, UnitTerm}
use Rattle.document_units.specs.UnitForms.SpellsUnit.{of_class, of_member, of_module, of_section}
use Rattle.document_units.specs.UnitForms.UnitTerm.{ClassUnit, MemberUnit, ModuleUnit, SectionUnit}
use Rattle.document_units.specs.UnitOutcome.{unit_term}
use Rattle.document_units.specs.declared.unit.DocumentUnit.{DocumentUnit}
use Rattle.document_units.specs.declared.unit.DocumentUnit.TheVariants as units
use Rattle.document_parts.specs.DocumentParts.{in_documents, modules_in}
use Rattle.document_parts.specs.ReadDocuments.{AreRead}
use Rattle.document_parts.specs.ReadDocuments.AreRead.{no_document, document}
use Rattle.arc_laws.proofs.Saying.{ListSaid, Spelt, either_said, many_said, named_said, pair_said}
use Rattle.choice_laws.proofs.TermChoices.{IsFilled}
use Rattle.choice_laws.proofs.TextChoices.{type_filled}

-- each CHOICE in what is assigned has an alternative
pub record IsFilledIn (x : AssignmentTerm) : Type 0 where
  pub filled : IsFilled (type_assigned x.assigned)

-- the same of all that a module assigns
pub record IsFilledModule (x : ModuleTerm) : Type 0 where
  pub each : All IsFilledIn x.assignments

-- ---- a module

module _ (tokens : List Token) where
  assigned_filled : (name : Token) (x : Assigned) →
      Spelt tokens asn1 (Or type_assignment value_assignment) (assigned_tree x) →
      IsFilledIn (record { name = name; assigned = assigned_term x })
  assigned_filled name (OfType of) said = record {
    filled = type_filled tokens of (pair_said tokens asn1 (either_said tokens asn1 said)).1;
  }
  assigned_filled name (OfValue of value) said = record {
    filled = type_filled tokens of (pair_said tokens asn1 (either_said tokens asn1 said)).0;
  }

  assignments_filled : (xs : List Assignment) (before : Tree) →
      ListSaid tokens asn1 assignment (list_tree assignment_tree before xs) →
      ListSaid tokens asn1 assignment before × All IsFilledIn (map assignment_term xs)
  assignments_filled [] before said = (said, All-nil IsFilledIn)
  assignments_filled (x ∷ xs) before said =
      let rest = assignments_filled xs (After before (assignment_tree x)) said in (
        rest.0.0,
        All-cons IsFilledIn (assignment_term x) (map assignment_term xs)
            (assigned_filled x.name x.assigned (pair_said tokens asn1 rest.0.1).1) rest.1,
      )

  module_filled : (n : ℕ) (x : Module) → Spelt tokens asn1 (Named modules) (module_tree x) →
      IsFilledModule (module_term (record x { document = n }))
  module_filled n x said =
      let behind = pair_said tokens asn1 (pair_said tokens asn1 (pair_said tokens asn1
      (pair_said tokens asn1 (named_said tokens asn1 said)).1).1).1 in
      record { each = (assignments_filled x.assignments.items Empty (many_said tokens asn1 behind.0)).1 }

  -- ---- the units of a document

  -- the tokens spell a unit that may be a module
  abbrev IsModuleSpelt : UnitTerm → Type 0
  IsModuleSpelt (ClassUnit a) = Unit {0}
  IsModuleSpelt (MemberUnit a) = Unit {0}
  IsModuleSpelt (ModuleUnit a) = Spelt tokens asn1 (Named modules) a
  IsModuleSpelt (SectionUnit a) = Unit {0}

  abbrev AreModulesSpelt : List UnitTerm → Type 0
  AreModulesSpelt [] = Unit {0}
  AreModulesSpelt (u ∷ us) = IsModuleSpelt u × AreModulesSpelt us

  unit_spelt : {i k : ℕ} {u : UnitTerm} → SpellsUnit tokens i k u → IsModuleSpelt u
  unit_spelt (of_class one) = tt
  unit_spelt (of_member one) = tt
  unit_spelt {i} {k} (of_module other one) = record { start = i; end = k; spelt = one }
  unit_spelt (of_section one) = tt

  units_spelt : {i : ℕ} {us : List UnitTerm} → SpellsUnits tokens i us → AreModulesSpelt us
  units_spelt (at_end past) = tt
  units_spelt (semicolon here rest) = units_spelt rest
  units_spelt (unit {u = u} one rest) = (unit_spelt {u = u} one, units_spelt rest)

  modules_filled : (n : ℕ) (us : List DocumentUnit) → AreModulesSpelt (map unit_term us) →
      All IsFilledModule (map module_term (flat_map (modules_in n) us))
  modules_filled n [] spelt = All-nil IsFilledModule
  modules_filled n (units.Class x ∷ us) spelt = modules_filled n us spelt.1
  modules_filled n (units.Member x ∷ us) spelt = modules_filled n us spelt.1
  modules_filled n (units.Module x ∷ us) spelt =
      All-cons IsFilledModule _ _ (module_filled n x spelt.0) (modules_filled n us spelt.1)
  modules_filled n (units.Section x ∷ us) spelt = modules_filled n us spelt.1

-- ---- all documents

pub all_filled : (n : ℕ) {lists : List (Vec Token)} {all : List (List DocumentUnit)} → AreRead lists all →
    All IsFilledModule (map module_term (in_documents modules_in n all))
all_filled n no_document = All-nil IsFilledModule
all_filled n (document {tokens = tokens} {us = us} {documents = all} read others) =
    subst (All IsFilledModule)
    (sym (map-append module_term (flat_map (modules_in n) us) (in_documents modules_in (n + 1) all)))
    (All-append IsFilledModule _ _ (modules_filled tokens.items n us (units_spelt tokens.items read.spelt))
    (all_filled (n + 1) others))
