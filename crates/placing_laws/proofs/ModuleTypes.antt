-- ModuleTypes: in the modules of documents that were read each type begins no later than the types in it.
use Rattle.std.proofs.Common.{◌≡◌, ℕ, zero, suc, ◌+◌, ◌≤◌, true, List, [], ◌∷◌, Some, refl, sym, subst}
use Rattle.std.proofs.Common.{map, slice_get}
use Rattle.std.specs.Prelude.{All, flat_map}
use Rattle.std.specs.Global.{Vec}
use Rattle.std.proofs.lemmas.List.{map-append}
use Rattle.std.proofs.lemmas.List.Elements.{All-append, All-cons, All-contains, All-head, All-nil, All-tail}
use Rattle.token_grammar.specs.declared.token.Token.{Token}
use Rattle.token_grammar.specs.Form.{Tree, After, Empty}
use Rattle.token_grammar.specs.Parts.{list_tree}
use Rattle.asn1_values_syntax.specs.Asn1.{asn1}
use Rattle.asn1_syntax.specs.declared.module.Assigned.{Assigned}
use Rattle.asn1_syntax.specs.declared.module.Assigned.TheVariants.{OfType, OfValue}
use Rattle.asn1_syntax.specs.declared.module.Assignment.{Assignment}
use Rattle.asn1_syntax.specs.declared.module.Module.{Module}
use Rattle.asn1_syntax.specs.ModuleTrees.{assigned_tree, assignment_tree, module_tree}
use Rattle.asn1_names.specs.Containment.{Within}
use Rattle.asn1_names.specs.ModuleTerms.{AssignmentTerm, ModuleTerm, TypeTerm}
use Rattle.asn1_names.specs.Occurrences.{first_word, type_assigned}
use Rattle.asn1_names.specs.TermViews.{assigned_term, assignment_term, module_term, module_terms}
use Rattle.document_units.specs.DocumentForms.{SpellsUnits}
use Rattle.document_units.specs.DocumentForms.SpellsUnits.{at_end, semicolon, unit}
use Rattle.document_units.specs.UnitForms.{SpellsUnit, UnitTerm}
use Rattle.document_units.specs.UnitForms.SpellsUnit.{of_class, of_member, of_module, of_section}
use Rattle.document_units.specs.UnitForms.UnitTerm.{ClassUnit, MemberUnit, ModuleUnit, SectionUnit}
use Rattle.document_units.specs.UnitOutcome.{unit_term}
use Rattle.document_units.specs.declared.unit.DocumentUnit.{DocumentUnit}
use Rattle.document_units.specs.declared.unit.DocumentUnit.TheVariants as units
use Rattle.document_parts.specs.declared.documents.Doc.{Doc}
use Rattle.document_parts.specs.DocumentParts.{in_documents, modules_in}
use Rattle.document_parts.specs.ReadDocuments.{AreLexed, AreRead}
use Rattle.document_parts.specs.ReadDocuments.AreLexed.{no_document as lexed_end, document as lexed_document}
use Rattle.document_parts.specs.ReadDocuments.AreRead.{no_document as read_end, document as read_document}
use Rattle.placing_laws.specs.PlacingLaws.{TypesBeginInOrder}
use Rattle.placing_laws.proofs.SpellingRanges.{is_ordered, named_ranged}
use Rattle.placing_laws.proofs.TokenPlaces.{AreRising, tokens_rise}
use Rattle.placing_laws.proofs.TreeRanges.{Ranged, reach}
use Rattle.placing_laws.proofs.TypeOrder.{type_leads}

asn1_ordered : (n : ℕ) → is_ordered (asn1 n) ≡ true
asn1_ordered zero = refl
asn1_ordered (suc zero) = refl
asn1_ordered (suc (suc zero)) = refl
asn1_ordered (suc (suc (suc n))) = refl

-- ---- a module

-- the type of an assignment begins no later than those in it
IsLed : AssignmentTerm → Type 0
IsLed x = (inner : TypeTerm) → Within inner (type_assigned x.assigned) →
    (first_word (type_assigned x.assigned)).at ≤ (first_word inner).at

assigned_led : (name : Token) (x : Assigned) (low high : ℕ) → Ranged low (assigned_tree x) high →
    IsLed (record { name = name; assigned = assigned_term x })
unfolding IsLed
assigned_led name (OfType of) low high within = (type_leads of within.0 high within.2).inside
assigned_led name (OfValue of value) low high within = (type_leads of low within.0 within.1).inside

assignments_led : (xs : List Assignment) (before : Tree) (low high : ℕ) →
    Ranged low (list_tree assignment_tree before xs) high →
    (between : ℕ) × Ranged low before between × All IsLed (map assignment_term xs)
assignments_led [] before low high within = (high, within, All-nil IsLed)
assignments_led (x ∷ xs) before low high within =
    let rest = assignments_led xs (After before (assignment_tree x)) low high within in
    let one = rest.1.2 in (
      rest.1.0,
      rest.1.1,
      All-cons IsLed (assignment_term x) (map assignment_term xs)
          (assigned_led x.name x.assigned one.0 rest.0 one.2) rest.2,
    )

AllLed : ModuleTerm → Type 0
AllLed x = All IsLed x.assignments

module_led : (x : Module) (low high : ℕ) → Ranged low (module_tree x) high → AllLed (module_term x)
unfolding AllLed
module_led x low high within =
    (assignments_led x.assignments.items Empty within.2.2.0 within.2.2.2.0 within.2.2.2.1).2

-- ---- the units of a document

-- the tokens of a module are in order
abbrev IsRanged : UnitTerm → Type 0
IsRanged (ClassUnit a) = Unit {0}
IsRanged (MemberUnit a) = Unit {0}
IsRanged (ModuleUnit a) = (low : ℕ) × (high : ℕ) × Ranged low a high
IsRanged (SectionUnit a) = Unit {0}

abbrev AreRanged : List UnitTerm → Type 0
AreRanged [] = Unit {0}
AreRanged (u ∷ us) = IsRanged u × AreRanged us

unit_ranged : {tokens : List Token} {i k : ℕ} {u : UnitTerm} → AreRising 0 tokens → SpellsUnit tokens i k u → IsRanged u
unit_ranged rising (of_class one) = tt
unit_ranged rising (of_member one) = tt
unit_ranged {tokens} {i} {k} rising (of_module other one) =
    (reach 0 tokens i, reach 0 tokens k, named_ranged 0 tokens asn1 rising asn1_ordered one)
unit_ranged rising (of_section one) = tt

units_ranged : {tokens : List Token} {i : ℕ} {us : List UnitTerm} → AreRising 0 tokens → SpellsUnits tokens i us →
    AreRanged us
units_ranged rising (at_end past) = tt
units_ranged rising (semicolon here rest) = units_ranged rising rest
units_ranged rising (unit {u = u} one rest) = (unit_ranged {u = u} rising one, units_ranged rising rest)

modules_led : (n : ℕ) (us : List DocumentUnit) → AreRanged (map unit_term us) →
    All AllLed (map module_term (flat_map (modules_in n) us))
unfolding AllLed
modules_led n [] ranged = All-nil AllLed
modules_led n (units.Class x ∷ us) ranged = modules_led n us ranged.1
modules_led n (units.Member x ∷ us) ranged = modules_led n us ranged.1
modules_led n (units.Module x ∷ us) ranged =
    All-cons AllLed _ _ (module_led x ranged.0.0 ranged.0.1 ranged.0.2) (modules_led n us ranged.1)
modules_led n (units.Section x ∷ us) ranged = modules_led n us ranged.1

-- ---- all documents

all_led : (n : ℕ) {docs : List Doc} {lists : List (Vec Token)} {all : List (List DocumentUnit)} → AreLexed docs lists →
    AreRead lists all → All AllLed (map module_term (in_documents modules_in n all))
all_led n lexed_end read_end = All-nil AllLed
all_led n (lexed_document lexed lists) (read_document {us = us} {documents = all} read others) =
    subst (All AllLed) (sym (map-append module_term (flat_map (modules_in n) us) (in_documents modules_in (n + 1) all)))
    (All-append AllLed _ _ (modules_led n us (units_ranged (tokens_rise lexed) read.spelt))
    (all_led (n + 1) lists others))

pub at_place : {X : Type 0} (P : X → Type 0) (xs : List X) (m : ℕ) (x : X) → All P xs → slice_get xs m ≡ Some x → P x
at_place P [] m x all get = absurd (cc)
at_place P (y ∷ xs) zero x all get = let same : y ≡ x = cc in subst P same (All-head P y xs all)
at_place P (y ∷ xs) (suc m) x all get = at_place P xs m x (All-tail P y xs all) get

pub types_in_order : TypesBeginInOrder
unfolding AllLed IsLed
types_in_order docs lists documents parts lexed read gathered document m of inner assigns within =
    let all = subst (λ xs. All AllLed (map module_term xs)) (sym gathered.modules) (all_led 1 lexed read) in
    let home = at_place AllLed (module_terms parts.modules.items) m assigns.in_module all assigns.is_in.module_at in
    let led = All-contains IsLed assigns.in_module.assignments assigns.assignment home assigns.stands in
    subst (λ x. (first_word x).at ≤ (first_word inner).at) assigns.is_of
    (led inner (subst (λ x. Within inner x) (sym assigns.is_of) within))
