-- DocumentIdentifiers: in documents that were read the arcs that templates and values state in digits are numbers of 64
-- bits.
use Rattle.std.proofs.Common.{◌≡◌, ℕ, ◌+◌, List, [], ◌∷◌, ◌++◌, Option, None, Some, refl, sym, ◌∙◌, ap, subst, map}
use Rattle.std.proofs.Common.{slice_get}
use Rattle.std.specs.Prelude.{All, flat_map}
use Rattle.std.specs.Global.{Vec}
use Rattle.std.proofs.lemmas.Grind.{flat_map-append}
use Rattle.std.proofs.lemmas.List.{map-append}
use Rattle.std.proofs.lemmas.List.Elements.{All-append, All-cons, All-contains, All-head, All-nil, All-tail}
use Rattle.token_grammar.specs.Form.{Named}
use Rattle.token_grammar.specs.Kinds.{number_kind}
use Rattle.token_grammar.specs.declared.token.Token.{Token}
use Rattle.asn1_values_syntax.specs.Asn1.{asn1}
use Rattle.asn1_values_syntax.specs.ValueForms.{modules}
use Rattle.gdmo_classes.specs.ClassForms.{class_level}
use Rattle.gdmo_classes.specs.declared.template.ClassTemplate.{ClassTemplate}
use Rattle.gdmo_members.specs.Templates.{member, templates as template_forms}
use Rattle.gdmo_members.specs.declared.member.MemberTemplate.{MemberTemplate}
use Rattle.gdmo_first_names.specs.ReadModules.{HasWholeArcs, IsWhole}
use Rattle.gdmo_names.specs.declared.parsed.Parsed.{Parsed}
use Rattle.gdmo_names.specs.DocumentTemplates.{in_template, placed_templates, templates}
use Rattle.gdmo_names.specs.FirstNames.{Registers}
use Rattle.gdmo_names.specs.PartTerms.{ModulePart, Placed, arcs_at, arcs_in}
use Rattle.gdmo_names.specs.PartViews.{class_placed, member_placed, module_part, part_terms}
use Rattle.gdmo_names.specs.TemplateTerms.{IdentifierTerm, TemplateTerm}
use Rattle.document_units.specs.DocumentForms.{SpellsUnits}
use Rattle.document_units.specs.DocumentForms.SpellsUnits.{at_end, semicolon, unit}
use Rattle.document_units.specs.UnitForms.{SpellsUnit, UnitTerm}
use Rattle.document_units.specs.UnitForms.SpellsUnit.{of_class, of_member, of_module, of_section}
use Rattle.document_units.specs.UnitForms.UnitTerm.{ClassUnit, MemberUnit, ModuleUnit, SectionUnit}
use Rattle.document_units.specs.UnitOutcome.{unit_term}
use Rattle.document_units.specs.declared.unit.DocumentUnit.{DocumentUnit}
use Rattle.document_units.specs.declared.unit.DocumentUnit.TheVariants as units
use Rattle.document_parts.specs.declared.documents.Doc.{Doc}
use Rattle.document_parts.specs.DocumentParts.{classes_in, in_documents, members_in, modules_in}
use Rattle.document_parts.specs.DocumentParts.{numbered_class, numbered_member}
use Rattle.document_parts.specs.ReadDocuments.{AreLexed, AreRead}
use Rattle.document_parts.specs.ReadDocuments.AreLexed.{no_document as lexed_end, document as lexed_document}
use Rattle.document_parts.specs.ReadDocuments.AreRead.{no_document as read_end, document as read_document}
use Rattle.placing_laws.proofs.DocumentLabels.{class_list, class_numbered, in_number, member_list, member_numbered}
use Rattle.placing_laws.proofs.ModuleTypes.{at_place}
use Rattle.arc_laws.specs.ArcLaws.{ArcsAreWhole}
use Rattle.arc_laws.proofs.ClassIdentifiers.{class_level_whole}
use Rattle.arc_laws.proofs.Identifiers.{WholeOption}
use Rattle.arc_laws.proofs.MemberIdentifiers.{member_whole}
use Rattle.arc_laws.proofs.NumberTokens.{numbers_whole}
use Rattle.arc_laws.proofs.Saying.{Spelt}
use Rattle.arc_laws.proofs.TemplateIdentifiers.{AreWholeTemplates, IsWholeTemplate, whole_template}
use Rattle.arc_laws.proofs.ValueArcs.{HasWholeValues, module_whole, values_of}

-- ---- the units of a document

-- the tokens spell a unit that may have identifiers
abbrev IsUnitSpelt : List Token → UnitTerm → Type 0
IsUnitSpelt tokens (ClassUnit a) = Spelt tokens template_forms class_level a
IsUnitSpelt tokens (MemberUnit a) = Spelt tokens template_forms member a
IsUnitSpelt tokens (ModuleUnit a) = Spelt tokens asn1 (Named modules) a
IsUnitSpelt tokens (SectionUnit a) = Unit {0}

abbrev AreUnitsSpelt : List Token → List UnitTerm → Type 0
AreUnitsSpelt tokens [] = Unit {0}
AreUnitsSpelt tokens (u ∷ us) = IsUnitSpelt tokens u × AreUnitsSpelt tokens us

unit_spelt : {tokens : List Token} {i k : ℕ} {u : UnitTerm} → SpellsUnit tokens i k u → IsUnitSpelt tokens u
unit_spelt (of_class one) = record { start = _; end = _; spelt = one }
unit_spelt (of_member one) = record { start = _; end = _; spelt = one }
unit_spelt (of_module other one) = record { start = _; end = _; spelt = one }
unit_spelt (of_section one) = tt

units_spelt : {tokens : List Token} {i : ℕ} {us : List UnitTerm} → SpellsUnits tokens i us → AreUnitsSpelt tokens us
units_spelt (at_end past) = tt
units_spelt (semicolon here rest) = units_spelt rest
units_spelt (unit {u = u} one rest) = (unit_spelt {u = u} one, units_spelt rest)

-- ---- the parts of a document

IsWholePlaced : Placed → Type 0
IsWholePlaced x = IsWholeTemplate x.template

all_placed : (n : ℕ) (xs : List TemplateTerm) → All IsWholeTemplate xs → All IsWholePlaced (map (in_number n) xs)
unfolding IsWholePlaced
all_placed n [] all = All-nil IsWholePlaced
all_placed n (x ∷ xs) all = All-cons IsWholePlaced (in_number n x) (map (in_number n) xs)
    (All-head IsWholeTemplate x xs all) (all_placed n xs (All-tail IsWholeTemplate x xs all))

record ArePartsWhole (classes : List ClassTemplate) (members : List MemberTemplate) (parts : List ModulePart) :
    Type 0 where
  of_classes : All IsWholePlaced (class_list classes)
  of_members : All IsWholePlaced (member_list members)
  of_modules : All HasWholeValues parts

no_parts : ArePartsWhole [] [] []
no_parts = record {
  of_classes = All-nil IsWholePlaced;
  of_members = All-nil IsWholePlaced;
  of_modules = All-nil HasWholeValues;
}

one_class : (n : ℕ) (x : ClassTemplate) → AreWholeTemplates (in_template (class_placed x).template) →
    All IsWholePlaced (placed_templates (class_placed (numbered_class n x)))
one_class n x whole = subst (λ y. All IsWholePlaced (placed_templates y)) (sym (class_numbered n x))
    (all_placed n (in_template (class_placed x).template) whole.all)

one_member : (n : ℕ) (x : MemberTemplate) → AreWholeTemplates (in_template (member_placed x).template) →
    All IsWholePlaced (placed_templates (member_placed (numbered_member n x)))
one_member n x whole = subst (λ y. All IsWholePlaced (placed_templates y)) (sym (member_numbered n x))
    (all_placed n (in_template (member_placed x).template) whole.all)

units_whole : (tokens : List Token) (whole : All (λ x. x.kind ≡ number_kind → IsWhole x) tokens) (n : ℕ)
    (us : List DocumentUnit) → AreUnitsSpelt tokens (map unit_term us) →
    ArePartsWhole (flat_map (classes_in n) us) (flat_map (members_in n) us)
    (map module_part (flat_map (modules_in n) us))
units_whole tokens whole n [] spelt = no_parts
units_whole tokens whole n (units.Class x ∷ us) spelt =
    let rest = units_whole tokens whole n us spelt.1 in
    record {
      of_classes = All-append IsWholePlaced _ _ (one_class n x (class_level_whole tokens whole x spelt.0))
          rest.of_classes;
      of_members = rest.of_members;
      of_modules = rest.of_modules;
    }
units_whole tokens whole n (units.Member x ∷ us) spelt =
    let rest = units_whole tokens whole n us spelt.1 in
    record {
      of_classes = rest.of_classes;
      of_members = All-append IsWholePlaced _ _ (one_member n x (member_whole tokens whole x spelt.0))
          rest.of_members;
      of_modules = rest.of_modules;
    }
units_whole tokens whole n (units.Module x ∷ us) spelt =
    let rest = units_whole tokens whole n us spelt.1 in
    record {
      of_classes = rest.of_classes;
      of_members = rest.of_members;
      of_modules = All-cons HasWholeValues _ _ (module_whole tokens whole n x spelt.0) rest.of_modules;
    }
units_whole tokens whole n (units.Section x ∷ us) spelt = units_whole tokens whole n us spelt.1

-- ---- all documents

both_parts : {classes further : List ClassTemplate} {members others : List MemberTemplate} {xs ys : List ModulePart} →
    ArePartsWhole classes members xs → ArePartsWhole further others ys →
    ArePartsWhole (classes ++ further) (members ++ others) (xs ++ ys)
both_parts {classes} {further} {members} {others} {xs} {ys} one two = record {
  of_classes = subst (All IsWholePlaced) (sym (ap (flat_map placed_templates) (map-append class_placed classes further)
      ∙ flat_map-append placed_templates (map class_placed classes) (map class_placed further)))
      (All-append IsWholePlaced _ _ one.of_classes two.of_classes);
  of_members = subst (All IsWholePlaced) (sym (ap (flat_map placed_templates) (map-append member_placed members others)
      ∙ flat_map-append placed_templates (map member_placed members) (map member_placed others)))
      (All-append IsWholePlaced _ _ one.of_members two.of_members);
  of_modules = All-append HasWholeValues xs ys one.of_modules two.of_modules;
}

documents_whole : (n : ℕ) {docs : List Doc} {lists : List (Vec Token)} {all : List (List DocumentUnit)} →
    AreLexed docs lists → AreRead lists all → ArePartsWhole (in_documents classes_in n all)
    (in_documents members_in n all) (map module_part (in_documents modules_in n all))
documents_whole n lexed_end read_end = no_parts
documents_whole n (lexed_document {tokens = tokens} lexed lists) (read_document {us = us} {documents = all} read
    others) =
    subst (λ xs. ArePartsWhole (in_documents classes_in n (us ∷ all)) (in_documents members_in n (us ∷ all)) xs)
    (sym (map-append module_part (flat_map (modules_in n) us) (in_documents modules_in (n + 1) all)))
    (both_parts (units_whole tokens.items (numbers_whole lexed) n us (units_spelt read.spelt))
    (documents_whole (n + 1) lists others))

-- ---- what is asked

value_whole : (xs : List ModulePart) (m i : ℕ) (x : IdentifierTerm) (part : Option ModulePart) →
    slice_get xs m ≡ part → All HasWholeValues xs → arcs_in part i ≡ Some (Some x) → HasWholeArcs x
value_whole xs m i x None there all is = absurd (cc)
value_whole xs m i x (Some part) there all is = at_place WholeOption part.arcs i (Some x)
    (values_of part (at_place HasWholeValues xs m part all there)) is

template_whole : (parts : Parsed) → All IsWholePlaced (class_list parts.classes.items) →
    All IsWholePlaced (member_list parts.members.items) → (by : Placed) (x : IdentifierTerm) →
    Registers (part_terms parts) by x → HasWholeArcs x
unfolding templates IsWholePlaced
template_whole parts of_classes of_members by x registers =
    let both = All-append IsWholePlaced (class_list parts.classes.items) (member_list parts.members.items) of_classes
    of_members in
    let all = subst (All IsWholePlaced) (sym (flat_map-append placed_templates (map class_placed parts.classes.items)
    (map member_placed parts.members.items))) both in
    let one = All-contains IsWholePlaced (templates (part_terms parts)) by all registers.stands in
    subst WholeOption registers.is (whole_template by.template one)

pub all_arcs_whole : ArcsAreWhole
unfolding arcs_at
all_arcs_whole docs lists documents parts lexed read gathered =
    let all = documents_whole 1 lexed read in
    let classes = subst (λ xs. All IsWholePlaced (class_list xs)) (sym gathered.classes) all.of_classes in
    let members = subst (λ xs. All IsWholePlaced (member_list xs)) (sym gathered.members) all.of_members in
    let values = subst (λ xs. All HasWholeValues (map module_part xs)) (sym gathered.modules) all.of_modules in
    record {
      of_templates = template_whole parts classes members;
      of_values = λ m i x is. value_whole (map module_part parts.modules.items) m i x
          (slice_get (map module_part parts.modules.items) m) refl values is;
    }
