-- NameLaws: what linked names mean (X.680, section 14; docs/PROFILE.md, section 12).
use Rattle.std.specs.Prelude.{◌≡◌, ◌≢◌, ℕ, List, Option, Some, option_map, slice_get}
use Rattle.std.proofs.Common.{ap, sym, ◌∙◌}
use Rattle.std.proofs.Math.Path.{subst}
use Rattle.std.proofs.lemmas.Option.{slice_get-map}
use Rattle.token_grammar.specs.declared.qualified_name.QualifiedName.{QualifiedName}
use Rattle.token_grammar.specs.declared.token.Token.{Token}
use Rattle.asn1_names.specs.AssignmentNumbers.{Numbered, all_numbered, numbered_at}
use Rattle.asn1_names.specs.CodeMeanings.{Means}
use Rattle.asn1_names.specs.ModuleTerms.{ModuleTerm}
use Rattle.asn1_names.specs.NameMeaning.{Meaning, meaning_within, module_meaning}
use Rattle.asn1_names.specs.NameMeaning.Meaning.{TypeAt, ValueAt, StandardType, Nothing}
use Rattle.asn1_names.specs.ResolvedTypes.{meaning_of}
use Rattle.asn1_names.specs.WordViews.{standard_syntax_of}
use Rattle.asn1_names.specs.declared.name_tables.Meaning.{Meaning as CodeMeaning}
use Rattle.asn1_names.specs.declared.name_tables.Meaning.TheVariants as code
use Rattle.asn1_names.specs.declared.standard_module.StandardType.{StandardType as CodeStandard}
use Rattle.linked_parts.specs.declared.linked.NamedMeaning.{NamedMeaning}
use Rattle.linked_parts.specs.declared.linked.NamedMeaning.TheVariants.{Assigned, Standard}
use Rattle.gdmo_linking.specs.LinkedNames.{IsMeant}
use Rattle.gdmo_linking.specs.LinkedNames.IsMeant.{of_type, of_value, of_standard}
use Rattle.gdmo_linking.specs.Linkers.{ArePlacesOf, place_of}
use Rattle.gdmo_linking.specs.declared.linking.Linker.{Linker}
use Rattle.gdmo_names.specs.PartTerms.{PartTerms, module_terms_of}
use Rattle.gdmo_names.specs.TypeMeaning.{qualified_meaning}

-- the places of an assignment
pub assigned_at : (ms : List ModuleTerm) (places : List (ℕ × ℕ)) (number : ℕ) (numbered : Numbered) →
    ArePlacesOf ms places → numbered_at ms number ≡ Some numbered → slice_get places number ≡ Some (place_of numbered)
unfolding numbered_at
assigned_at ms places number numbered are at = ap (λ xs. slice_get xs number) are ∙
    slice_get-map place_of (all_numbered 0 ms) number ∙ mapped (slice_get (all_numbered 0 ms) number) at
  where
    mapped : (o : Option Numbered) → o ≡ Some numbered → option_map place_of o ≡ Some (place_of numbered)
    mapped o is = ap (option_map place_of) is

pub type_meant : (ms : List ModuleTerm) (name : Token) (meaning : CodeMeaning) (number : ℕ) (is : Meaning)
    (x : NamedMeaning) → meaning ≡ code.TypeAt number → Means ms meaning is →
    ((numbered : Numbered) → numbered_at ms number ≡ Some numbered →
    x ≡ Assigned numbered.in_module numbered.place) → IsMeant name is x
type_meant ms name meaning number is x of means told =
    let fact = subst (λ y. Means ms y is) of means in
    subst (λ y. IsMeant name y x) (sym fact.is)
    (subst (λ y. IsMeant name (TypeAt fact.numbered.in_module fact.numbered.place fact.of) y)
    (sym (told fact.numbered fact.at)) of_type)

pub value_meant : (ms : List ModuleTerm) (name : Token) (meaning : CodeMeaning) (number : ℕ) (is : Meaning)
    (x : NamedMeaning) → meaning ≡ code.ValueAt number → Means ms meaning is →
    ((numbered : Numbered) → numbered_at ms number ≡ Some numbered →
    x ≡ Assigned numbered.in_module numbered.place) → IsMeant name is x
value_meant ms name meaning number is x of means told =
    let fact = subst (λ y. Means ms y is) of means in
    subst (λ y. IsMeant name y x) (sym fact.is)
    (subst (λ y. IsMeant name (ValueAt fact.numbered.in_module fact.numbered.place fact.of fact.stated fact.text) y)
    (sym (told fact.numbered fact.at)) of_value)

pub standard_meant : (ms : List ModuleTerm) (name copy : Token) (meaning : CodeMeaning) (standard : CodeStandard)
    (is : Meaning) → meaning ≡ code.Standard standard → Means ms meaning is → copy ≡ name →
    IsMeant name is (Standard copy)
standard_meant ms name copy meaning standard is of means same =
    let fact : is ≡ StandardType (standard_syntax_of standard) = subst (λ y. Means ms y is) of means in
    subst (λ y. IsMeant name y (Standard copy)) (sym fact)
    (subst (λ y. IsMeant name (StandardType (standard_syntax_of standard)) (Standard y)) (sym same) of_standard)

pub nothing_meant : (ms : List ModuleTerm) (name : Token) (meaning : CodeMeaning) (is : Meaning) (x : NamedMeaning) →
    meaning ≡ code.Nothing → Means ms meaning is → is ≢ Nothing → IsMeant name is x
nothing_meant ms name meaning is x of means known = absurd (known (subst (λ y. Means ms y is) of means))

-- what the tables tell of a name
pub name_told : (parts : PartTerms) (linker : Linker) (ms : List ModuleTerm) (name : QualifiedName)
    (meaning : CodeMeaning) (m n : List ℕ) → m ≡ name.module_name.text → n ≡ name.name.text →
    ms ≡ module_terms_of parts → Means ms meaning (meaning_of ms m n) →
    Means (module_terms_of parts) meaning (qualified_meaning (module_terms_of parts) name)
unfolding meaning_of qualified_meaning
name_told parts linker ms name meaning m n first second is told =
    subst (λ xs. Means xs meaning (meaning_within xs (module_meaning xs name.module_name.text) name.name.text)) is
    (subst (λ y. Means ms meaning (meaning_within ms (module_meaning ms name.module_name.text) y)) second
    (subst (λ y. Means ms meaning (meaning_within ms (module_meaning ms y) n)) first told))
