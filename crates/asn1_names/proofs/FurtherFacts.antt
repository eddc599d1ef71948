-- Further examples of docs/PROFILE.md, section 11, computed: CMIP-1 by its name, named numbers before values,
-- constraints through tags, what is unsupported, an unknown module, the first fault, and a text of DEFAULT.
use Rattle.std.specs.Prelude.{◌≡◌, ℤ, pos, [], ◌∷◌, true, false, ◌&&◌, None, Some}
use Rattle.std.specs.Prelude.{codes, refl}
use Rattle.std.proofs.Common.{inl, arith}
use Rattle.token_grammar.specs.Form.{Bare}
use Rattle.term_values.specs.Bounded.{allowed, one_allows}
use Rattle.term_values.specs.CmipTypes.{object_class}
use Rattle.term_values.specs.Syntaxes.TypeSyntax.{Integer, NullType, Sequence, SequenceOf, Tagged}
use Rattle.term_values.specs.Syntaxes.TypeParts.{NoParts, Part as APart}
use Rattle.term_values.specs.Tag.{context}
use Rattle.asn1_names.specs.declared.refusal.UnsupportedKind.TheVariants.{TypeWord, MisplacedConstraint}
use Rattle.asn1_names.specs.ModuleTerms.{NamedNumberTerm, TypeTerm, ModuleTerm}
use Rattle.asn1_names.specs.ModuleTerms.NumberTerm.{Digits, Called}
use Rattle.asn1_names.specs.ModuleTerms.LimitTerm.{SizeLimit}
use Rattle.asn1_names.specs.ModuleTerms.PlainTerm.{IntegerTerm}
use Rattle.asn1_names.specs.ModuleTerms.PresenceTerm.{Needed, DefaultTerm}
use Rattle.asn1_names.specs.ModuleTerms.TypeTerm.{Structure, Repeated, Plain, Reference}
use Rattle.asn1_names.specs.ModuleTerms.MemberTerms.{NoMembers, Member}
use Rattle.asn1_names.specs.Constraining.{Narrows}
use Rattle.range_sets.specs.RangeSets.IsRising.{last}
use Rattle.asn1_names.specs.Constraining.Narrows.{values, tagged}
use Rattle.asn1_names.specs.Containment.IsMember.{first, behind}
use Rattle.asn1_names.specs.Containment.Within.{itself}
use Rattle.asn1_names.specs.DefaultTexts.{HasDefault, part_at}
use Rattle.asn1_names.specs.DefaultTexts.HasDefault.{here, element}
use Rattle.asn1_names.specs.ModuleFaults.{IsOtherType, UnknownModuleAt, UnsupportedAt}
use Rattle.asn1_names.specs.ModuleFaults.UnknownModuleAt.{of_module}
use Rattle.asn1_names.specs.ModuleFaults.UnsupportedAt.{type_word, misplaced}
use Rattle.asn1_names.specs.NameMeaning.{first_assignment, first_module, assigned_in, import_of, imported_from}
use Rattle.asn1_names.specs.NameMeaning.{meaning_within}
use Rattle.asn1_names.specs.NameMeaning.{module_meaning, reference_meaning}
use Rattle.asn1_names.specs.NameMeaning.Meaning.{StandardType}
use Rattle.asn1_names.specs.NameMeaning.ModuleMeaning.{NoModule}
use Rattle.asn1_names.specs.Occurrences.{Stands}
use Rattle.asn1_names.specs.Occurrences.IsLimitOf.{plain as plain_limit}
use Rattle.asn1_names.specs.TypeBase.{number_called}
use Rattle.asn1_names.specs.TypeBase.HasBase.{itself as base_itself}
use Rattle.asn1_names.specs.TypeWords.{is_other_type_word}
use Rattle.asn1_names.specs.WholeNumbers.{IsBound}
use Rattle.asn1_names.specs.WholeNumbers.IsNumber.{digits as digits_are}
use Rattle.asn1_names.specs.WholeNumbers.IsBound.{named_number}
use Rattle.asn1_names.proofs.Texts.{word, digits, simple, named, type_assignment, module_of}

-- a module that assigns one type
abbrev one_type : TypeTerm → ModuleTerm
one_type of = module_of 0 (codes "Net") [] (type_assignment 30 (codes "T") of ∷ [])

abbrev stands_alone : (of : TypeTerm) → Stands (one_type of ∷ []) 0 0 of
stands_alone of = record {
  of = of;
  assigned = record {
    in_module = one_type of;
    is_in = record { module_at = refl; numbered = refl };
    assignment = type_assignment 30 (codes "T") of;
    stands = (0, omega arith, refl);
    is_of = refl;
  };
  within = itself;
}

-- CMIP-1.ObjectClass
by_name_example : reference_meaning (one_type (simple 36 (codes "NULL")) ∷ []) 0 (Some (word 36 (codes "CMIP-1")))
    (word 43 (codes "ObjectClass")) ≡ StandardType object_class
unfolding reference_meaning meaning_within module_meaning
by_name_example = refl

-- T ::= REAL is unsupported at REAL
abbrev real : TypeTerm
real = named 36 (codes "REAL")

real_is_other : IsOtherType (one_type real ∷ []) 0 (word 36 (codes "REAL"))
unfolding is_other_type_word assigned_in first_assignment import_of imported_from
real_is_other = record { word = refl; unassigned = refl; not_imported = refl }

real_example : UnsupportedAt (one_type real ∷ []) 0 36 TypeWord
real_example = type_word (stands_alone real) real_is_other refl

-- T ::= Nowhere.T names a module that isn't there, at Nowhere
abbrev far : TypeTerm
far = Reference (Some (word 36 (codes "Nowhere"))) (word 44 (codes "T")) []

no_module : module_meaning (one_type far ∷ []) (codes "Nowhere") ≡ NoModule
unfolding module_meaning first_module
no_module = refl

far_example : UnknownModuleAt (one_type far ∷ []) 0 36
far_example = of_module (stands_alone far) no_module refl

-- in INTEGER {a(1)} (a) the bound is 1
abbrev named_one : NamedNumberTerm
named_one = record { name = word 45 (codes "a"); number = Digits false (digits 47 (codes "1")) }

abbrev with_numbers : TypeTerm
with_numbers = Plain (word 36 (codes "INTEGER")) (IntegerTerm (named_one ∷ [])) []

one_called : number_called (codes "a") (named_one ∷ []) ≡ Some (Digits false (digits 47 (codes "1")))
unfolding number_called
one_called = refl

bound_example : IsBound (one_type with_numbers ∷ []) 0 with_numbers (Called (word 52 (codes "a"))) (pos 1)
bound_example = named_number (record { base = with_numbers; has = base_itself refl; called = one_called })
    (digits_are (omega arith, (omega arith, tt)) refl (record { at_least = omega arith; below = omega arith }))

-- INTEGER (SIZE(1)) is unsupported at 1
abbrev sized : TypeTerm
sized = Plain (word 36 (codes "INTEGER")) (IntegerTerm [])
    (SizeLimit (record { lower = Digits false (digits 50 (codes "1")); upper = None } ∷ []) ∷ [])

sized_example : UnsupportedAt (one_type sized ∷ []) 0 50 MisplacedConstraint
sized_example = misplaced (stands_alone sized) (plain_limit (0, omega arith, refl)) (base_itself refl) refl refl

-- 1 to 2 leave 1 to 2 of [0] INTEGER
unlimited_rest : (n : ℤ) → allowed ((pos 1, pos 2) ∷ []) n ≡ (allowed [] n && one_allows ((pos 1, pos 2) ∷ []) n)
unlimited_rest n = refl

tagged_example : Narrows ((pos 1, pos 2) ∷ []) false (Tagged (context 0) true (Integer [] []))
    (Tagged (context 0) true (Integer [] ((pos 1, pos 2) ∷ [])))
tagged_example = tagged (values (record { stated = inl (last (omega arith)); same = unlimited_rest }))

-- SEQUENCE OF SEQUENCE { a NULL, b NULL DEFAULT NULL }: the text of DEFAULT is that of the component 1
abbrev defaulted : TypeTerm
defaulted = Structure (word 48 (codes "SEQUENCE"))
    (Member (word 58 (codes "a")) (simple 60 (codes "NULL")) Needed
    (Member (word 66 (codes "b")) (simple 68 (codes "NULL")) (DefaultTerm Bare) NoMembers)) []

default_example : HasDefault (one_type defaulted ∷ []) 0 (Repeated (word 36 (codes "SEQUENCE")) None defaulted)
    (1 ∷ []) 0 Bare
default_example = element (here (behind first))

part_example : part_at (SequenceOf (Sequence (APart (codes "a") NullType false None
    (APart (codes "b") NullType true None NoParts))) []) (1 ∷ []) ≡ Some NullType
part_example = refl
