-- NamedLaws: in modules without a fault a name of a type denotes a syntax where the type that it names does (X.680,
-- sections 13.1, 16 and 49 to 51).
use Rattle.std.proofs.Common.{◌≡◌, ℕ, List, [], Option, refl, sym, subst}
use Rattle.token_grammar.specs.declared.token.Token.{Token}
use Rattle.term_values.specs.Syntaxes.{TypeSyntax}
use Rattle.asn1_names.specs.ModuleTerms.{LimitTerm, TypeTerm, ModuleTerm}
use Rattle.asn1_names.specs.ModuleTerms.TypeTerm.{Reference}
use Rattle.asn1_names.specs.Constraining.Constrains.{no_more}
use Rattle.asn1_names.specs.DenotedSyntax.{Denotes}
use Rattle.asn1_names.specs.DenotedSyntax.Denotes.{named, standard}
use Rattle.asn1_names.specs.FirstModuleFault.{AreFaultless}
use Rattle.asn1_names.specs.NameMeaning.{Meaning, reference_meaning}
use Rattle.asn1_names.specs.NameMeaning.Meaning.{TypeAt, ValueAt, StandardType, Nothing}
use Rattle.asn1_names.specs.NodeCount.{IsNoType}
use Rattle.asn1_names.specs.Occurrences.{Stands}
use Rattle.asn1_names.specs.Occurrences.IsLimitOf.{reference}
use Rattle.asn1_names.specs.TypeBase.HasBase.{named as based_named, standard as based_standard}
use Rattle.asn1_names.proofs.BaseLaws.{denoted_base, denoted_place}
use Rattle.asn1_names.proofs.FaultlessLaws.{faultless_place}
use Rattle.denoted_types.proofs.FormLaws.{SomeDenoted}
use Rattle.denoted_types.proofs.NarrowLaws.{some_constrained}
use Rattle.denoted_types.proofs.SaidLaws.{says_ranges}
use Rattle.denoted_types.proofs.StandLaws.{means_type}

-- the name of a type that is assigned
assigned_denotes : {ms : List ModuleTerm} {document m v i : ℕ} {module_name : Option Token} {name : Token}
    {limits : List LimitTerm} {of : TypeTerm} → AreFaultless ms →
    Stands ms document m (Reference module_name name limits) →
    reference_meaning ms m module_name name ≡ TypeAt v i of → SomeDenoted ms v of →
    SomeDenoted ms m (Reference module_name name limits)
assigned_denotes {limits = limits} sound stands is inner = λ none. inner (λ unlimited denotes.
    let based = denoted_base denotes in
    some_constrained limits unlimited
    (λ limit there. denoted_place denotes based.1 limit
    (faultless_place sound stands (reference there) (based_named is based.1)))
    (λ limit there. says_ranges limit sound stands (reference there))
    (λ syntax constrains. none syntax (named is denotes constrains)))

-- the name of a type of CMIP-1
standard_denotes : {ms : List ModuleTerm} {document m : ℕ} {module_name : Option Token} {name : Token}
    {limits : List LimitTerm} {unlimited : TypeSyntax} → AreFaultless ms →
    Stands ms document m (Reference module_name name limits) →
    reference_meaning ms m module_name name ≡ StandardType unlimited →
    SomeDenoted ms m (Reference module_name name limits)
standard_denotes {ms = ms} {m = m} {module_name = module_name} {name = name} {limits = limits} {unlimited = unlimited}
    sound stands is = λ none.
    let denotes : Denotes ms m (Reference module_name name []) unlimited = standard is no_more in
    some_constrained limits unlimited
    (λ limit there. denoted_place denotes (based_standard is) limit
    (faultless_place sound stands (reference there) (based_standard is)))
    (λ limit there. says_ranges limit sound stands (reference there))
    (λ syntax constrains. none syntax (standard is constrains))

reference_by : {ms : List ModuleTerm} {document m : ℕ} {module_name : Option Token} {name : Token}
    {limits : List LimitTerm} (meaning : Meaning) → AreFaultless ms →
    Stands ms document m (Reference module_name name limits) →
    ((v i : ℕ) (of : TypeTerm) → reference_meaning ms m module_name name ≡ TypeAt v i of → SomeDenoted ms v of) →
    reference_meaning ms m module_name name ≡ meaning → SomeDenoted ms m (Reference module_name name limits)
reference_by (TypeAt v i of) sound stands inner is = assigned_denotes sound stands is (inner v i of is)
reference_by (StandardType syntax) sound stands inner is = standard_denotes sound stands is
reference_by {module_name = module_name} (ValueAt v i of number text) sound stands inner is =
    absurd (means_type module_name sound stands (subst IsNoType (sym is) tt))
reference_by {module_name = module_name} Nothing sound stands inner is =
    absurd (means_type module_name sound stands (subst IsNoType (sym is) tt))

pub reference_denotes : {ms : List ModuleTerm} {document m : ℕ} {module_name : Option Token} {name : Token}
    {limits : List LimitTerm} → AreFaultless ms → Stands ms document m (Reference module_name name limits) →
    ((v i : ℕ) (of : TypeTerm) → reference_meaning ms m module_name name ≡ TypeAt v i of → SomeDenoted ms v of) →
    SomeDenoted ms m (Reference module_name name limits)
reference_denotes {ms = ms} {m = m} {module_name = module_name} {name = name} sound stands inner =
    reference_by (reference_meaning ms m module_name name) sound stands inner refl
