-- ConstraintLaws: which faults bounds and constraints have (docs/PROFILE.md, section 11).
use Rattle.std.proofs.Common.{◌≡◌, ◌∙◌, ℕ, ℤ, List, Bool, true, Option, None, Some, refl, ap, sym}
use Rattle.std.proofs.Common.{MatchOption, true≢false}
use Rattle.std.proofs.Math.Path.{subst}
use Rattle.std.specs.Borrow.{Bor}
use Rattle.indexmap.specs.IndexMap.{IndexMap}
use Rattle.token_grammar.specs.declared.token.Token.{Token}
use Rattle.asn1_values_syntax.specs.declared.numbers.Bound.{Bound}
use Rattle.asn1_syntax.specs.declared.plain_type.PlainType.{PlainType}
use Rattle.asn1_syntax.specs.declared.plain_type.PlainType.TheVariants as plain
use Rattle.asn1_names.specs.declared.first_fault.FaultKind.TheVariants as noted
use Rattle.asn1_names.specs.declared.first_fault.ModuleFault.{ModuleFault}
use Rattle.asn1_names.specs.declared.numbers.Base.{Base as CodeBase}
use Rattle.asn1_names.specs.declared.numbers.Base.TheVariants as code
use Rattle.asn1_names.specs.declared.numbers.NumberFound.{NumberFound}
use Rattle.asn1_names.specs.declared.numbers.NumberFound.TheVariants as answer
use Rattle.asn1_names.specs.declared.refusal.UnsupportedKind.TheVariants.{WideNumber}
use Rattle.asn1_names.specs.FirstModuleFault.FaultKind.{TypeUnknown, NotSupported}
use Rattle.asn1_names.specs.ModuleFaults.{IsKnownBound, IsNoValue}
use Rattle.asn1_names.specs.ModuleTerms.{NumberTerm, RangeTerm, LimitTerm, TypeTerm, ModuleTerm}
use Rattle.asn1_names.specs.ModuleTerms.NumberTerm.{Digits, Called}
use Rattle.asn1_names.specs.ModuleTerms.TypeTerm.{Repeated}
use Rattle.asn1_names.specs.NumbersFound.{FindsBase, FindsBound, IsOwn, IsUnknown, IsUnknownBound, StatesNumbers}
use Rattle.asn1_names.specs.NumbersFound.{TellsNames, base_term, beneath_tags}
use Rattle.asn1_names.specs.Occurrences.{number_token}
use Rattle.asn1_names.specs.TermViews.{plain_term}
use Rattle.asn1_names.specs.TypeBase.{HasBase, has_place, named_numbers, number_called}
use Rattle.asn1_names.specs.TypeBase.Base.{Written}
use Rattle.asn1_names.specs.TypeBase.HasBase.{itself}
use Rattle.asn1_names.specs.WholeNumbers.{IsNumber, IsBound, NamesNumber}
use Rattle.asn1_names.specs.WholeNumbers.IsNumber.{digits, value, named_value}
use Rattle.asn1_names.specs.WholeNumbers.IsBound.{digits as bound_digits, named_number, value as bound_value}
use Rattle.asn1_names.proofs.OneNumber.{one_base}
use Rattle.asn1_names.proofs.WalkLaws.{named_is}
use Rattle.asn1_resolve.specs.FaultSets.{AnyOf, In, IsFirstOf, found_fault}
use Rattle.asn1_resolve.specs.TypeFaults.{BoundFaults, ConstraintFaults, IsMisplaced, LimitFaults}
use Rattle.asn1_resolve.proofs.FirstFaults.{none_of_both, one_of_both, other_of_both}

-- ---- bounds

number_known : {ms : List ModuleTerm} {m : ℕ} {number : NumberTerm} {n : ℤ} → IsNumber ms m number n →
    ¬ IsUnknown ms m number
number_known (digits spelt is fits) unknown = unknown
number_known (value e h) unknown = subst IsNoValue e unknown
number_known (named_value e k h) unknown = subst IsNoValue e unknown

bound_known : {ms : List ModuleTerm} {m : ℕ} {of : TypeTerm} {bound : NumberTerm} {n : ℤ} → IsBound ms m of bound n →
    ¬ IsUnknownBound ms m of bound
bound_known (bound_digits h) unknown = unknown
bound_known (named_number {w = w} {number = number} has h) unknown =
    unknown.0 (record { written_in = w; number = number; has = has })
bound_known (bound_value not_named h) unknown = number_known h unknown.1

known_or_not : (ms : List ModuleTerm) (m : ℕ) (of : TypeTerm) (bound : NumberTerm) → IsKnownBound ms m of bound →
    ¬ IsUnknownBound ms m of bound
known_or_not ms m of (Digits minus token) known unknown = unknown
known_or_not ms m of (Called name) known unknown = known unknown

pub bound_judged : (ms : List ModuleTerm) (document m : ℕ) (of : TypeTerm) (bound : NumberTerm) (found : NumberFound) →
    FindsBound ms m of bound found → IsFirstOf (In document (BoundFaults ms m of bound))
    (found_fault document (number_token bound).at noted.WideNumber found)
bound_judged ms document m of bound (answer.Number n) h =
    none_of_both {Here = IsUnknownBound ms m of bound}
    {There = IsKnownBound ms m of bound × ((n : ℤ) → ¬ IsBound ms m of bound n)} document (number_token bound).at
    (number_token bound).at TypeUnknown (NotSupported WideNumber) (bound_known h) (λ wide. wide.1 n h)
bound_judged ms document m of bound answer.NotNumber h =
    other_of_both {Here = IsUnknownBound ms m of bound}
    {There = IsKnownBound ms m of bound × ((n : ℤ) → ¬ IsBound ms m of bound n)} document (number_token bound).at
    (number_token bound).at TypeUnknown noted.WideNumber (known_or_not ms m of bound h.0) h
bound_judged ms document m of bound answer.Unknown h =
    one_of_both {Here = IsUnknownBound ms m of bound}
    {There = IsKnownBound ms m of bound × ((n : ℤ) → ¬ IsBound ms m of bound n)} document (number_token bound).at
    (number_token bound).at noted.UnknownType (NotSupported WideNumber) h (λ wide. known_or_not ms m of bound wide.0 h)

-- ---- bases

-- what is told of a base, and the named numbers of what stands beneath the tags, tell the named numbers of the type
pub tells_names : {S : Type 0} (ms : List ModuleTerm) (m : ℕ) (of : TypeTerm) (base : CodeBase)
    (own : IndexMap (Bor (List ℕ)) (Bor Bound) S) → FindsBase ms m of base → IsOwn of base →
    StatesNumbers own (beneath_tags of) → TellsNames ms m of base own
tells_names ms m of (code.Written home top None) own finds is states =
    (finds.0, λ name. states name ∙ ap (λ t. number_called name (named_numbers t)) (sym is))
tells_names ms m of (code.Written home top (Some number)) own finds is states = finds
tells_names ms m of (code.Standing standard) own finds is states = finds
tells_names ms m of code.Nothing own finds is states = λ name names. finds (Written names.written_in names.has.base)
    names.has.has

-- a constraint that has its place isn't misplaced
pub place_there : (ms : List ModuleTerm) (m : ℕ) (of : TypeTerm) (base : CodeBase) (limit : LimitTerm) (result : Bool) →
    FindsBase ms m of base → result ≡ true →
    MatchOption (base_term base) (result ≡ true) (λ known. result ≡ has_place known limit) →
    ¬ IsMisplaced ms m of limit
place_there ms m of (code.Written home top holder) limit result finds is told misplaced =
    true≢false (sym is ∙ told ∙ ap (λ b. has_place b limit) (one_base finds.0 misplaced.1) ∙ misplaced.2)
place_there ms m of (code.Standing standard) limit result finds is told misplaced =
    true≢false (sym is ∙ told ∙ ap (λ b. has_place b limit) (one_base finds misplaced.1) ∙ misplaced.2)
place_there ms m of code.Nothing limit result finds is told misplaced = finds misplaced.0 misplaced.1

none_called : {ms : List ModuleTerm} {m v : ℕ} {word : Token} {size : Option (List RangeTerm)} {of base : TypeTerm}
    (name : List ℕ) → HasBase ms m (Repeated word size of) (Written v base) →
    number_called name (named_numbers base) ≡ None
unfolding number_called
none_called name (itself h) = refl

-- a list has no named numbers
pub list_names_none : (ms : List ModuleTerm) (m : ℕ) (word : Token) (size : Option (List RangeTerm)) (of : TypeTerm)
    (name : Token) → ¬ NamesNumber ms m (Repeated word size of) name
list_names_none ms m word size of name names =
    let e = sym (none_called name.text names.has.has) ∙ names.has.called in absurd (cc)

-- ---- the constraints of a type that holds no other

pub plain_constraints : (ms : List ModuleTerm) (document m : ℕ) (of : PlainType) (limits : List LimitTerm)
    (first : Option ModuleFault) →
    IsFirstOf (In document (AnyOf (LimitFaults ms m (plain_term of limits)) limits)) first →
    IsFirstOf (In document (ConstraintFaults ms m (plain_term of limits))) first
plain_constraints ms document m (plain.Simple word) limits first h = h
plain_constraints ms document m (plain.Integer x) limits first h = h
plain_constraints ms document m (plain.Enumerated x) limits first h = h
plain_constraints ms document m (plain.BitString x) limits first h = h
plain_constraints ms document m (plain.OctetString word) limits first h = h
plain_constraints ms document m (plain.ObjectIdentifier word) limits first h = h
plain_constraints ms document m (plain.Any x) limits first h = h
plain_constraints ms document m (plain.Named x) limits first h =
    subst (λ t. IsFirstOf (In document (ConstraintFaults ms m t)) first) (sym (named_is x limits))
    (subst (λ t. IsFirstOf (In document (AnyOf (LimitFaults ms m t) limits)) first) (named_is x limits) h)
