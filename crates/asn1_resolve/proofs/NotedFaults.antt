-- NotedFaults: each of the sentences is a fault of an import, of an assignment or of a type, and the first of these is
-- the first fault of modules in order (docs/PROFILE.md, section 11).
use Rattle.std.proofs.Common.{◌≡◌, ◌⊎◌, ◌∙◌, ◌≤◌, ℕ, List, None, Some, refl, ap}
use Rattle.std.proofs.Common.{sym, inl, inr}
use Rattle.std.proofs.Common.{arith, slice_get, true≢false}
use Rattle.std.proofs.Math.Path.{subst}
use Rattle.std.proofs.lemmas.Bool.{cases_lt}
use Rattle.token_grammar.specs.declared.token.Token.{Token}
use Rattle.asn1_names.specs.declared.first_fault.ModuleFault.{ModuleFault}
use Rattle.asn1_names.specs.declared.refusal.UnsupportedKind.{UnsupportedKind}
use Rattle.asn1_names.specs.declared.refusal.UnsupportedKind.TheVariants.{TypeWord, TooManyNodes, TagNumber}
use Rattle.asn1_names.specs.declared.refusal.UnsupportedKind.TheVariants.{WideNumber, MisplacedConstraint}
use Rattle.asn1_names.specs.AssignmentNumbers.{Numbered}
use Rattle.asn1_names.specs.Constraining.{limit_ranges}
use Rattle.asn1_names.specs.Containment.{Within}
use Rattle.asn1_names.specs.FirstModuleFault.{AreFaultless, FaultKind, HasFault, IsFirstFault, IsNoLater}
use Rattle.asn1_names.specs.FirstModuleFault.FaultKind.{TypeUnknown, ModuleUnknown, TypeCyclic, NotSupported}
use Rattle.asn1_names.specs.FirstModuleFault.FaultKind.{TagsAmbiguous}
use Rattle.asn1_names.specs.FirstModuleFault.IsNoLater.{earlier_token, at_one_token}
use Rattle.asn1_names.specs.ModuleFaults.{AmbiguousTagsAt, CyclicTypeAt, UnknownModuleAt, UnknownTypeAt, UnsupportedAt}
use Rattle.asn1_names.specs.ModuleFaults.UnknownTypeAt.{imported, of_module, alone, tag_number, named_number, bound}
use Rattle.asn1_names.specs.ModuleFaults.UnknownModuleAt.{imported as no_module_imported, of_module as no_module}
use Rattle.asn1_names.specs.ModuleFaults.UnsupportedAt.{type_word, other_word, too_many_nodes, misplaced}
use Rattle.asn1_names.specs.ModuleFaults.UnsupportedAt.{tag_number as wide_tag, named_number as wide_number}
use Rattle.asn1_names.specs.ModuleFaults.UnsupportedAt.{bound as wide_bound}
use Rattle.asn1_names.specs.ModuleTerms.{NumberTerm, NamedNumberTerm, LimitTerm, TypeTerm, ImportTerm}
use Rattle.asn1_names.specs.ModuleTerms.{ModuleTerm}
use Rattle.asn1_names.specs.ModuleTerms.NumberTerm.{Called}
use Rattle.asn1_names.specs.NotedFaults.{kind_of}
use Rattle.asn1_names.specs.NumbersFound.{IsUnknown}
use Rattle.asn1_names.specs.Occurrences.{Assigns, ImportsBy, IsBoundOf, IsLimitOf, IsNumberOf, Stands, first_word}
use Rattle.asn1_names.specs.Occurrences.{number_token, type_assigned}
use Rattle.asn1_names.specs.Occurrences.IsLimitOf.{structure, list_size, alternatives, plain, reference}
use Rattle.asn1_names.specs.Occurrences.IsNumberOf.{named_number as integer_number, item, named_bit}
use Rattle.asn1_names.specs.TypeBase.{has_place}
use Rattle.asn1_names.specs.ModuleTerms.TypeTerm.{Repeated}
use Rattle.asn1_names.specs.TypeBase.Base.{Written}
use Rattle.asn1_names.specs.TypeBase.HasBase.{itself}
use Rattle.asn1_names.proofs.OneNumber.{one_base}
use Rattle.asn1_names.proofs.TableAnswers.{some_is}
use Rattle.asn1_types.specs.CountedTypes.{AreCounted}
use Rattle.asn1_resolve.specs.AllFaults.{AllFaults, AssignmentFaults, ImportFaults, SymbolFaults}
use Rattle.asn1_resolve.specs.FaultSets.{AnyOf, IsFirstOf}
use Rattle.asn1_resolve.specs.ModuleOrder.{AreInOrder}
use Rattle.asn1_resolve.specs.TypeFaults.{BoundFaults, ConstraintFaults, HeadFaults, IsFew, IsLarge, LimitFaults}
use Rattle.asn1_resolve.specs.TypeFaults.{NumberFaults, OwnFaults, RangeFaults, UpperFaults}
use Rattle.asn1_resolve.proofs.FirstFaults.{no_later}
use Rattle.asn1_resolve.proofs.FoundFaults.{all_found, ambiguous_word, any_noted, contained_get}
use Rattle.asn1_resolve.proofs.PlaceLaws.{get_within, number_of, numbered_within}

-- ---- where they stand

import_noted : (ms : List ModuleTerm) (document m : ℕ) (text : ImportTerm) (token : ℕ) (kind : FaultKind) →
    ImportsBy ms document m text → ImportFaults ms text token kind → AllFaults ms kind document token
import_noted ms document m text token kind by fault =
    inl (
      m,
      get_within ms m by.in_module by.is_in.module_at,
      (
        by.in_module,
        by.is_in,
        any_noted (ImportFaults ms) by.in_module.imports text token kind by.stands fault,
      ),
    )

-- the number of an assignment
abbrev HasNumber : List ModuleTerm → (document m : ℕ) → TypeTerm → ℕ → Numbered → Type 0
HasNumber ms document m of i x = (x.in_module ≡ m) × (type_assigned x.assignment.assigned ≡ of)

assignment_noted : (ms : List ModuleTerm) (document m : ℕ) (of : TypeTerm) (token : ℕ) (kind : FaultKind)
    (assigns : Assigns ms document m of) → ((i : ℕ) → slice_get assigns.in_module.assignments i ≡
    Some assigns.assignment → AssignmentFaults ms (record {
      in_module = m;
      place = i;
      assignment = assigns.assignment;
    }) token kind) → AllFaults ms kind document token
assignment_noted ms document m of token kind assigns fault =
    let got = contained_get assigns.in_module.assignments assigns.assignment assigns.stands in
    let number = number_of ms m assigns.in_module got.0 assigns.assignment assigns.is_in.module_at got.1 in
    inr (
      number.0,
      numbered_within ms number.0 _ number.1,
      (
        _,
        number.1,
        assigns.in_module,
        assigns.is_in,
        fault got.0 got.1,
      ),
    )

own_noted : (ms : List ModuleTerm) (document m : ℕ) (inner : TypeTerm) (token : ℕ) (kind : FaultKind)
    (stands : Stands ms document m inner) → OwnFaults (IsFew ms m stands.of) ms m inner token kind →
    AllFaults ms kind document token
own_noted ms document m inner token kind stands fault =
    assignment_noted ms document m stands.of token kind stands.assigned (λ i at. inr (
      inner,
      subst (λ t. Within inner t) (sym stands.assigned.is_of) stands.within,
      subst (λ t. OwnFaults (IsFew ms m t) ms m inner token kind) (sym stands.assigned.is_of) fault,
    ))

head_noted : (ms : List ModuleTerm) (document m : ℕ) (inner : TypeTerm) (token : ℕ) (kind : FaultKind) →
    Stands ms document m inner → HeadFaults ms m inner token kind → AllFaults ms kind document token
head_noted ms document m inner token kind stands fault =
    own_noted ms document m inner token kind stands (inr fault)

constraint_noted : (ms : List ModuleTerm) (document m : ℕ) (inner : TypeTerm) (token : ℕ) (kind : FaultKind) →
    Stands ms document m inner → ConstraintFaults ms m inner token kind → AllFaults ms kind document token
constraint_noted ms document m inner token kind stands fault =
    own_noted ms document m inner token kind stands (inl (inr fault))

-- ---- numbers, bounds and constraints

number_noted : (ms : List ModuleTerm) (m : ℕ) (of : TypeTerm) (number : NumberTerm) (token : ℕ) (kind : FaultKind) →
    IsNumberOf number of → NumberFaults ms m number token kind → HeadFaults ms m of token kind
number_noted ms m of number token kind (integer_number {numbers = xs} {x = x} contains e) fault =
    any_noted (λ (y : NamedNumberTerm). NumberFaults ms m y.number) xs x token kind contains
    (subst (λ n. NumberFaults ms m n token kind) (sym e) fault)
number_noted ms m of number token kind (item {items = xs} {x = x} contains e) fault =
    any_noted (λ (y : NamedNumberTerm). NumberFaults ms m y.number) xs x token kind contains
    (subst (λ n. NumberFaults ms m n token kind) (sym e) fault)
number_noted ms m of number token kind (named_bit {bits = xs} {x = x} contains e) fault =
    any_noted (λ (y : NamedNumberTerm). NumberFaults ms m y.number) xs x token kind contains
    (subst (λ n. NumberFaults ms m n token kind) (sym e) fault)

ranges_noted : (ms : List ModuleTerm) (m : ℕ) (of : TypeTerm) (limit : LimitTerm) (token : ℕ) (kind : FaultKind) →
    IsLimitOf limit of → AnyOf (RangeFaults ms m of) (limit_ranges limit) token kind →
    ConstraintFaults ms m of token kind
ranges_noted ms m of limit token kind (structure {limits = limits} contains) fault =
    any_noted (LimitFaults ms m of) limits limit token kind contains (inl fault)
ranges_noted ms m of limit token kind (list_size e) fault =
    subst (λ l. AnyOf (RangeFaults ms m of) (limit_ranges l) token kind) e fault
ranges_noted ms m of limit token kind (alternatives {limits = limits} contains) fault =
    any_noted (LimitFaults ms m of) limits limit token kind contains (inl fault)
ranges_noted ms m of limit token kind (plain {limits = limits} contains) fault =
    any_noted (LimitFaults ms m of) limits limit token kind contains (inl fault)
ranges_noted ms m of limit token kind (reference {limits = limits} contains) fault =
    any_noted (LimitFaults ms m of) limits limit token kind contains (inl fault)

bound_noted : (ms : List ModuleTerm) (m : ℕ) (of : TypeTerm) (number : NumberTerm) (token : ℕ) (kind : FaultKind) →
    IsBoundOf number of → BoundFaults ms m of number token kind → ConstraintFaults ms m of token kind
bound_noted ms m of number token kind is fault =
    ranges_noted ms m of is.limit token kind is.is_limit
    (any_noted (RangeFaults ms m of) (limit_ranges is.limit) is.range token kind is.stands
    (elim is.is as (λ _. RangeFaults ms m of is.range token kind) [
      | inl e ↦ inl (subst (λ n. BoundFaults ms m of n token kind) (sym e) fault)
      | inr e ↦ inr (subst (λ u. UpperFaults ms m of u token kind) (sym e) fault)
    ]))

misplaced_noted : (ms : List ModuleTerm) (m : ℕ) (of : TypeTerm) (limit : LimitTerm) (token : ℕ) (kind : FaultKind) →
    IsLimitOf limit of → LimitFaults ms m of limit token kind → ConstraintFaults ms m of token kind
misplaced_noted ms m of limit token kind (structure {limits = limits} contains) fault =
    any_noted (LimitFaults ms m of) limits limit token kind contains fault
misplaced_noted ms m of limit token kind (list_size e) (inl ranges) =
    subst (λ l. AnyOf (RangeFaults ms m of) (limit_ranges l) token kind) e ranges
misplaced_noted ms m of limit token kind (list_size {word = word} {ranges = ranges} {of = inner} e) (inr place) =
    absurd (true≢false (ap (λ l. has_place (Written m (Repeated word (Some ranges) inner)) l) (sym e) ∙ ap (λ b.
    has_place b limit) (one_base (itself refl) place.0.1) ∙
    place.0.2))
misplaced_noted ms m of limit token kind (alternatives {limits = limits} contains) fault =
    any_noted (LimitFaults ms m of) limits limit token kind contains fault
misplaced_noted ms m of limit token kind (plain {limits = limits} contains) fault =
    any_noted (LimitFaults ms m of) limits limit token kind contains fault
misplaced_noted ms m of limit token kind (reference {limits = limits} contains) fault =
    any_noted (LimitFaults ms m of) limits limit token kind contains fault

-- ---- the sentences

type_noted : (ms : List ModuleTerm) (document token : ℕ) → UnknownTypeAt ms document token →
    AllFaults ms TypeUnknown document token
type_noted ms document token (imported {m = m} {text = text} {symbol = symbol} by contains there nothing at) =
    import_noted ms document m text token TypeUnknown by
    (inr (any_noted (SymbolFaults ms text.module_name) text.symbols symbol token TypeUnknown contains
    ((there, nothing), at, refl)))
type_noted ms document token (of_module {m = m} stands there no_type at) =
    head_noted ms document m _ token TypeUnknown stands (inr ((there, no_type), at, refl))
type_noted ms document token (alone {m = m} stands no_type not_other at) =
    head_noted ms document m _ token TypeUnknown stands (inl ((no_type, not_other), at, refl))
type_noted ms document token (tag_number {m = m} {tag = tag} stands e no_value at) =
    head_noted ms document m _ token TypeUnknown stands
    (inl (subst (λ n. IsUnknown ms m n) (sym e) no_value, ap (λ n. (number_token n).at) e ∙ at, refl))
type_noted ms document token (named_number {m = m} {of = of} {name = name} stands is no_value at) =
    head_noted ms document m of token TypeUnknown stands
    (number_noted ms m of (Called name) token TypeUnknown is (inl (no_value, at, refl)))
type_noted ms document token (bound {m = m} {of = of} {name = name} stands is not_named no_value at) =
    constraint_noted ms document m of token TypeUnknown stands
    (bound_noted ms m of (Called name) token TypeUnknown is (inl ((not_named, no_value), at, refl)))

module_noted : (ms : List ModuleTerm) (document token : ℕ) → UnknownModuleAt ms document token →
    AllFaults ms ModuleUnknown document token
module_noted ms document token (no_module_imported {m = m} {text = text} by absent at) =
    import_noted ms document m text token ModuleUnknown by (inl (absent, at, refl))
module_noted ms document token (no_module {m = m} stands absent at) =
    head_noted ms document m _ token ModuleUnknown stands (inl (absent, at, refl))

cyclic_noted : (ms : List ModuleTerm) (document token : ℕ) → CyclicTypeAt ms document token →
    AllFaults ms TypeCyclic document token
cyclic_noted ms document token fault =
    let number = number_of ms fault.m fault.in_module fault.i fault.assignment fault.is_in.module_at fault.stands in
    inr (
      number.0,
      numbered_within ms number.0 _ number.1,
      (
        _,
        number.1,
        fault.in_module,
        fault.is_in,
        inl (inr (fault.cyclic, fault.at, refl)),
      ),
    )

large_noted : (ms : List ModuleTerm) (document m : ℕ) (of : TypeTerm) → Assigns ms document m of → IsLarge ms m of →
    AllFaults ms (NotSupported TooManyNodes) document (first_word of).at
large_noted ms document m of assigns large =
    assignment_noted ms document m of (first_word of).at (NotSupported TooManyNodes) assigns (λ i at. inl (inl (
      subst (λ t. IsLarge ms m t) (sym assigns.is_of) large,
      ap (λ t. (first_word t).at) assigns.is_of,
      refl,
    )))

unsupported_noted : (ms : List ModuleTerm) (document token : ℕ) (kind : UnsupportedKind) →
    UnsupportedAt ms document token kind → AllFaults ms (NotSupported kind) document token
unsupported_noted ms document token kind (type_word {m = m} stands other at) =
    head_noted ms document m _ token (NotSupported TypeWord) stands (inr (other, at, refl))
unsupported_noted ms document token kind (other_word {m = m} stands no_word at) =
    head_noted ms document m _ token (NotSupported TypeWord) stands (no_word, at, refl)
unsupported_noted ms document token kind (too_many_nodes {m = m} {n = n} {of = of} assigns nodes many at) =
    subst (λ t. AllFaults ms (NotSupported TooManyNodes) document t) at
    (large_noted ms document m of assigns (n, nodes, many))
unsupported_noted ms document token kind (wide_tag {m = m} stands known no_tag at) =
    head_noted ms document m _ token (NotSupported TagNumber) stands (inr ((known, no_tag), at, refl))
unsupported_noted ms document token kind (wide_number {m = m} {of = of} {number = number} stands is known wide at) =
    head_noted ms document m of token (NotSupported WideNumber) stands
    (number_noted ms m of number token (NotSupported WideNumber) is (inr ((known, wide), at, refl)))
unsupported_noted ms document token kind (wide_bound {m = m} {of = of} {number = number} stands is known wide at) =
    constraint_noted ms document m of token (NotSupported WideNumber) stands
    (bound_noted ms m of number token (NotSupported WideNumber) is (inr ((known, wide), at, refl)))
unsupported_noted ms document token kind (misplaced {m = m} {of = of} {limit = limit} {base = base} stands is has
    no_place at) =
    constraint_noted ms document m of token (NotSupported MisplacedConstraint) stands
    (misplaced_noted ms m of limit token (NotSupported MisplacedConstraint) is
    (inr ((base, has, no_place), at, refl)))

-- ---- tags in a type of too many nodes

-- a type that has too many nodes, of which the first word stands in this document, no later than the token where
-- modules
-- are in order
abbrev pub IsBehindLarge : List ModuleTerm → ℕ → ℕ → Type 0
IsBehindLarge ms document token = (at : ℕ) × AllFaults ms (NotSupported TooManyNodes) document at
    × (AreInOrder ms → at ≤ token)

sized : (ms : List ModuleTerm) (document m : ℕ) (of : TypeTerm) → AreCounted ms → Assigns ms document m of →
    IsFew ms m of ⊎ IsLarge ms m of
sized ms document m of counted assigns =
    let got = contained_get assigns.in_module.assignments assigns.assignment assigns.stands in
    let number = number_of ms m assigns.in_module got.0 assigns.assignment assigns.is_in.module_at got.1 in
    let nodes = counted number.0 m of (record {
      numbered = _;
      at = number.1;
      module_is = refl;
      is = assigns.is_of;
    }) in
    elim (cases_lt 10000 nodes.0) as (λ _. IsFew ms m of ⊎ IsLarge ms m of) [
      | inl many ↦ inr (nodes.0, nodes.1, many)
      | inr most ↦ inl (nodes.0, nodes.1, most)
    ]

tags_noted : (ms : List ModuleTerm) (document token : ℕ) → AreCounted ms → AmbiguousTagsAt ms document token →
    AllFaults ms TagsAmbiguous document token ⊎ IsBehindLarge ms document token
tags_noted ms document token counted fault =
    let word = ap (λ (w : Token). w.at) (ambiguous_word fault.ambiguous) in
    elim (sized ms document fault.m fault.stands.of counted fault.stands.assigned) as
    (λ _. AllFaults ms TagsAmbiguous document token ⊎ IsBehindLarge ms document token) [
      | inl few ↦ inl (own_noted ms document fault.m fault.of token TagsAmbiguous fault.stands
          (inl (inl ((few, (fault.word, fault.ambiguous)), sym word ∙ fault.at, refl))))
      | inr large ↦ inr (
        (first_word fault.stands.of).at,
        large_noted ms document fault.m fault.stands.of fault.stands.assigned large,
        λ order. (let before = order document fault.m fault.stands.of fault.of fault.stands.assigned
            fault.stands.within in
            subst (λ n. (first_word fault.stands.of).at ≤ n) (sym word ∙ fault.at) before),
      )
    ]

-- a fault is one of those that are noted, or stands behind one
pub all_noted : (ms : List ModuleTerm) (kind : FaultKind) (document token : ℕ) → AreCounted ms →
    HasFault ms kind document token →
    AllFaults ms kind document token ⊎ ((kind ≡ TagsAmbiguous) × IsBehindLarge ms document token)
all_noted ms TypeUnknown document token counted fault = inl (type_noted ms document token fault)
all_noted ms ModuleUnknown document token counted fault = inl (module_noted ms document token fault)
all_noted ms TypeCyclic document token counted fault = inl (cyclic_noted ms document token fault)
all_noted ms (NotSupported kind) document token counted fault = inl (unsupported_noted ms document token kind fault)
all_noted ms TagsAmbiguous document token counted fault =
    elim (tags_noted ms document token counted fault) as
    (λ _. AllFaults ms TagsAmbiguous document token ⊎ ((TagsAmbiguous ≡ TagsAmbiguous) × IsBehindLarge ms document
    token)) [
      | inl noted ↦ inl noted
      | inr behind ↦ inr (refl, behind)
    ]

-- ---- the first fault

pub none_wrong : (ms : List ModuleTerm) → AreCounted ms → IsFirstOf (AllFaults ms) None → AreFaultless ms
none_wrong ms counted h kind document token fault =
    elim (all_noted ms kind document token counted fault) as (λ _. ⊥) [
      | inl noted ↦ (let found = h.least kind document token noted in let e = found.1 in absurd (cc))
      | inr late ↦ (
          let found = h.least (NotSupported TooManyNodes) document late.1.0 late.1.1 in
          let e = found.1 in absurd (cc))
    ]

behind_large : (document at token : ℕ) → at ≤ token →
    IsNoLater (NotSupported TooManyNodes) document at TagsAmbiguous document token
behind_large document at token before =
    elim (cases_lt at token) as (λ _. IsNoLater (NotSupported TooManyNodes) document at TagsAmbiguous document token) [
      | inl below ↦ earlier_token refl below
      | inr past ↦ at_one_token refl (omega (arith, before, past)) (omega arith)
    ]

pub first_is : (ms : List ModuleTerm) (x : ModuleFault) → AreCounted ms → IsFirstOf (AllFaults ms) (Some x) →
    AreInOrder ms → IsFirstFault ms (kind_of x.kind) x.document x.token
first_is ms x counted h order = record {
  there = all_found ms (kind_of x.kind) x.document x.token (h.there x refl);
  least = λ kind document token fault. elim (all_noted ms kind document token counted fault) as
      (λ _. IsNoLater (kind_of x.kind) x.document x.token kind document token) [
        | inl noted ↦ (
            let found = h.least kind document token noted in
            subst (λ (y : ModuleFault). IsNoLater (kind_of y.kind) y.document y.token kind document token)
            (sym (some_is x found.0 found.1)) found.2)
        | inr late ↦ (
            let found = h.least (NotSupported TooManyNodes) document late.1.0 late.1.1 in
            subst (λ k. IsNoLater (kind_of x.kind) x.document x.token k document token) (sym late.0)
            (no_later (subst (λ (y : ModuleFault). IsNoLater (kind_of y.kind) y.document y.token
            (NotSupported TooManyNodes) document late.1.0) (sym (some_is x found.0 found.1)) found.2)
            (behind_large document late.1.0 token (late.1.2 order))))
      ];
}
