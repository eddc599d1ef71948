-- FoundFaults: each fault of a type, of an assignment and of an import is one of the sentences (docs/PROFILE.md,
-- section 11).
use Rattle.std.proofs.Common.{◌≡◌, ◌∙◌, ◌<◌, ℕ, zero, suc, List, [], ◌∷◌, Option, None, Some, Contains, refl, ap}
use Rattle.std.proofs.Common.{sym, inl, inr}
use Rattle.std.proofs.Common.{arith, length, slice_get}
use Rattle.std.specs.Prelude.{slice_index_or}
use Rattle.std.proofs.Math.Path.{subst}
use Rattle.token_grammar.specs.declared.token.Token.{Token}
use Rattle.asn1_names.specs.AssignmentNumbers.{Numbered, numbered_at}
use Rattle.asn1_names.specs.Constraining.{limit_ranges}
use Rattle.asn1_names.specs.FirstModuleFault.{FaultKind, HasFault}
use Rattle.asn1_names.specs.ModuleFaults.{UnknownTypeAt}
use Rattle.asn1_names.specs.ModuleFaults.UnknownTypeAt.{imported, of_module, alone, tag_number, named_number, bound}
use Rattle.asn1_names.specs.ModuleFaults.UnknownModuleAt.{imported as no_module_imported, of_module as no_module}
use Rattle.asn1_names.specs.ModuleFaults.UnsupportedAt.{type_word, other_word, too_many_nodes, misplaced}
use Rattle.asn1_names.specs.ModuleFaults.UnsupportedAt.{tag_number as wide_tag, named_number as wide_number}
use Rattle.asn1_names.specs.ModuleFaults.UnsupportedAt.{bound as wide_bound}
use Rattle.asn1_names.specs.ModuleTerms.{NumberTerm, NamedNumberTerm, LimitTerm, TagTerm, PlainTerm}
use Rattle.asn1_names.specs.ModuleTerms.{TypeTerm, ModuleTerm}
use Rattle.asn1_names.specs.ModuleTerms.LimitTerm.{SizeLimit}
use Rattle.asn1_names.specs.ModuleTerms.NumberTerm.{Digits, Called}
use Rattle.asn1_names.specs.ModuleTerms.PlainTerm.{OneWord, IntegerTerm, EnumeratedTerm, BitStringTerm}
use Rattle.asn1_names.specs.ModuleTerms.PlainTerm.{OctetStringTerm, IdentifierTerm, AnyTerm}
use Rattle.asn1_names.specs.ModuleTerms.TypeTerm.{Under, Structure, Repeated, Alternatives, Plain, Reference}
use Rattle.asn1_names.specs.NumbersFound.{IsUnknown}
use Rattle.asn1_names.specs.Occurrences.{Assigns, ImportsBy, IsBoundOf, IsIn, IsLimitOf, IsNumberOf, Stands}
use Rattle.asn1_names.specs.Occurrences.{first_word, number_token, type_assigned}
use Rattle.asn1_names.specs.Occurrences.IsLimitOf.{structure as structure_limit, list_size}
use Rattle.asn1_names.specs.Occurrences.IsLimitOf.{alternatives as choice_limit}
use Rattle.asn1_names.specs.Occurrences.IsLimitOf.{plain as plain_limit, reference as name_limit}
use Rattle.asn1_names.specs.Occurrences.IsNumberOf.{named_number as integer_number, item, named_bit}
use Rattle.asn1_names.specs.TagClashes.{IsAmbiguous}
use Rattle.asn1_names.specs.TagClashes.IsAmbiguous.{choice, set, sequence}
use Rattle.asn1_names.proofs.TableAnswers.{some_is}
use Rattle.asn1_resolve.specs.AllFaults.{AllFaults, AssignmentFaults, ImportFaults}
use Rattle.asn1_resolve.specs.FaultSets.{AnyOf, OneFault}
use Rattle.asn1_resolve.specs.TypeFaults.{BoundFaults, ConstraintFaults, HeadFaults, LimitFaults, NameFaults}
use Rattle.asn1_resolve.specs.TypeFaults.{NumberFaults, OwnFaults, PlainFaults, RangeFaults, TagFaults}
use Rattle.asn1_resolve.specs.TypeFaults.{UpperFaults}
use Rattle.asn1_resolve.proofs.PlaceLaws.{numbered_in}

-- ---- the elements of a list

pub any_found : {X : Type 0} (Faults : X → ℕ → FaultKind → Type 0) (xs : List X) (token : ℕ) (kind : FaultKind) →
    AnyOf Faults xs token kind → (x : X) × Contains xs x × Faults x token kind
any_found Faults [] token kind fault = absurd fault
any_found Faults (x ∷ xs) token kind (inl here) = (x, (0, omega arith, refl), here)
any_found Faults (x ∷ xs) token kind (inr rest) =
    let found = any_found Faults xs token kind rest in
    let within = found.1.1 in (found.0, (suc found.1.0, omega (arith, within), found.1.2), found.2)

pub any_noted : {X : Type 0} (Faults : X → ℕ → FaultKind → Type 0) (xs : List X) (x : X) (token : ℕ)
    (kind : FaultKind) → Contains xs x → Faults x token kind → AnyOf Faults xs token kind
any_noted {X} Faults xs x token kind (k, within, is) fault = by xs k within is
  where
    by : (ys : List X) (j : ℕ) → j < length ys → slice_index_or ys j x ≡ x → AnyOf Faults ys token kind
    by [] j within is = absurd (omega (arith, within))
    by (y ∷ ys) zero within is = inl (subst (λ z. Faults z token kind) (sym is) fault)
    by (y ∷ ys) (suc j) within is = inr (by ys j (omega (arith, within)) is)

pub get_contained : {X : Type 0} (xs : List X) (k : ℕ) (x : X) → slice_get xs k ≡ Some x → Contains xs x
get_contained [] k x is = absurd (cc)
get_contained (y ∷ xs) zero x is = (0, omega arith, some_is y x is)
get_contained (y ∷ xs) (suc k) x is =
    let rest = get_contained xs k x is in
    let within = rest.1 in (suc rest.0, omega (arith, within), rest.2)

pub contained_get : {X : Type 0} (xs : List X) (x : X) → Contains xs x → (k : ℕ) × (slice_get xs k ≡ Some x)
contained_get {X} xs x (k, within, is) = by xs k within is
  where
    by : (ys : List X) (j : ℕ) → j < length ys → slice_index_or ys j x ≡ x → (k : ℕ) × (slice_get ys k ≡ Some x)
    by [] j within is = absurd (omega (arith, within))
    by (y ∷ ys) zero within is = (0, ap (λ z. Some z) is)
    by (y ∷ ys) (suc j) within is = let rest = by ys j (omega (arith, within)) is in (suc rest.0, rest.1)

-- ---- the sentence of one fault

one_found : (ms : List ModuleTerm) (document : ℕ) {Holds : Type 0} {at token : ℕ} {its kind : FaultKind} →
    OneFault Holds at its token kind → (Holds → at ≡ token → HasFault ms its document token) →
    HasFault ms kind document token
one_found ms document {token = token} fault make =
    subst (λ k. HasFault ms k document token) fault.2 (make fault.0 fault.1)

name_found : (ms : List ModuleTerm) (document m : ℕ) (module_name : Option Token) (name : Token)
    (limits : List LimitTerm) (token : ℕ) (kind : FaultKind) →
    Stands ms document m (Reference module_name name limits) → NameFaults ms m module_name name token kind →
    HasFault ms kind document token
name_found ms document m None name limits token kind stands (inl fault) =
    one_found ms document fault (λ h at. alone stands h.0 h.1 at)
name_found ms document m None name limits token kind stands (inr fault) =
    one_found ms document fault (λ h at. type_word stands h at)
name_found ms document m (Some of) name limits token kind stands (inl fault) =
    one_found ms document fault (λ h at. no_module stands h at)
name_found ms document m (Some of) name limits token kind stands (inr fault) =
    one_found ms document fault (λ h at. of_module stands h.0 h.1 at)

number_found : (ms : List ModuleTerm) (document m : ℕ) (of : TypeTerm) (number : NumberTerm) (token : ℕ)
    (kind : FaultKind) → Stands ms document m of → IsNumberOf number of → NumberFaults ms m number token kind →
    HasFault ms kind document token
number_found ms document m of (Digits minus digits) token kind stands is (inl fault) = absurd fault.0
number_found ms document m of (Called name) token kind stands is (inl fault) =
    one_found ms document fault (λ h at. named_number stands is h at)
number_found ms document m of number token kind stands is (inr fault) =
    one_found ms document fault (λ h at. wide_number stands is h.0 h.1 at)

unknown_tag : (ms : List ModuleTerm) (document m : ℕ) (tag : TagTerm) (mode : Option Token) (of : TypeTerm)
    (token : ℕ) (number : NumberTerm) → Stands ms document m (Under tag mode of) → tag.number ≡ number →
    IsUnknown ms m number → (number_token number).at ≡ token → UnknownTypeAt ms document token
unknown_tag ms document m tag mode of token (Digits minus digits) stands is h at = absurd h
unknown_tag ms document m tag mode of token (Called name) stands is h at = tag_number stands is h at

tag_found : (ms : List ModuleTerm) (document m : ℕ) (tag : TagTerm) (mode : Option Token) (of : TypeTerm)
    (token : ℕ) (kind : FaultKind) → Stands ms document m (Under tag mode of) → TagFaults ms m tag token kind →
    HasFault ms kind document token
tag_found ms document m tag mode of token kind stands (inl fault) =
    one_found ms document fault (λ h at. unknown_tag ms document m tag mode of token tag.number stands refl h at)
tag_found ms document m tag mode of token kind stands (inr fault) =
    one_found ms document fault (λ h at. wide_tag stands h.0 h.1 at)

bound_found : (ms : List ModuleTerm) (document m : ℕ) (of : TypeTerm) (number : NumberTerm) (token : ℕ)
    (kind : FaultKind) → Stands ms document m of → IsBoundOf number of → BoundFaults ms m of number token kind →
    HasFault ms kind document token
bound_found ms document m of (Digits minus digits) token kind stands is (inl fault) = absurd fault.0
bound_found ms document m of (Called name) token kind stands is (inl fault) =
    one_found ms document fault (λ h at. bound stands is h.0 h.1 at)
bound_found ms document m of number token kind stands is (inr fault) =
    one_found ms document fault (λ h at. wide_bound stands is h.0 h.1 at)

upper_found : (ms : List ModuleTerm) (document m : ℕ) (of : TypeTerm) (upper : Option NumberTerm) (token : ℕ)
    (kind : FaultKind) → Stands ms document m of → ((number : NumberTerm) → upper ≡ Some number → IsBoundOf number of) →
    UpperFaults ms m of upper token kind → HasFault ms kind document token
upper_found ms document m of None token kind stands is fault = absurd fault
upper_found ms document m of (Some number) token kind stands is fault =
    bound_found ms document m of number token kind stands (is number refl) fault

ranges_found : (ms : List ModuleTerm) (document m : ℕ) (of : TypeTerm) (limit : LimitTerm) (token : ℕ)
    (kind : FaultKind) → Stands ms document m of → IsLimitOf limit of →
    AnyOf (RangeFaults ms m of) (limit_ranges limit) token kind → HasFault ms kind document token
ranges_found ms document m of limit token kind stands is fault =
    let found = any_found (RangeFaults ms m of) (limit_ranges limit) token kind fault in
    elim found.2 as (λ _. HasFault ms kind document token) [
      | inl lower ↦ bound_found ms document m of found.0.lower token kind stands (record {
        limit = limit;
        is_limit = is;
        range = found.0;
        stands = found.1;
        is = inl refl;
      }) lower
      | inr upper ↦ upper_found ms document m of found.0.upper token kind stands (λ number e. record {
        limit = limit;
        is_limit = is;
        range = found.0;
        stands = found.1;
        is = inr e;
      }) upper
    ]

limits_found : (ms : List ModuleTerm) (document m : ℕ) (of : TypeTerm) (limits : List LimitTerm) (token : ℕ)
    (kind : FaultKind) → Stands ms document m of → ((limit : LimitTerm) → Contains limits limit → IsLimitOf limit of) →
    AnyOf (LimitFaults ms m of) limits token kind → HasFault ms kind document token
limits_found ms document m of limits token kind stands is fault =
    let found = any_found (LimitFaults ms m of) limits token kind fault in
    elim found.2 as (λ _. HasFault ms kind document token) [
      | inl bounds ↦ ranges_found ms document m of found.0 token kind stands (is found.0 found.1) bounds
      | inr place ↦ one_found ms document place (λ h at. misplaced stands (is found.0 found.1) h.1 h.2 at)
    ]

constraint_found : (ms : List ModuleTerm) (document m : ℕ) (of : TypeTerm) (token : ℕ) (kind : FaultKind) →
    Stands ms document m of → ConstraintFaults ms m of token kind → HasFault ms kind document token
constraint_found ms document m (Under tag mode of) token kind stands fault = absurd fault
constraint_found ms document m (Structure word _ limits) token kind stands fault =
    limits_found ms document m _ limits token kind stands (λ limit h. structure_limit h) fault
constraint_found ms document m (Repeated word None of) token kind stands fault = absurd fault
constraint_found ms document m (Repeated word (Some ranges) of) token kind stands fault =
    ranges_found ms document m _ (SizeLimit ranges) token kind stands (list_size refl) fault
constraint_found ms document m (Alternatives word _ limits) token kind stands fault =
    limits_found ms document m _ limits token kind stands (λ limit h. choice_limit h) fault
constraint_found ms document m (Plain word plain limits) token kind stands fault =
    limits_found ms document m _ limits token kind stands (λ limit h. plain_limit h) fault
constraint_found ms document m (Reference module_name name limits) token kind stands fault =
    limits_found ms document m _ limits token kind stands (λ limit h. name_limit h) fault

listed_found : (ms : List ModuleTerm) (document m : ℕ) (of : TypeTerm) (xs : List NamedNumberTerm) (token : ℕ)
    (kind : FaultKind) → Stands ms document m of →
    ((x : NamedNumberTerm) → Contains xs x → IsNumberOf x.number of) →
    AnyOf (λ (x : NamedNumberTerm). NumberFaults ms m x.number) xs token kind → HasFault ms kind document token
listed_found ms document m of xs token kind stands is fault =
    let found = any_found (λ (x : NamedNumberTerm). NumberFaults ms m x.number) xs token kind fault in
    number_found ms document m of found.0.number token kind stands (is found.0 found.1) found.2

plain_found : (ms : List ModuleTerm) (document m : ℕ) (word : Token) (of : PlainTerm) (limits : List LimitTerm)
    (token : ℕ) (kind : FaultKind) → Stands ms document m (Plain word of limits) → PlainFaults ms m word of token kind →
    HasFault ms kind document token
plain_found ms document m word OneWord limits token kind stands fault =
    one_found ms document fault (λ h at. other_word stands h at)
plain_found ms document m word (IntegerTerm numbers) limits token kind stands fault =
    listed_found ms document m _ numbers token kind stands (λ x h. integer_number h refl) fault
plain_found ms document m word (EnumeratedTerm items) limits token kind stands fault =
    listed_found ms document m _ items token kind stands (λ x h. item h refl) fault
plain_found ms document m word (BitStringTerm bits) limits token kind stands fault =
    listed_found ms document m _ bits token kind stands (λ x h. named_bit h refl) fault
plain_found ms document m word OctetStringTerm limits token kind stands fault = absurd fault
plain_found ms document m word IdentifierTerm limits token kind stands fault = absurd fault
plain_found ms document m word AnyTerm limits token kind stands fault = absurd fault

head_found : (ms : List ModuleTerm) (document m : ℕ) (of : TypeTerm) (token : ℕ) (kind : FaultKind) →
    Stands ms document m of → HeadFaults ms m of token kind → HasFault ms kind document token
head_found ms document m (Under tag mode of) token kind stands fault =
    tag_found ms document m tag mode of token kind stands fault
head_found ms document m (Structure word _ limits) token kind stands fault = absurd fault
head_found ms document m (Repeated word size of) token kind stands fault = absurd fault
head_found ms document m (Alternatives word _ limits) token kind stands fault = absurd fault
head_found ms document m (Plain word of limits) token kind stands fault =
    plain_found ms document m word of limits token kind stands fault
head_found ms document m (Reference module_name name limits) token kind stands fault =
    name_found ms document m module_name name limits token kind stands fault

pub ambiguous_word : {ms : List ModuleTerm} {m : ℕ} {of : TypeTerm} {word : Token} → IsAmbiguous ms m of word →
    word ≡ first_word of
ambiguous_word (choice h) = refl
ambiguous_word (set is h) = refl
ambiguous_word (sequence is h) = refl

own_found : (Told : Type 0) (ms : List ModuleTerm) (document m : ℕ) (of : TypeTerm) (token : ℕ) (kind : FaultKind) →
    Stands ms document m of → OwnFaults Told ms m of token kind → HasFault ms kind document token
own_found Told ms document m of token kind stands (inl (inl tags)) = one_found ms document tags (λ h at. record {
  m = m;
  of = of;
  stands = stands;
  word = h.1.0;
  ambiguous = h.1.1;
  at = ap (λ (w : Token). w.at) (ambiguous_word h.1.1) ∙ at;
})
own_found Told ms document m of token kind stands (inl (inr constraints)) =
    constraint_found ms document m of token kind stands constraints
own_found Told ms document m of token kind stands (inr head) =
    head_found ms document m of token kind stands head

-- ---- assignments and imports

pub assigns_of : (ms : List ModuleTerm) (document number : ℕ) (x : Numbered) (home : ModuleTerm) →
    numbered_at ms number ≡ Some x → IsIn ms document x.in_module home →
    slice_get home.assignments x.place ≡ Some x.assignment
assigns_of ms document number x home at is_in =
    let found = numbered_in ms number x at in
    subst (λ (y : ModuleTerm). slice_get y.assignments x.place ≡ Some x.assignment)
    (some_is found.0 home (sym found.1 ∙ is_in.module_at)) found.2

pub assignment_found : (ms : List ModuleTerm) (document number : ℕ) (x : Numbered) (home : ModuleTerm) (token : ℕ)
    (kind : FaultKind) → numbered_at ms number ≡ Some x → IsIn ms document x.in_module home →
    AssignmentFaults ms x token kind → HasFault ms kind document token
assignment_found ms document number x home token kind at is_in fault =
    let stands = assigns_of ms document number x home at is_in in
    let assigns : Assigns ms document x.in_module (type_assigned x.assignment.assigned) = record {
      in_module = home;
      is_in = is_in;
      assignment = x.assignment;
      stands = get_contained home.assignments x.place x.assignment stands;
      is_of = refl;
    } in
    elim fault as (λ _. HasFault ms kind document token) [
      | inl own ↦ elim own as (λ _. HasFault ms kind document token) [
        | inl nodes ↦ one_found ms document nodes (λ h e. too_many_nodes assigns h.1 h.2 e)
        | inr cycle ↦ one_found ms document cycle (λ h e. record {
          m = x.in_module;
          in_module = home;
          is_in = is_in;
          i = x.place;
          assignment = x.assignment;
          stands = stands;
          cyclic = h;
          at = e;
        })
      ]
      | inr inner ↦ own_found _ ms document x.in_module inner.0 token kind (record {
        of = type_assigned x.assignment.assigned;
        assigned = assigns;
        within = inner.1;
      }) inner.2
    ]

pub import_found : (ms : List ModuleTerm) (document m : ℕ) (home : ModuleTerm) (token : ℕ) (kind : FaultKind) →
    IsIn ms document m home → AnyOf (ImportFaults ms) home.imports token kind → HasFault ms kind document token
import_found ms document m home token kind is_in fault =
    let found = any_found (ImportFaults ms) home.imports token kind fault in
    let by : ImportsBy ms document m found.0 = record { in_module = home; is_in = is_in; stands = found.1 } in
    elim found.2 as (λ _. HasFault ms kind document token) [
      | inl absent ↦ one_found ms document absent (λ h at. no_module_imported by h at)
      | inr symbols ↦ (
          let symbol = any_found _ found.0.symbols token kind symbols in
          one_found ms document symbol.2 (λ h at. imported by symbol.1 h.0 h.1 at))
    ]

pub all_found : (ms : List ModuleTerm) (kind : FaultKind) (document token : ℕ) → AllFaults ms kind document token →
    HasFault ms kind document token
all_found ms kind document token (inl (m, within, (home, is_in, fault))) =
    import_found ms document m home token kind is_in fault
all_found ms kind document token (inr (number, within, (x, at, home, is_in, fault))) =
    assignment_found ms document number x home token kind at is_in fault
