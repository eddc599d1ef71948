-- RowLaws: the components and alternatives that are held in the text of a type, as the lists of them, and the faults of
-- the type with those of its lists (docs/PROFILE.md, section 11).
use Rattle.std.proofs.Common.{◌≡◌, ◌∙◌, ◌+◌, ◌<◌, ◌≤◌, ◌++◌, ℕ, zero, suc, List, [], ◌∷◌, Option, Some, refl, ap}
use Rattle.std.proofs.Common.{sym, inl, inr}
use Rattle.std.proofs.Common.{arith, get_or, length, take}
use Rattle.std.proofs.Math.Path.{subst}
use Rattle.std.proofs.lemmas.List.{take_all}
use Rattle.std.specs.declared.alloc.Global.{Global}
use Rattle.std.specs.declared.vec.Vec.{Vec}
use Rattle.token_grammar.specs.declared.token.Token.{Token}
use Rattle.asn1_values_syntax.specs.declared.constraint.Constraint.{Constraint}
use Rattle.asn1_syntax.specs.declared.plain_type.PlainType.{PlainType}
use Rattle.asn1_syntax.specs.declared.plain_type.PlainType.TheVariants as plain
use Rattle.asn1_syntax.specs.declared.type_text.Alternative.{Alternative}
use Rattle.asn1_syntax.specs.declared.type_text.Component.{Component}
use Rattle.asn1_syntax.specs.declared.type_text.StructureText.{Row_of-Component, end_of-Component, more_of-Component}
use Rattle.asn1_syntax.specs.declared.type_text.StructureText.{items-the_row-Component}
use Rattle.asn1_syntax.specs.declared.type_text.StructureText.{items_hidden-the_row-Component-0}
use Rattle.asn1_syntax.specs.declared.type_text.StructureText.TheBlock.{hidden-the_row-Component-0}
use Rattle.asn1_syntax.specs.declared.type_text.StructureText.TheBlock.{hidden-the_row-Alternative-1}
use Rattle.asn1_syntax.specs.declared.type_text.StructureText.TheVariants.{Components}
use Rattle.asn1_syntax.specs.declared.type_text.TypeText.{Row_of-Alternative, end_of-Alternative, more_of-Alternative}
use Rattle.asn1_syntax.specs.declared.type_text.TypeText.{items-the_row-Alternative, items_hidden-the_row-Alternative-1}
use Rattle.asn1_syntax.specs.declared.type_text.TypeText.TheVariants.{Choice, Structured}
use Rattle.asn1_names.specs.declared.first_fault.ModuleFault.{ModuleFault}
use Rattle.asn1_names.specs.FirstModuleFault.{FaultKind}
use Rattle.asn1_names.specs.Containment.{IsMember}
use Rattle.asn1_names.specs.Containment.IsMember.{first as first_member, behind}
use Rattle.asn1_names.specs.ModuleTerms.{LimitTerm, MemberTerms, ModuleTerm, PresenceTerm, RangeTerm, TagTerm, TypeTerm}
use Rattle.asn1_names.specs.ModuleTerms.MemberTerms.{NoMembers, Member}
use Rattle.asn1_names.specs.ModuleTerms.PresenceTerm.{Needed}
use Rattle.asn1_names.specs.ModuleTerms.TypeTerm.{Alternatives, Repeated, Structure, Under}
use Rattle.asn1_names.specs.TermViews.{alternative_terms, limit_terms, plain_term, presence_term}
use Rattle.asn1_names.specs.TermViews.{row_terms, type_term}
use Rattle.asn1_names.proofs.NumberLaws.{more}
use Rattle.asn1_names.proofs.WalkLaws.{named_is}
use Rattle.asn1_resolve.specs.FaultSets.{AnyOf, Either, In, IsEarlier, IsFirstOf}
use Rattle.asn1_resolve.specs.TypeFaults.{MemberFaults, OwnFaults, TypeFaults}
use Rattle.asn1_resolve.proofs.FirstFaults.{SameIn, any_cases, any_front, any_last, either_both, in_by}
use Rattle.asn1_resolve.proofs.TypeLaws.{alternatives_faults, plain_faults, reference_faults, repeated_faults}
use Rattle.asn1_resolve.proofs.TypeLaws.{structure_faults, under_faults}

-- ---- the rows

abbrev pub component_members : List Component → MemberTerms
component_members [] = NoMembers
component_members (x ∷ xs) = Member x.name (type_term x.of) (presence_term x.presence) (component_members xs)

abbrev pub alternative_members : List Alternative → MemberTerms
alternative_members [] = NoMembers
alternative_members (x ∷ xs) = Member x.name (type_term x.of) Needed (alternative_members xs)

components-list : {n : _} (row : Row_of-Component n) → row_terms row ≡
    component_members (items-the_row-Component n row)
components-list end_of-Component = refl
components-list (more_of-Component name of presence others) =
    ap (λ rest. Member name (type_term of) (presence_term presence) rest) (components-list others)

alternatives-list : {n : _} (row : Row_of-Alternative n) → alternative_terms row ≡
    alternative_members (items-the_row-Alternative n row)
alternatives-list end_of-Alternative = refl
alternatives-list (more_of-Alternative name of others) =
    ap (λ rest. Member name (type_term of) Needed rest) (alternatives-list others)

pub structure_type : (word : Token) (components : Vec Component Global) (constraints : Vec Constraint Global) →
    type_term (Structured word (Components (Some components) constraints)) ≡
    Structure word (component_members components.items) (limit_terms constraints)
structure_type word components constraints = ap (λ members. Structure word members (limit_terms constraints))
    (components-list (hidden-the_row-Component-0 components) ∙
    ap component_members (items_hidden-the_row-Component-0 components))

pub choice_type : (word : Token) (alternatives : Vec Alternative Global) (constraints : Vec Constraint Global) →
    type_term (Choice word alternatives constraints) ≡
    Alternatives word (alternative_members alternatives.items) (limit_terms constraints)
choice_type word alternatives constraints = ap (λ members. Alternatives word members (limit_terms constraints))
    (alternatives-list (hidden-the_row-Alternative-1 alternatives) ∙
    ap alternative_members (items_hidden-the_row-Alternative-1 alternatives))

-- ---- their elements

pub component_at : (xs : List Component) (i : ℕ) (x : Component) → i < length xs → x ≡ get_or xs i x →
    IsMember (component_members xs) i (type_term x.of) (presence_term x.presence)
component_at [] i x within is = absurd (omega (arith, within))
component_at (y ∷ ys) zero x within is =
    subst (λ (z : Component). IsMember (component_members (y ∷ ys)) 0 (type_term z.of) (presence_term z.presence))
    (sym is) first_member
component_at (y ∷ ys) (suc i) x within is = behind (component_at ys i x (omega (arith, within)) is)

pub alternative_at : (xs : List Alternative) (i : ℕ) (x : Alternative) → i < length xs → x ≡ get_or xs i x →
    IsMember (alternative_members xs) i (type_term x.of) Needed
alternative_at [] i x within is = absurd (omega (arith, within))
alternative_at (y ∷ ys) zero x within is =
    subst (λ (z : Alternative). IsMember (alternative_members (y ∷ ys)) 0 (type_term z.of) Needed) (sym is) first_member
alternative_at (y ∷ ys) (suc i) x within is = behind (alternative_at ys i x (omega (arith, within)) is)

abbrev pub ComponentFaults : Type 0 → List ModuleTerm → ℕ → Component → ℕ → FaultKind → Type 0
ComponentFaults Told ms m x = TypeFaults Told ms m (type_term x.of)

abbrev pub AlternativeFaults : Type 0 → List ModuleTerm → ℕ → Alternative → ℕ → FaultKind → Type 0
AlternativeFaults Told ms m x = TypeFaults Told ms m (type_term x.of)

any_component : (Told : Type 0) (ms : List ModuleTerm) (m : ℕ) (xs : List Component) (token : ℕ) (kind : FaultKind) →
    AnyOf (ComponentFaults Told ms m) xs token kind → MemberFaults Told ms m (component_members xs) token kind
any_component Told ms m [] token kind fault = absurd fault
any_component Told ms m (x ∷ xs) token kind (inl here) =
    (0, type_term x.of, presence_term x.presence, first_member, here)
any_component Told ms m (x ∷ xs) token kind (inr rest) =
    let found = any_component Told ms m xs token kind rest in
    (suc found.0, found.1, found.2, behind found.3, found.4)

component_any : (Told : Type 0) (ms : List ModuleTerm) (m : ℕ) (xs : List Component) (token : ℕ) (kind : FaultKind)
    (k : ℕ) (of : TypeTerm) (presence : PresenceTerm) → IsMember (component_members xs) k of presence →
    TypeFaults Told ms m of token kind → AnyOf (ComponentFaults Told ms m) xs token kind
component_any Told ms m [] token kind k of presence is fault = elim is [ ]
component_any Told ms m (x ∷ xs) token kind zero of presence first_member fault = inl fault
component_any Told ms m (x ∷ xs) token kind (suc k) of presence (behind is) fault =
    inr (component_any Told ms m xs token kind k of presence is fault)

any_alternative : (Told : Type 0) (ms : List ModuleTerm) (m : ℕ) (xs : List Alternative) (token : ℕ)
    (kind : FaultKind) → AnyOf (AlternativeFaults Told ms m) xs token kind →
    MemberFaults Told ms m (alternative_members xs) token kind
any_alternative Told ms m [] token kind fault = absurd fault
any_alternative Told ms m (x ∷ xs) token kind (inl here) = (0, type_term x.of, Needed, first_member, here)
any_alternative Told ms m (x ∷ xs) token kind (inr rest) =
    let found = any_alternative Told ms m xs token kind rest in
    (suc found.0, found.1, found.2, behind found.3, found.4)

alternative_any : (Told : Type 0) (ms : List ModuleTerm) (m : ℕ) (xs : List Alternative) (token : ℕ)
    (kind : FaultKind) (k : ℕ) (of : TypeTerm) (presence : PresenceTerm) →
    IsMember (alternative_members xs) k of presence → TypeFaults Told ms m of token kind →
    AnyOf (AlternativeFaults Told ms m) xs token kind
alternative_any Told ms m [] token kind k of presence is fault = elim is [ ]
alternative_any Told ms m (x ∷ xs) token kind zero of presence first_member fault = inl fault
alternative_any Told ms m (x ∷ xs) token kind (suc k) of presence (behind is) fault =
    inr (alternative_any Told ms m xs token kind k of presence is fault)

-- ---- a loop over members, behind the faults of the type itself

pub own_step : {X : Type 0} {document : ℕ} (Own : ℕ → FaultKind → Type 0) (Faults : X → ℕ → FaultKind → Type 0)
    (xs : List X) (i : ℕ) (x : X) {one other result : Option ModuleFault} → i < length xs → x ≡ get_or xs i x →
    IsEarlier one other result → IsFirstOf (In document (Either Own (AnyOf Faults (take i xs)))) one →
    IsFirstOf (In document (Faults x)) other →
    IsFirstOf (In document (Either Own (AnyOf Faults (take (i + 1) xs)))) result
own_step {document = document} Own Faults xs i x {result = result} within is h p q =
    subst (λ ys. IsFirstOf (In document (Either Own (AnyOf Faults ys))) result) (sym (more xs i x within is))
    (in_by (Either (Either Own (AnyOf Faults (take i xs))) (Faults x))
    (Either Own (AnyOf Faults (take i xs ++ x ∷ []))) (
      λ token kind fault. elim fault as (λ _. Either Own (AnyOf Faults (take i xs ++ x ∷ [])) token kind) [
        | inl before ↦ elim before as (λ _. Either Own (AnyOf Faults (take i xs ++ x ∷ [])) token kind) [
          | inl own ↦ inl own
          | inr any ↦ inr (any_front Faults (take i xs) x token kind any)
        ]
        | inr here ↦ inr (any_last Faults (take i xs) x token kind here)
      ],
      λ token kind fault. elim fault as (λ _. Either (Either Own (AnyOf Faults (take i xs))) (Faults x) token kind) [
        | inl own ↦ inl (inl own)
        | inr any ↦ elim (any_cases Faults (take i xs) x token kind any) as (λ _. Either
            (Either Own (AnyOf Faults (take i xs))) (Faults x) token kind) [
              | inl front ↦ inl (inr front)
              | inr here ↦ inr here
            ]
      ],
    ) (either_both (Either Own (AnyOf Faults (take i xs))) (Faults x) h p q))

pub own_start : {X : Type 0} {document : ℕ} (Own : ℕ → FaultKind → Type 0) (Faults : X → ℕ → FaultKind → Type 0)
    {result : Option ModuleFault} → IsFirstOf (In document Own) result →
    IsFirstOf (In document (Either Own (AnyOf Faults []))) result
own_start Own Faults h = in_by Own (Either Own (AnyOf Faults [])) (
  λ token kind fault. inl fault,
  λ token kind fault. elim fault as (λ _. Own token kind) [
    | inl own ↦ own
    | inr any ↦ absurd any
  ],
) h

abbrev Joined : (ℕ → FaultKind → Type 0) → (ℕ → FaultKind → Type 0) → (ℕ → FaultKind → Type 0) → Type 0
Joined Own One Other = SameIn (Either Own One) (Either Own Other)

joined : (Own One Other : ℕ → FaultKind → Type 0) → SameIn One Other → Joined Own One Other
joined Own One Other same = (
  λ token kind fault. elim fault as (λ _. Either Own Other token kind) [
    | inl own ↦ inl own
    | inr one ↦ inr (same.0 token kind one)
  ],
  λ token kind fault. elim fault as (λ _. Either Own One token kind) [
    | inl own ↦ inl own
    | inr other ↦ inr (same.1 token kind other)
  ],
)

pub structure_end : (Told : Type 0) (ms : List ModuleTerm) (document m : ℕ) (word : Token) (xs : List Component)
    (limits : List LimitTerm) (of : TypeTerm) (i : ℕ) (result : Option ModuleFault) →
    of ≡ Structure word (component_members xs) limits → length xs ≤ i →
    IsFirstOf (In document (Either (OwnFaults Told ms m of) (AnyOf (ComponentFaults Told ms m) (take i xs)))) result →
    IsFirstOf (In document (TypeFaults Told ms m of)) result
structure_end Told ms document m word xs limits of i result is past h =
    let whole = Structure word (component_members xs) limits in
    subst (λ t. IsFirstOf (In document (TypeFaults Told ms m t)) result) (sym is)
    (in_by (Either (OwnFaults Told ms m whole) (MemberFaults Told ms m (component_members xs)))
    (TypeFaults Told ms m whole) (structure_faults Told ms m word (component_members xs) limits)
    (in_by (Either (OwnFaults Told ms m whole) (AnyOf (ComponentFaults Told ms m) xs))
    (Either (OwnFaults Told ms m whole) (MemberFaults Told ms m (component_members xs)))
    (joined (OwnFaults Told ms m whole) (AnyOf (ComponentFaults Told ms m) xs)
    (MemberFaults Told ms m (component_members xs)) (
      any_component Told ms m xs,
      λ token kind fault. component_any Told ms m xs token kind fault.0 fault.1 fault.2 fault.3 fault.4,
    ))
    (subst (λ ys. IsFirstOf (In document (Either (OwnFaults Told ms m whole) (AnyOf (ComponentFaults Told ms m) ys)))
    result) (take_all i xs past) (subst (λ t. IsFirstOf (In document (Either (OwnFaults Told ms m t)
    (AnyOf (ComponentFaults Told ms m) (take i xs)))) result) is h))))

pub choice_end : (Told : Type 0) (ms : List ModuleTerm) (document m : ℕ) (word : Token) (xs : List Alternative)
    (limits : List LimitTerm) (of : TypeTerm) (i : ℕ) (result : Option ModuleFault) →
    of ≡ Alternatives word (alternative_members xs) limits → length xs ≤ i →
    IsFirstOf (In document (Either (OwnFaults Told ms m of) (AnyOf (AlternativeFaults Told ms m) (take i xs)))) result →
    IsFirstOf (In document (TypeFaults Told ms m of)) result
choice_end Told ms document m word xs limits of i result is past h =
    let whole = Alternatives word (alternative_members xs) limits in
    subst (λ t. IsFirstOf (In document (TypeFaults Told ms m t)) result) (sym is)
    (in_by (Either (OwnFaults Told ms m whole) (MemberFaults Told ms m (alternative_members xs)))
    (TypeFaults Told ms m whole) (alternatives_faults Told ms m word (alternative_members xs) limits)
    (in_by (Either (OwnFaults Told ms m whole) (AnyOf (AlternativeFaults Told ms m) xs))
    (Either (OwnFaults Told ms m whole) (MemberFaults Told ms m (alternative_members xs)))
    (joined (OwnFaults Told ms m whole) (AnyOf (AlternativeFaults Told ms m) xs)
    (MemberFaults Told ms m (alternative_members xs)) (
      any_alternative Told ms m xs,
      λ token kind fault. alternative_any Told ms m xs token kind fault.0 fault.1 fault.2 fault.3 fault.4,
    ))
    (subst (λ ys. IsFirstOf (In document (Either (OwnFaults Told ms m whole) (AnyOf (AlternativeFaults Told ms m) ys)))
    result) (take_all i xs past) (subst (λ t. IsFirstOf (In document (Either (OwnFaults Told ms m t)
    (AnyOf (AlternativeFaults Told ms m) (take i xs)))) result) is h))))

-- ---- a type that holds no other

pub plain_end : (Told : Type 0) (ms : List ModuleTerm) (document m : ℕ) (of : PlainType) (limits : List LimitTerm)
    (result : Option ModuleFault) → IsFirstOf (In document (OwnFaults Told ms m (plain_term of limits))) result →
    IsFirstOf (In document (TypeFaults Told ms m (plain_term of limits))) result
plain_end Told ms document m (plain.Simple word) limits result h = in_by _ _ (plain_faults Told ms m _ _ limits) h
plain_end Told ms document m (plain.Integer x) limits result h = in_by _ _ (plain_faults Told ms m _ _ limits) h
plain_end Told ms document m (plain.Enumerated x) limits result h = in_by _ _ (plain_faults Told ms m _ _ limits) h
plain_end Told ms document m (plain.BitString x) limits result h = in_by _ _ (plain_faults Told ms m _ _ limits) h
plain_end Told ms document m (plain.OctetString word) limits result h = in_by _ _ (plain_faults Told ms m _ _ limits) h
plain_end Told ms document m (plain.ObjectIdentifier word) limits result h =
    in_by _ _ (plain_faults Told ms m _ _ limits) h
plain_end Told ms document m (plain.Any x) limits result h = in_by _ _ (plain_faults Told ms m _ _ limits) h
plain_end Told ms document m (plain.Named x) limits result h =
    subst (λ t. IsFirstOf (In document (TypeFaults Told ms m t)) result) (sym (named_is x limits))
    (in_by _ _ (reference_faults Told ms m _ _ limits)
    (subst (λ t. IsFirstOf (In document (OwnFaults Told ms m t)) result) (named_is x limits) h))

-- ---- a tag, and a list

pub tagged_end : (Told : Type 0) (ms : List ModuleTerm) (document m : ℕ) (whole : TypeTerm) (tag : TagTerm)
    (mode : Option Token) (of : TypeTerm) {one other result : Option ModuleFault} → whole ≡ Under tag mode of →
    IsEarlier one other result → IsFirstOf (In document (OwnFaults Told ms m whole)) one →
    IsFirstOf (In document (TypeFaults Told ms m of)) other → IsFirstOf (In document (TypeFaults Told ms m whole))
    result
tagged_end Told ms document m whole tag mode of {one = one} {result = result} is h p q =
    subst (λ t. IsFirstOf (In document (TypeFaults Told ms m t)) result) (sym is)
    (in_by (Either (OwnFaults Told ms m (Under tag mode of)) (TypeFaults Told ms m of))
    (TypeFaults Told ms m (Under tag mode of)) (under_faults Told ms m tag mode of)
    (either_both (OwnFaults Told ms m (Under tag mode of)) (TypeFaults Told ms m of) h
    (subst (λ t. IsFirstOf (In document (OwnFaults Told ms m t)) one) is p) q))

pub list_end : (Told : Type 0) (ms : List ModuleTerm) (document m : ℕ) (whole : TypeTerm) (word : Token)
    (size : Option (List RangeTerm)) (of : TypeTerm) {one other result : Option ModuleFault} →
    whole ≡ Repeated word size of → IsEarlier one other result →
    IsFirstOf (In document (OwnFaults Told ms m whole)) one →
    IsFirstOf (In document (TypeFaults Told ms m of)) other → IsFirstOf (In document (TypeFaults Told ms m whole))
    result
list_end Told ms document m whole word size of {one = one} {result = result} is h p q =
    subst (λ t. IsFirstOf (In document (TypeFaults Told ms m t)) result) (sym is)
    (in_by (Either (OwnFaults Told ms m (Repeated word size of)) (TypeFaults Told ms m of))
    (TypeFaults Told ms m (Repeated word size of)) (repeated_faults Told ms m word size of)
    (either_both (OwnFaults Told ms m (Repeated word size of)) (TypeFaults Told ms m of) h
    (subst (λ t. IsFirstOf (In document (OwnFaults Told ms m t)) one) is p) q))
