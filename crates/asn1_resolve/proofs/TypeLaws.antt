-- TypeLaws: the faults of a type are its own and those of the types that stand in it (docs/PROFILE.md, section 11).
use Rattle.std.proofs.Common.{◌≡◌, ◌⊎◌, ◌≤◌, ℕ, List, Option, refl, inl}
use Rattle.std.proofs.Common.{inr}
use Rattle.std.proofs.Common.{arith}
use Rattle.std.proofs.Math.Path.{subst}
use Rattle.token_grammar.specs.declared.token.Token.{Token}
use Rattle.asn1_names.specs.FirstModuleFault.{FaultKind}
use Rattle.asn1_names.specs.ModuleTerms.{RangeTerm, LimitTerm, TagTerm, PresenceTerm, PlainTerm, TypeTerm}
use Rattle.asn1_names.specs.ModuleTerms.{MemberTerms, ModuleTerm}
use Rattle.asn1_names.specs.ModuleTerms.TypeTerm.{Under, Structure, Repeated, Alternatives, Plain, Reference}
use Rattle.asn1_names.specs.Containment.{IsMember, Within}
use Rattle.asn1_names.specs.Containment.IsMember.{first as first_member, behind}
use Rattle.asn1_names.specs.Containment.Within.{itself, tagged, element, component, alternative}
use Rattle.asn1_names.specs.NodeCount.{HasNodes, HaveNodes}
use Rattle.asn1_names.specs.NodeCount.HasNodes.{tagged as tagged_nodes, structure, repeated, alternatives}
use Rattle.asn1_names.specs.NodeCount.HaveNodes.{member, no_members}
use Rattle.asn1_resolve.specs.FaultSets.{Either}
use Rattle.asn1_resolve.specs.TypeFaults.{IsFew, MemberFaults, OwnFaults, TypeFaults}
use Rattle.asn1_resolve.proofs.FirstFaults.{SameIn}

-- ---- inversion

within_under : {tag : TagTerm} {mode : Option Token} {of inner : TypeTerm} → Within inner (Under tag mode of) →
    (inner ≡ Under tag mode of) ⊎ Within inner of
within_under itself = inl refl
within_under (tagged h) = inr h

within_repeated : {word : Token} {size : Option (List RangeTerm)} {of inner : TypeTerm} →
    Within inner (Repeated word size of) → (inner ≡ Repeated word size of) ⊎ Within inner of
within_repeated itself = inl refl
within_repeated (element h) = inr h

-- stands in a member
abbrev InMember : MemberTerms → TypeTerm → Type 0
InMember members inner = (k : ℕ) × (of : TypeTerm) × (presence : PresenceTerm) × IsMember members k of presence
    × Within inner of

within_structure : {word : Token} {members : MemberTerms} {limits : List LimitTerm} {inner : TypeTerm} →
    Within inner (Structure word members limits) → (inner ≡ Structure word members limits) ⊎ InMember members inner
within_structure itself = inl refl
within_structure (component {k = k} {of = of} {presence = presence} is h) = inr (k, of, presence, is, h)

within_alternatives : {word : Token} {members : MemberTerms} {limits : List LimitTerm} {inner : TypeTerm} →
    Within inner (Alternatives word members limits) → (inner ≡ Alternatives word members limits) ⊎ InMember members
    inner
within_alternatives itself = inl refl
within_alternatives (alternative {k = k} {of = of} {presence = presence} is h) = inr (k, of, presence, is, h)

within_plain : {word : Token} {plain : PlainTerm} {limits : List LimitTerm} {inner : TypeTerm} →
    Within inner (Plain word plain limits) → inner ≡ Plain word plain limits
within_plain itself = refl

within_reference : {module_name : Option Token} {name : Token} {limits : List LimitTerm} {inner : TypeTerm} →
    Within inner (Reference module_name name limits) → inner ≡ Reference module_name name limits
within_reference itself = refl

-- ---- the faults of a type are its own and those in it

own_at : (Told : Type 0) (ms : List ModuleTerm) (m : ℕ) (of inner : TypeTerm) (token : ℕ) (kind : FaultKind) →
    inner ≡ of → OwnFaults Told ms m inner token kind → OwnFaults Told ms m of token kind
own_at Told ms m of inner token kind is fault = subst (λ t. OwnFaults Told ms m t token kind) is fault

pub under_faults : (Told : Type 0) (ms : List ModuleTerm) (m : ℕ) (tag : TagTerm) (mode : Option Token) (of : TypeTerm)
    →
    SameIn (Either (OwnFaults Told ms m (Under tag mode of)) (TypeFaults Told ms m of))
    (TypeFaults Told ms m (Under tag mode of))
under_faults Told ms m tag mode of = (
  λ token kind fault. elim fault as (λ _. TypeFaults Told ms m (Under tag mode of) token kind) [
    | inl own ↦ (Under tag mode of, itself, own)
    | inr below ↦ (below.0, tagged below.1, below.2)
  ],
  λ token kind fault. elim (within_under fault.1) as (λ _. Either (OwnFaults Told ms m (Under tag mode of))
      (TypeFaults Told ms m of) token kind) [
        | inl is ↦ inl (own_at Told ms m (Under tag mode of) fault.0 token kind is fault.2)
        | inr below ↦ inr (fault.0, below, fault.2)
      ],
)

pub repeated_faults : (Told : Type 0) (ms : List ModuleTerm) (m : ℕ) (word : Token) (size : Option (List RangeTerm))
    (of : TypeTerm) → SameIn (Either (OwnFaults Told ms m (Repeated word size of)) (TypeFaults Told ms m of))
    (TypeFaults Told ms m (Repeated word size of))
repeated_faults Told ms m word size of = (
  λ token kind fault. elim fault as (λ _. TypeFaults Told ms m (Repeated word size of) token kind) [
    | inl own ↦ (Repeated word size of, itself, own)
    | inr below ↦ (below.0, element below.1, below.2)
  ],
  λ token kind fault. elim (within_repeated fault.1) as (λ _. Either (OwnFaults Told ms m (Repeated word size of))
      (TypeFaults Told ms m of) token kind) [
        | inl is ↦ inl (own_at Told ms m (Repeated word size of) fault.0 token kind is fault.2)
        | inr below ↦ inr (fault.0, below, fault.2)
      ],
)

pub structure_faults : (Told : Type 0) (ms : List ModuleTerm) (m : ℕ) (word : Token) (members : MemberTerms)
    (limits : List LimitTerm) →
    SameIn (Either (OwnFaults Told ms m (Structure word members limits)) (MemberFaults Told ms m members))
    (TypeFaults Told ms m (Structure word members limits))
structure_faults Told ms m word members limits = (
  λ token kind fault. elim fault as (λ _. TypeFaults Told ms m (Structure word members limits) token kind) [
    | inl own ↦ (Structure word members limits, itself, own)
    | inr below ↦ (below.4.0, component below.3 below.4.1, below.4.2)
  ],
  λ token kind fault. elim (within_structure fault.1) as (λ _. Either (OwnFaults Told ms m
      (Structure word members limits)) (MemberFaults Told ms m members) token kind) [
        | inl is ↦ inl (own_at Told ms m (Structure word members limits) fault.0 token kind is fault.2)
        | inr below ↦ inr (below.0, below.1, below.2, below.3, (fault.0, below.4, fault.2))
      ],
)

pub alternatives_faults : (Told : Type 0) (ms : List ModuleTerm) (m : ℕ) (word : Token) (members : MemberTerms)
    (limits : List LimitTerm) →
    SameIn (Either (OwnFaults Told ms m (Alternatives word members limits)) (MemberFaults Told ms m members))
    (TypeFaults Told ms m (Alternatives word members limits))
alternatives_faults Told ms m word members limits = (
  λ token kind fault. elim fault as (λ _. TypeFaults Told ms m (Alternatives word members limits) token kind) [
    | inl own ↦ (Alternatives word members limits, itself, own)
    | inr below ↦ (below.4.0, alternative below.3 below.4.1, below.4.2)
  ],
  λ token kind fault. elim (within_alternatives fault.1) as (λ _. Either (OwnFaults Told ms m
      (Alternatives word members limits)) (MemberFaults Told ms m members) token kind) [
        | inl is ↦ inl (own_at Told ms m (Alternatives word members limits) fault.0 token kind is fault.2)
        | inr below ↦ inr (below.0, below.1, below.2, below.3, (fault.0, below.4, fault.2))
      ],
)

pub plain_faults : (Told : Type 0) (ms : List ModuleTerm) (m : ℕ) (word : Token) (plain : PlainTerm)
    (limits : List LimitTerm) →
    SameIn (OwnFaults Told ms m (Plain word plain limits)) (TypeFaults Told ms m (Plain word plain limits))
plain_faults Told ms m word plain limits = (
  λ token kind fault. (Plain word plain limits, itself, fault),
  λ token kind fault. own_at Told ms m (Plain word plain limits) fault.0 token kind (within_plain fault.1) fault.2,
)

pub reference_faults : (Told : Type 0) (ms : List ModuleTerm) (m : ℕ) (module_name : Option Token) (name : Token)
    (limits : List LimitTerm) → SameIn (OwnFaults Told ms m (Reference module_name name limits))
    (TypeFaults Told ms m (Reference module_name name limits))
reference_faults Told ms m module_name name limits = (
  λ token kind fault. (Reference module_name name limits, itself, fault),
  λ token kind fault. own_at Told ms m (Reference module_name name limits) fault.0 token kind
      (within_reference fault.1) fault.2,
)

-- ---- a type in one of few nodes has few

pub few_under : {ms : List ModuleTerm} {m : ℕ} {tag : TagTerm} {mode : Option Token} {of : TypeTerm} →
    IsFew ms m (Under tag mode of) → IsFew ms m of
few_under h = few_tagged h.0 h.1 h.2
  where
    few_tagged : {ms : List ModuleTerm} {m : ℕ} {tag : TagTerm} {mode : Option Token} {of : TypeTerm} (n : ℕ) →
        HasNodes ms m (Under tag mode of) n → n ≤ 10000 → IsFew ms m of
    few_tagged n (tagged_nodes {n = k} nodes) most = (k, nodes, omega (arith, most))

pub few_repeated : {ms : List ModuleTerm} {m : ℕ} {word : Token} {size : Option (List RangeTerm)} {of : TypeTerm} →
    IsFew ms m (Repeated word size of) → IsFew ms m of
few_repeated h = few_list h.0 h.1 h.2
  where
    few_list : {ms : List ModuleTerm} {m : ℕ} {word : Token} {size : Option (List RangeTerm)} {of : TypeTerm} (n : ℕ) →
        HasNodes ms m (Repeated word size of) n → n ≤ 10000 → IsFew ms m of
    few_list n (repeated {n = k} nodes) most = (k, nodes, omega (arith, most))

few_member : {ms : List ModuleTerm} {m n k : ℕ} {members : MemberTerms} {of : TypeTerm} {presence : PresenceTerm} →
    HaveNodes ms m members n → n ≤ 10000 → IsMember members k of presence → IsFew ms m of
few_member no_members most is = elim is [ ]
few_member (member {n = n} {k = k} nodes rest) most first_member = (n, nodes, omega (arith, most))
few_member (member {n = n} {k = k} nodes rest) most (behind is) = few_member rest (omega (arith, most)) is

pub few_structure : {ms : List ModuleTerm} {m k : ℕ} {word : Token} {members : MemberTerms} {limits : List LimitTerm}
    {of : TypeTerm} {presence : PresenceTerm} → IsFew ms m (Structure word members limits) →
    IsMember members k of presence → IsFew ms m of
few_structure h is = by h.0 h.1 h.2 is
  where
    by : {ms : List ModuleTerm} {m k : ℕ} {word : Token} {members : MemberTerms} {limits : List LimitTerm}
        {of : TypeTerm} {presence : PresenceTerm} (n : ℕ) → HasNodes ms m (Structure word members limits) n →
        n ≤ 10000 → IsMember members k of presence → IsFew ms m of
    by n (structure nodes) most is = few_member nodes (omega (arith, most)) is

pub few_alternatives : {ms : List ModuleTerm} {m k : ℕ} {word : Token} {members : MemberTerms} {limits : List LimitTerm}
    {of : TypeTerm} {presence : PresenceTerm} → IsFew ms m (Alternatives word members limits) →
    IsMember members k of presence → IsFew ms m of
few_alternatives h is = by h.0 h.1 h.2 is
  where
    by : {ms : List ModuleTerm} {m k : ℕ} {word : Token} {members : MemberTerms} {limits : List LimitTerm}
        {of : TypeTerm} {presence : PresenceTerm} (n : ℕ) → HasNodes ms m (Alternatives word members limits) n →
        n ≤ 10000 → IsMember members k of presence → IsFew ms m of
    by n (alternatives nodes) most is = few_member nodes (omega (arith, most)) is
