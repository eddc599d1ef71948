-- FirstFaults: the first fault of sets of faults, of two sets and of more.
use Rattle.std.proofs.Common.{◌≡◌, ◌⊎◌, ◌<◌, ◌≤◌, ◌∙◌, ℕ, List, [], ◌∷◌, ◌++◌, Option, None, Some, refl, sym, inl}
use Rattle.std.proofs.Common.{inr}
use Rattle.std.proofs.Common.{◌+◌, arith, get_or, length, take, map}
use Rattle.std.proofs.lemmas.List.{take_all}
use Rattle.std.proofs.Math.Path.{subst}
use Rattle.asn1_names.specs.declared.first_fault.FaultKind.{FaultKind as NotedKind}
use Rattle.asn1_names.specs.declared.first_fault.ModuleFault.{ModuleFault}
use Rattle.asn1_names.specs.FirstModuleFault.{FaultKind, IsNoLater, fault_rank}
use Rattle.asn1_names.specs.FirstModuleFault.IsNoLater.{earlier_document, earlier_token, at_one_token}
use Rattle.asn1_names.specs.NotedFaults.{kind_of}
use Rattle.asn1_names.proofs.NumberLaws.{map_more, more}
use Rattle.asn1_names.proofs.TableAnswers.{some_is}
use Rattle.asn1_resolve.specs.FaultSets.{AnyOf, Either, In, IsEarlier, IsFirstOf, OneFault, noted_at}

-- ---- the order of faults

pub no_later : {k l j : FaultKind} {a b c x y z : ℕ} → IsNoLater k a x l b y → IsNoLater l b y j c z →
    IsNoLater k a x j c z
no_later (earlier_document h) (earlier_document i) = earlier_document (omega (arith, h, i))
no_later (earlier_document h) (earlier_token e i) = earlier_document (omega (arith, h, e))
no_later (earlier_document h) (at_one_token e f i) = earlier_document (omega (arith, h, e))
no_later (earlier_token d h) (earlier_document i) = earlier_document (omega (arith, d, i))
no_later (earlier_token d h) (earlier_token e i) = earlier_token (d ∙ e) (omega (arith, h, i))
no_later (earlier_token d h) (at_one_token e f i) = earlier_token (d ∙ e) (omega (arith, h, f))
no_later (at_one_token d e h) (earlier_document i) = earlier_document (omega (arith, d, i))
no_later (at_one_token d e h) (earlier_token f i) = earlier_token (d ∙ f) (omega (arith, e, i))
no_later (at_one_token d e h) (at_one_token f g i) = at_one_token (d ∙ f) (e ∙ g) (omega (arith, h, i))

pub as_late : (k : FaultKind) (document token : ℕ) → IsNoLater k document token k document token
as_late k document token = at_one_token refl refl (omega arith)

-- ---- sets with the same faults

-- the faults of one set are those of another
abbrev pub SameFaults : (FaultKind → ℕ → ℕ → Type 0) → (FaultKind → ℕ → ℕ → Type 0) → Type 0
SameFaults One Other = ((kind : FaultKind) (document token : ℕ) → One kind document token → Other kind document token)
    × ((kind : FaultKind) (document token : ℕ) → Other kind document token → One kind document token)

pub first_by : (One Other : FaultKind → ℕ → ℕ → Type 0) {first : Option ModuleFault} → SameFaults One Other →
    IsFirstOf One first → IsFirstOf Other first
first_by One Other same h = record {
  there = λ x is. same.0 (kind_of x.kind) x.document x.token (h.there x is);
  least = λ kind document token fault. h.least kind document token (same.1 kind document token fault);
}

-- the same of sets of one document
abbrev pub SameIn : (ℕ → FaultKind → Type 0) → (ℕ → FaultKind → Type 0) → Type 0
SameIn One Other = ((token : ℕ) (kind : FaultKind) → One token kind → Other token kind)
    × ((token : ℕ) (kind : FaultKind) → Other token kind → One token kind)

pub in_by : {document : ℕ} (One Other : ℕ → FaultKind → Type 0) {first : Option ModuleFault} → SameIn One Other →
    IsFirstOf (In document One) first → IsFirstOf (In document Other) first
in_by {document = document} One Other same h = first_by (In document One) (In document Other) (
  λ kind its token fault. (fault.0, same.0 token kind fault.1),
  λ kind its token fault. (fault.0, same.1 token kind fault.1),
) h

-- ---- one fault, and none

pub one_there : {Holds : Type 0} (document at : ℕ) (kind : NotedKind) → Holds →
    IsFirstOf (In document (OneFault Holds at (kind_of kind))) (Some (noted_at document at kind))
one_there {Holds} document at kind holds = record {
  there = λ x is. subst (λ (y : ModuleFault). In document (OneFault Holds at (kind_of kind)) (kind_of y.kind)
      y.document y.token) (some_is (noted_at document at kind) x is) (refl, (holds, refl, refl));
  least = λ other its token fault. (
    noted_at document at kind,
    refl,
    at_one_token fault.0 fault.1.1 (ap_rank (kind_of kind) other fault.1.2),
  );
}
  where
    ap_rank : (k l : FaultKind) → k ≡ l → fault_rank k ≤ fault_rank l
    ap_rank k l is = subst (λ y. fault_rank k ≤ fault_rank y) is (omega arith)

pub no_fault : {document : ℕ} (Faults : ℕ → FaultKind → Type 0) →
    ((token : ℕ) (kind : FaultKind) → ¬ Faults token kind) → IsFirstOf (In document Faults) None
no_fault Faults none_there = record {
  there = λ x is. absurd (cc);
  least = λ kind its token fault. absurd (none_there token kind fault.1);
}

pub one_not : {Holds : Type 0} {document at : ℕ} {kind : FaultKind} → ¬ Holds →
    IsFirstOf (In document (OneFault Holds at kind)) None
one_not {Holds} {at = at} {kind = kind} not_so = no_fault (OneFault Holds at kind) (λ token its fault. not_so fault.0)

-- ---- of two sets

pub both : (One Other : FaultKind → ℕ → ℕ → Type 0) {one other first : Option ModuleFault} →
    IsEarlier one other first → IsFirstOf One one → IsFirstOf Other other →
    IsFirstOf (λ kind document token. One kind document token ⊎ Other kind document token) first
both One Other {first = first} h p q = record {
  there = λ x is. elim (h.either x is) as (λ _. One (kind_of x.kind) x.document x.token
      ⊎ Other (kind_of x.kind) x.document x.token) [
        | inl own ↦ inl (p.there x own)
        | inr own ↦ inr (q.there x own)
      ];
  least = λ kind document token fault. elim fault as (λ _. (x : ModuleFault) × (first ≡ Some x)
      × IsNoLater (kind_of x.kind) x.document x.token kind document token) [
        | inl here ↦ (
            let found = p.least kind document token here in
            let y = h.before_one found.0 found.1 in (y.0, y.1, no_later y.2 found.2))
        | inr here ↦ (
            let found = q.least kind document token here in
            let y = h.before_other found.0 found.1 in (y.0, y.1, no_later y.2 found.2))
      ];
}

pub either_both : {document : ℕ} (One Other : ℕ → FaultKind → Type 0) {one other first : Option ModuleFault} →
    IsEarlier one other first → IsFirstOf (In document One) one → IsFirstOf (In document Other) other →
    IsFirstOf (In document (Either One Other)) first
either_both {document = document} One Other h p q = first_by
    (λ kind its token. In document One kind its token ⊎ In document Other kind its token)
    (In document (Either One Other)) (
      λ kind its token fault. elim fault as (λ _. In document (Either One Other) kind its token) [
        | inl here ↦ (here.0, inl here.1)
        | inr here ↦ (here.0, inr here.1)
      ],
      λ kind its token fault. elim fault.1 as (λ _. In document One kind its token ⊎ In document Other kind its token) [
        | inl here ↦ inl (fault.0, here)
        | inr here ↦ inr (fault.0, here)
      ],
    ) (both (In document One) (In document Other) h p q)

-- where one of two sets has no fault
pub either_left : {document : ℕ} (One Other : ℕ → FaultKind → Type 0) {first : Option ModuleFault} →
    ((token : ℕ) (kind : FaultKind) → ¬ Other token kind) → IsFirstOf (In document One) first →
    IsFirstOf (In document (Either One Other)) first
either_left One Other none_there h = in_by One (Either One Other) (
  λ token kind fault. inl fault,
  λ token kind fault. elim fault as (λ _. One token kind) [
    | inl here ↦ here
    | inr here ↦ absurd (none_there token kind here)
  ],
) h

pub either_right : {document : ℕ} (One Other : ℕ → FaultKind → Type 0) {first : Option ModuleFault} →
    ((token : ℕ) (kind : FaultKind) → ¬ One token kind) → IsFirstOf (In document Other) first →
    IsFirstOf (In document (Either One Other)) first
either_right One Other none_there h = in_by Other (Either One Other) (
  λ token kind fault. inr fault,
  λ token kind fault. elim fault as (λ _. Other token kind) [
    | inl here ↦ absurd (none_there token kind here)
    | inr here ↦ here
  ],
) h

pub neither : {document : ℕ} (One Other : ℕ → FaultKind → Type 0) → ((token : ℕ) (kind : FaultKind) → ¬ One token kind)
    →
    ((token : ℕ) (kind : FaultKind) → ¬ Other token kind) → IsFirstOf (In document (Either One Other)) None
neither One Other not_one not_other = either_left One Other not_other (no_fault One not_one)

-- of two sets of one fault each: the first, the second, or none of them
pub one_of_both : {Here There : Type 0} (document at other : ℕ) (kind : NotedKind) (its_kind : FaultKind) → Here →
    ¬ There → IsFirstOf (In document (Either (OneFault Here at (kind_of kind)) (OneFault There other its_kind)))
    (Some (noted_at document at kind))
one_of_both {Here} {There} document at other kind its_kind here not_there =
    either_left (OneFault Here at (kind_of kind)) (OneFault There other its_kind)
    (λ token k fault. not_there fault.0) (one_there document at kind here)

pub other_of_both : {Here There : Type 0} (document at other : ℕ) (kind : FaultKind) (its_kind : NotedKind) → ¬ Here →
    There → IsFirstOf (In document (Either (OneFault Here at kind) (OneFault There other (kind_of its_kind))))
    (Some (noted_at document other its_kind))
other_of_both {Here} {There} document at other kind its_kind not_here there =
    either_right (OneFault Here at kind) (OneFault There other (kind_of its_kind))
    (λ token k fault. not_here fault.0) (one_there document other its_kind there)

pub none_of_both : {Here There : Type 0} (document at other : ℕ) (kind its_kind : FaultKind) → ¬ Here → ¬ There →
    IsFirstOf (In document (Either (OneFault Here at kind) (OneFault There other its_kind))) None
none_of_both {Here} {There} document at other kind its_kind not_here not_there =
    neither (OneFault Here at kind) (OneFault There other its_kind) (λ token k fault. not_here fault.0)
    (λ token k fault. not_there fault.0)

-- ---- of the elements of a list

pub any_front : {X : Type 0} (Faults : X → ℕ → FaultKind → Type 0) (xs : List X) (x : X) (token : ℕ)
    (kind : FaultKind) → AnyOf Faults xs token kind → AnyOf Faults (xs ++ x ∷ []) token kind
any_front Faults [] x token kind fault = absurd fault
any_front Faults (y ∷ ys) x token kind (inl here) = inl here
any_front Faults (y ∷ ys) x token kind (inr behind) = inr (any_front Faults ys x token kind behind)

pub any_last : {X : Type 0} (Faults : X → ℕ → FaultKind → Type 0) (xs : List X) (x : X) (token : ℕ)
    (kind : FaultKind) → Faults x token kind → AnyOf Faults (xs ++ x ∷ []) token kind
any_last Faults [] x token kind fault = inl fault
any_last Faults (y ∷ ys) x token kind fault = inr (any_last Faults ys x token kind fault)

pub any_cases : {X : Type 0} (Faults : X → ℕ → FaultKind → Type 0) (xs : List X) (x : X) (token : ℕ)
    (kind : FaultKind) → AnyOf Faults (xs ++ x ∷ []) token kind → AnyOf Faults xs token kind ⊎ Faults x token kind
any_cases Faults [] x token kind (inl here) = inr here
any_cases Faults [] x token kind (inr behind) = absurd behind
any_cases Faults (y ∷ ys) x token kind (inl here) = inl (inl here)
any_cases Faults (y ∷ ys) x token kind (inr behind) =
    elim (any_cases Faults ys x token kind behind) as (λ _. AnyOf Faults (y ∷ ys) token kind ⊎ Faults x token kind) [
      | inl one ↦ inl (inr one)
      | inr one ↦ inr one
    ]

-- one more element
pub any_more : {X : Type 0} {document : ℕ} (Faults : X → ℕ → FaultKind → Type 0) (before after : List X) (x : X)
    {one other first : Option ModuleFault} → after ≡ before ++ x ∷ [] → IsEarlier one other first →
    IsFirstOf (In document (AnyOf Faults before)) one → IsFirstOf (In document (Faults x)) other →
    IsFirstOf (In document (AnyOf Faults after)) first
any_more {document = document} Faults before after x {first = first} is h p q =
    subst (λ xs. IsFirstOf (In document (AnyOf Faults xs)) first) (sym is)
    (in_by (Either (AnyOf Faults before) (Faults x)) (AnyOf Faults (before ++ x ∷ [])) (
      λ token kind fault. elim fault as (λ _. AnyOf Faults (before ++ x ∷ []) token kind) [
        | inl here ↦ any_front Faults before x token kind here
        | inr here ↦ any_last Faults before x token kind here
      ],
      any_cases Faults before x,
    ) (either_both (AnyOf Faults before) (Faults x) h p q))

pub any_none : {X : Type 0} {document : ℕ} (Faults : X → ℕ → FaultKind → Type 0) →
    IsFirstOf (In document (AnyOf Faults [])) None
any_none Faults = no_fault (AnyOf Faults []) (λ token kind fault. fault)

-- a loop over a list: its step, and its end
pub plain_step : {X : Type 0} {document : ℕ} (Faults : X → ℕ → FaultKind → Type 0) (xs : List X) (i : ℕ) (x : X)
    {one other first : Option ModuleFault} → i < length xs → x ≡ get_or xs i x → IsEarlier one other first →
    IsFirstOf (In document (AnyOf Faults (take i xs))) one → IsFirstOf (In document (Faults x)) other →
    IsFirstOf (In document (AnyOf Faults (take (i + 1) xs))) first
plain_step Faults xs i x within is h p q =
    any_more Faults (take i xs) (take (i + 1) xs) x (more xs i x within is) h p q

pub plain_end : {X : Type 0} {document : ℕ} (Faults : X → ℕ → FaultKind → Type 0) (xs : List X) (i : ℕ)
    {first : Option ModuleFault} → length xs ≤ i → IsFirstOf (In document (AnyOf Faults (take i xs))) first →
    IsFirstOf (In document (AnyOf Faults xs)) first
plain_end {document = document} Faults xs i {first = first} past h =
    subst (λ ys. IsFirstOf (In document (AnyOf Faults ys)) first) (take_all i xs past) h

pub view_step : {X Y : Type 0} {document : ℕ} (Faults : Y → ℕ → FaultKind → Type 0) (view : X → Y) (xs : List X) (i : ℕ)
    (x : X) {one other first : Option ModuleFault} → i < length xs → x ≡ get_or xs i x → IsEarlier one other first →
    IsFirstOf (In document (AnyOf Faults (map view (take i xs)))) one →
    IsFirstOf (In document (Faults (view x))) other →
    IsFirstOf (In document (AnyOf Faults (map view (take (i + 1) xs)))) first
view_step Faults view xs i x within is h p q =
    any_more Faults (map view (take i xs)) (map view (take (i + 1) xs)) (view x) (map_more view xs i x within is) h p q

pub view_end : {X Y : Type 0} {document : ℕ} (Faults : Y → ℕ → FaultKind → Type 0) (view : X → Y) (xs : List X) (i : ℕ)
    {first : Option ModuleFault} → length xs ≤ i → IsFirstOf (In document (AnyOf Faults (map view (take i xs)))) first →
    IsFirstOf (In document (AnyOf Faults (map view xs))) first
view_end {document = document} Faults view xs i {first = first} past h =
    subst (λ ys. IsFirstOf (In document (AnyOf Faults (map view ys))) first) (take_all i xs past) h
