-- NotingLaws: of what was noted before and the faults of a set the first is kept: of one fault, of none, of two sets
-- and of the elements of a list.
use Rattle.std.proofs.Common.{◌≡◌, ◌⊎◌, ◌<◌, ◌≤◌, ◌∙◌, ℕ, List, [], ◌∷◌, ◌++◌, Option, Some, refl, sym, inl}
use Rattle.std.proofs.Common.{inr, ap}
use Rattle.std.proofs.Common.{◌+◌, None, arith, get_or, length, take, map}
use Rattle.std.specs.Prelude.{IfSome, unwrap_or}
use Rattle.std.proofs.lemmas.List.{map-append, take_all, take_more}
use Rattle.std.proofs.Math.Path.{subst}
use Rattle.filled_syntaxes.specs.declared.bad_texts.TextPlace.{TextPlace}
use Rattle.class_faults.specs.declared.first_fault.ClassFault.{ClassFault as NotedFault}
use Rattle.class_faults.specs.FaultSets.{AnyOf, Either, FaultSet, KeepsOne, Notes, OneFault, ThisFault, FirstText}
use Rattle.class_faults.specs.FirstClassFault.{IsNoLater, ClassFault}
use Rattle.class_faults.specs.FirstClassFault.ClassFault.{ValueBad}
use Rattle.class_faults.specs.FirstClassFault.IsNoLater.{at_one_token, earlier_document, earlier_token}
use Rattle.class_faults.specs.NotedFaults.{IsNotLater, kind_of}

pub some_is : {X : Type 0} (x y : X) → Some x ≡ Some y → x ≡ y
some_is x y is = ap (λ z. unwrap_or z x) is

-- ---- the order of faults

pub no_later : {k l j : ClassFault} {a b c x y z : ℕ} → IsNoLater k a x l b y → IsNoLater l b y j c z →
    IsNoLater k a x j c z
no_later (earlier_document h) (earlier_document i) = earlier_document (omega (arith, h, i))
no_later (earlier_document h) (earlier_token e i) = earlier_document (omega (arith, h, e))
no_later (earlier_document h) (at_one_token e f i) = earlier_document (omega (arith, h, e))
no_later (earlier_token d h) (earlier_document i) = earlier_document (omega (arith, d, i))
no_later (earlier_token d h) (earlier_token e i) = earlier_token (d ∙ e) (omega (arith, h, i))
no_later (earlier_token d h) (at_one_token e f i) = earlier_token (d ∙ e) (omega (arith, h, f))
no_later (at_one_token d e h) (earlier_document i) = earlier_document (omega (arith, d, i))
no_later (at_one_token d e h) (earlier_token f i) = earlier_token (d ∙ f) (omega (arith, e, i))
no_later (at_one_token d e h) (at_one_token f g i) = at_one_token (d ∙ f) (e ∙ g) (omega (arith, h, i))

pub as_late : (k : ClassFault) (document token : ℕ) → IsNoLater k document token k document token
as_late k document token = at_one_token refl refl (omega arith)

-- ---- one fault, and none

told_late : (x : NotedFault) (kind : ClassFault) (document token its_document at : ℕ) (its_kind : ClassFault) →
    its_kind ≡ kind → its_document ≡ document → at ≡ token →
    IsNoLater (kind_of x.kind) x.document x.token its_kind its_document at →
    IsNoLater (kind_of x.kind) x.document x.token kind document token
told_late x kind document token its_document at its_kind k d t h =
    subst (λ z. IsNoLater (kind_of x.kind) x.document x.token z document token) k
    (subst (λ z. IsNoLater (kind_of x.kind) x.document x.token its_kind z token) d
    (subst (λ z. IsNoLater (kind_of x.kind) x.document x.token its_kind its_document z) t h))

pub one_noted : (before : Option NotedFault) (fault result : NotedFault) →
    (result ≡ fault) ⊎ (before ≡ Some result) → IsNotLater result fault →
    IfSome before (λ other. IsNotLater result other) →
    Notes (ThisFault (kind_of fault.kind) fault.document fault.token) before (Some result)
one_noted before fault result one late least = record {
  there = λ x is. elim one as (λ _. (before ≡ Some x)
      ⊎ ThisFault (kind_of fault.kind) fault.document fault.token (kind_of x.kind) x.document x.token) [
        | inl here ↦ (let same : fault ≡ x = sym here ∙ some_is result x is in
            inr (
              ap (λ (y : NotedFault). kind_of y.kind) same,
              ap (λ (y : NotedFault). y.document) same,
              ap (λ (y : NotedFault). y.token) same,
            ))
        | inr here ↦ inl (here ∙ is)
      ];
  kept = λ x is. (result, refl, subst (λ o. IfSome o (λ other. IsNotLater result other)) is least);
  least = λ kind document token fault_is. (
    result,
    refl,
    told_late result kind document token fault.document fault.token
        (kind_of fault.kind) fault_is.0 fault_is.1 fault_is.2 late,
  );
}

pub none_noted : (Faults : FaultSet) (before : Option NotedFault) →
    ((kind : ClassFault) (document token : ℕ) → ¬ Faults kind document token) → Notes Faults before before
none_noted Faults before none_there = record {
  there = λ x is. inl is;
  kept = λ x is. (x, is, as_late (kind_of x.kind) x.document x.token);
  least = λ kind document token fault. absurd (none_there kind document token fault);
}

-- ---- sets with the same faults

pub noted_by : (One Other : FaultSet) {before after : Option NotedFault} →
    ((kind : ClassFault) (document token : ℕ) → One kind document token → Other kind document token) →
    ((kind : ClassFault) (document token : ℕ) → Other kind document token → One kind document token) →
    Notes One before after → Notes Other before after
noted_by One Other {before = before} to from h = record {
  there = λ x is. elim (h.there x is) as (λ _. (before ≡ Some x)
      ⊎ Other (kind_of x.kind) x.document x.token) [
        | inl here ↦ inl here
        | inr here ↦ inr (to (kind_of x.kind) x.document x.token here)
      ];
  kept = h.kept;
  least = λ kind document token fault. h.least kind document token (from kind document token fault);
}

pub one_there : {Holds : Type 0} {kind : ClassFault} {document at : ℕ} {before after : Option NotedFault} → Holds →
    Notes (ThisFault kind document at) before after → Notes (OneFault Holds kind document at) before after
one_there {Holds} {kind = kind} {document = document} {at = at} holds h =
    noted_by (ThisFault kind document at) (OneFault Holds kind document at)
    (λ k d t fault. (holds, fault.0, fault.1, fault.2)) (λ k d t fault. (fault.1, fault.2, fault.3)) h

pub one_not : {Holds : Type 0} (kind : ClassFault) (document at : ℕ) (before : Option NotedFault) → ¬ Holds →
    Notes (OneFault Holds kind document at) before before
one_not {Holds} kind document at before not_so =
    none_noted (OneFault Holds kind document at) before (λ k d t fault. not_so fault.0)

-- ---- of texts that denote no value

pub first_noted : (first : Option TextPlace) (place : TextPlace) {before after : Option NotedFault} → first ≡ Some place →
    Notes (ThisFault ValueBad place.document place.token) before after → Notes (FirstText first) before after
first_noted first place is h =
    noted_by (ThisFault ValueBad place.document place.token) (FirstText first) (λ k d t fault. (place, is, fault))
    (λ k d t fault. let same : fault.0 ≡ place = ap (λ x. unwrap_or x place) (sym fault.1 ∙ is) in
    subst (λ (x : TextPlace). ThisFault ValueBad x.document x.token k d t) same fault.2) h

pub no_text : (first : Option TextPlace) (before : Option NotedFault) → first ≡ None →
    Notes (FirstText first) before before
no_text first before is = none_noted (FirstText first) before
    (λ k d t fault. absurd (subst (λ (o : Option TextPlace). (o ≡ Some fault.0) → ⊥) (sym is) (λ e. absurd (cc)) fault.1))

-- ---- of two sets

pub both_noted : (One Other : FaultSet) {before between after : Option NotedFault} → Notes One before between →
    Notes Other between after → Notes (Either One Other) before after
both_noted One Other {before = before} {after = after} p q = record {
  there = λ x is. elim (q.there x is) as (λ _. (before ≡ Some x)
      ⊎ Either One Other (kind_of x.kind) x.document x.token) [
        | inl here ↦ elim (p.there x here) as (λ _. (before ≡ Some x)
            ⊎ Either One Other (kind_of x.kind) x.document x.token) [
              | inl own ↦ inl own
              | inr own ↦ inr (inl own)
            ]
        | inr here ↦ inr (inr here)
      ];
  kept = λ x is. (let y = p.kept x is in let z = q.kept y.0 y.1 in (z.0, z.1, no_later z.2 y.2));
  least = λ kind document token fault. elim fault as (λ _. KeepsOne after kind document token) [
    | inl here ↦ (let y = p.least kind document token here in let z = q.kept y.0 y.1 in (z.0, z.1, no_later z.2 y.2))
    | inr here ↦ q.least kind document token here
  ];
}

-- where one of two sets has no fault
pub left_noted : (One Other : FaultSet) {before after : Option NotedFault} →
    ((kind : ClassFault) (document token : ℕ) → ¬ Other kind document token) → Notes One before after →
    Notes (Either One Other) before after
left_noted One Other {after = after} none_there h =
    both_noted One Other h (none_noted Other after none_there)

pub right_noted : (One Other : FaultSet) {before after : Option NotedFault} →
    ((kind : ClassFault) (document token : ℕ) → ¬ One kind document token) → Notes Other before after →
    Notes (Either One Other) before after
right_noted One Other {before = before} none_there h =
    both_noted One Other (none_noted One before none_there) h

-- ---- of the elements of a list

-- where each element has the faults that it has in another set
pub any_by : {X : Type 0} (One Other : X → FaultSet) →
    ((x : X) (kind : ClassFault) (document token : ℕ) → One x kind document token → Other x kind document token) →
    (xs : List X) (kind : ClassFault) (document token : ℕ) → AnyOf One xs kind document token →
    AnyOf Other xs kind document token
any_by One Other to [] kind document token fault = absurd fault
any_by One Other to (x ∷ xs) kind document token (inl here) = inl (to x kind document token here)
any_by One Other to (x ∷ xs) kind document token (inr behind) = inr (any_by One Other to xs kind document token behind)

any_front : {X : Type 0} (Faults : X → FaultSet) (xs : List X) (x : X) (kind : ClassFault) (document token : ℕ) →
    AnyOf Faults xs kind document token → AnyOf Faults (xs ++ x ∷ []) kind document token
any_front Faults [] x kind document token fault = absurd fault
any_front Faults (y ∷ ys) x kind document token (inl here) = inl here
any_front Faults (y ∷ ys) x kind document token (inr behind) =
    inr (any_front Faults ys x kind document token behind)

any_last : {X : Type 0} (Faults : X → FaultSet) (xs : List X) (x : X) (kind : ClassFault) (document token : ℕ) →
    Faults x kind document token → AnyOf Faults (xs ++ x ∷ []) kind document token
any_last Faults [] x kind document token fault = inl fault
any_last Faults (y ∷ ys) x kind document token fault = inr (any_last Faults ys x kind document token fault)

any_cases : {X : Type 0} (Faults : X → FaultSet) (xs : List X) (x : X) (kind : ClassFault) (document token : ℕ) →
    AnyOf Faults (xs ++ x ∷ []) kind document token →
    AnyOf Faults xs kind document token ⊎ Faults x kind document token
any_cases Faults [] x kind document token (inl here) = inr here
any_cases Faults [] x kind document token (inr behind) = absurd behind
any_cases Faults (y ∷ ys) x kind document token (inl here) = inl (inl here)
any_cases Faults (y ∷ ys) x kind document token (inr behind) =
    elim (any_cases Faults ys x kind document token behind) as
    (λ _. AnyOf Faults (y ∷ ys) kind document token ⊎ Faults x kind document token) [
      | inl one ↦ inl (inr one)
      | inr one ↦ inr one
    ]

more : {X : Type 0} (xs : List X) (i : ℕ) (x : X) → i < length xs → x ≡ get_or xs i x →
    take (i + 1) xs ≡ take i xs ++ x ∷ []
more xs i x within is = take_more xs i x within ∙ ap (λ y. take i xs ++ y ∷ []) (sym is)

pub map_more : {X Y : Type 0} (f : X → Y) (xs : List X) (i : ℕ) (x : X) → i < length xs → x ≡ get_or xs i x →
    map f (take (i + 1) xs) ≡ map f (take i xs) ++ f x ∷ []
map_more f xs i x within is = ap (map f) (more xs i x within is) ∙ map-append f (take i xs) (x ∷ [])

any_more : {X : Type 0} (Faults : X → FaultSet) (before after : List X) (x : X) {one other next : Option NotedFault} →
    after ≡ before ++ x ∷ [] → Notes (AnyOf Faults before) one other → Notes (Faults x) other next →
    Notes (AnyOf Faults after) one next
any_more Faults before after x {one = one} {next = next} is p q =
    subst (λ xs. Notes (AnyOf Faults xs) one next) (sym is)
    (noted_by (Either (AnyOf Faults before) (Faults x)) (AnyOf Faults (before ++ x ∷ []))
    (λ k d t fault. elim fault as (λ _. AnyOf Faults (before ++ x ∷ []) k d t) [
      | inl here ↦ any_front Faults before x k d t here
      | inr here ↦ any_last Faults before x k d t here
    ])
    (any_cases Faults before x) (both_noted (AnyOf Faults before) (Faults x) p q))

pub any_none : {X : Type 0} (Faults : X → FaultSet) (before : Option NotedFault) → Notes (AnyOf Faults []) before before
any_none Faults before = none_noted (AnyOf Faults []) before (λ k d t fault. fault)

-- a loop over a list: its step, and its end
pub noted_step : {X Y : Type 0} (Faults : Y → FaultSet) (view : X → Y) (xs : List X) (i : ℕ) (x : X)
    {one other next : Option NotedFault} → i < length xs → x ≡ get_or xs i x →
    Notes (AnyOf Faults (map view (take i xs))) one other → Notes (Faults (view x)) other next →
    Notes (AnyOf Faults (map view (take (i + 1) xs))) one next
noted_step Faults view xs i x within is p q =
    any_more Faults (map view (take i xs)) (map view (take (i + 1) xs)) (view x) (map_more view xs i x within is) p q

pub noted_end : {X Y : Type 0} (Faults : Y → FaultSet) (view : X → Y) (xs : List X) (i : ℕ)
    {one next : Option NotedFault} → length xs ≤ i → Notes (AnyOf Faults (map view (take i xs))) one next →
    Notes (AnyOf Faults (map view xs)) one next
noted_end Faults view xs i {one = one} {next = next} past h =
    subst (λ ys. Notes (AnyOf Faults (map view ys)) one next) (take_all i xs past) h
