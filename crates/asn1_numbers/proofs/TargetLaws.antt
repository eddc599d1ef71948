-- TargetLaws: the numbers of the types that are named in a type, in the parts of it.
use Rattle.std.specs.Prelude.{◌≡◌, ◌⊎◌, ◌<◌, ℕ, zero, suc, ◌+◌, List, [], ◌∷◌, ◌++◌, Option, Some, refl}
use Rattle.std.specs.Prelude.{OnOk, Result, Ok, Err, length}
use Rattle.std.proofs.Common.{ap, arith, inl, inr, sym, subst, ◌∙◌}
use Rattle.token_grammar.specs.declared.token.Token.{Token}
use Rattle.link_graphs.specs.Marking.{IsListed}
use Rattle.link_graphs.proofs.PlaceLaws.{IsPushed, get_before, get_last, get_push}
use Rattle.asn1_names.specs.CodeMeanings.{IsTypeNumber}
use Rattle.asn1_names.specs.Containment.{IsMember, Within}
use Rattle.asn1_names.specs.Containment.IsMember.{first, behind}
use Rattle.asn1_names.specs.Containment.Within.{itself, tagged, element, component, alternative}
use Rattle.asn1_names.specs.ModuleTerms.{LimitTerm, MemberTerms, ModuleTerm, PresenceTerm, RangeTerm, TagTerm, TypeTerm}
use Rattle.asn1_names.specs.ModuleTerms.TypeTerm.{Under, Structure, Repeated, Alternatives, Plain, Reference}
use Rattle.asn1_names.specs.NameMeaning.{reference_meaning}
use Rattle.asn1_names.specs.NameMeaning.Meaning.{TypeAt}
use Rattle.asn1_names.specs.TypeWalks.{NamesType}
use Rattle.asn1_numbers.specs.NamedTargets.{AddsFirst, AddsNamed, NamesInFirst}
use Rattle.asn1_numbers.proofs.StandingLaws.{one_number_at}

pub ok_by : {A E : Type 0} {P Q : Type 0} (r : Result A E) → (P → Q) → OnOk r P → OnOk r Q
ok_by (Ok x) f h = f h
ok_by (Err e) f h = h

-- ---- the same names stand in one type and in another

-- each name that stands in the one stands in the other
abbrev Stand : TypeTerm → TypeTerm → Type 0
Stand one other = (module_name : Option Token) (name : Token) (limits : List LimitTerm) →
    Within (Reference module_name name limits) one → Within (Reference module_name name limits) other

names_by : (ms : List ModuleTerm) (m t : ℕ) (one other : TypeTerm) → Stand one other → NamesType ms m one t →
    NamesType ms m other t
names_by ms m t one other stand names = record {
  numbered = names.numbered;
  at = names.at;
  names = record {
    module_name = names.names.module_name;
    name = names.names.name;
    limits = names.names.limits;
    stands = stand names.names.module_name names.names.name names.names.limits names.names.stands;
    named = names.names.named;
    means = names.names.means;
  };
}

either_by : {A B C : Type 0} → (B → C) → A ⊎ B → A ⊎ C
either_by f (inl a) = inl a
either_by f (inr b) = inr (f b)

adds_by : (ms : List ModuleTerm) (m : ℕ) (one other : TypeTerm) (before after : List ℕ) → Stand one other →
    Stand other one → AddsNamed ms m one before after → AddsNamed ms m other before after
adds_by ms m one other before after there back adds = λ t. (
  λ listed. either_by (names_by ms m t one other there) ((adds t).0 listed),
  λ either. (adds t).1 (either_by (names_by ms m t other one back) either),
)

under_back : (tag : TagTerm) (mode : Option Token) (of : TypeTerm) → Stand (Under tag mode of) of
under_back tag mode of module_name name limits (tagged h) = h

pub adds_under : (ms : List ModuleTerm) (m : ℕ) (tag : TagTerm) (mode : Option Token) (of : TypeTerm)
    (before after : List ℕ) → AddsNamed ms m of before after → AddsNamed ms m (Under tag mode of) before after
adds_under ms m tag mode of before after adds =
    adds_by ms m of (Under tag mode of) before after (λ module_name name limits h. tagged h)
    (under_back tag mode of) adds

repeated_back : (word : Token) (size : Option (List RangeTerm)) (of : TypeTerm) → Stand (Repeated word size of) of
repeated_back word size of module_name name limits (element h) = h

pub adds_repeated : (ms : List ModuleTerm) (m : ℕ) (word : Token) (size : Option (List RangeTerm)) (of : TypeTerm)
    (before after : List ℕ) → AddsNamed ms m of before after → AddsNamed ms m (Repeated word size of) before after
adds_repeated ms m word size of before after adds =
    adds_by ms m of (Repeated word size of) before after (λ module_name name limits h. element h)
    (repeated_back word size of) adds

-- ---- types that hold no other

abbrev MayHold : TypeTerm → Type 0
MayHold (Plain word plain limits) = ⊥
MayHold _ = Unit {0}

may_hold : {module_name : Option Token} {name : Token} {limits : List LimitTerm} {of : TypeTerm} →
    Within (Reference module_name name limits) of → MayHold of
may_hold itself = tt
may_hold (tagged h) = tt
may_hold (element h) = tt
may_hold (component k h) = tt
may_hold (alternative k h) = tt

keep_either : {A B : Type 0} → (B → ⊥) → A ⊎ B → A
keep_either f (inl a) = a
keep_either f (inr b) = absurd (f b)

-- nothing is added where no name stands
adds_none : (ms : List ModuleTerm) (m : ℕ) (of : TypeTerm) (before : List ℕ) →
    ((t : ℕ) → NamesType ms m of t → ⊥) → AddsNamed ms m of before before
adds_none ms m of before unless = λ t. (λ listed. inl listed, λ either. keep_either (unless t) either)

-- ---- a name

one_reference : {module_name its_module : Option Token} {name its_name : Token} {limits its_limits : List LimitTerm} →
    Within (Reference its_module its_name its_limits) (Reference module_name name limits) →
    (its_module ≡ module_name) × (its_name ≡ name)
one_reference itself = (refl, refl)

meant_by : (ms : List ModuleTerm) (m : ℕ) (module_name : Option Token) (name : Token) (limits : List LimitTerm)
    (t : ℕ) (names : NamesType ms m (Reference module_name name limits) t) →
    reference_meaning ms m module_name name ≡
    TypeAt names.numbered.in_module names.numbered.place names.names.named
meant_by ms m module_name name limits t names =
    let same = one_reference names.names.stands in
    (λ i. reference_meaning ms m (sym same.0 i) (sym same.1 i)) ∙ names.names.means

same_place : (v w i j : ℕ) (of other : TypeTerm) → TypeAt v i of ≡ TypeAt w j other → (v ≡ w) × (i ≡ j)
same_place v w i j of other h = (cc, cc)

pub adds_type : (ms : List ModuleTerm) (m : ℕ) (module_name : Option Token) (name : Token) (limits : List LimitTerm)
    (number : ℕ) (before : List ℕ) → IsTypeNumber ms number (reference_meaning ms m module_name name) →
    AddsNamed ms m (Reference module_name name limits) before (before ++ number ∷ [])
adds_type ms m module_name name limits number before means = λ t. (
  λ listed. pushed t listed.0 (get_push before number listed.0 t listed.1),
  λ either. listed_by t either,
)
  where
    own : NamesType ms m (Reference module_name name limits) number
    own = record {
      numbered = means.numbered;
      at = means.at;
      names = record {
        module_name = module_name;
        name = name;
        limits = limits;
        stands = itself;
        named = means.of;
        means = means.is;
      };
    }

    pushed : (t k : ℕ) → IsPushed before number k t →
        IsListed before t ⊎ NamesType ms m (Reference module_name name limits) t
    pushed t k (inl h) = inl (k, h)
    pushed t k (inr h) = inr (subst (λ n. NamesType ms m (Reference module_name name limits) n) h.1 own)

    listed_by : (t : ℕ) → IsListed before t ⊎ NamesType ms m (Reference module_name name limits) t →
        IsListed (before ++ number ∷ []) t
    listed_by t (inl h) = (h.0, get_before before (number ∷ []) h.0 t h.1)
    listed_by t (inr h) =
        let place = same_place _ _ _ _ _ _ (sym means.is ∙ meant_by ms m module_name name limits t h) in
        let one = one_number_at ms number t means.numbered h.numbered means.at h.at place.0 place.1 in
        (length before, get_last before number ∙ ap Some one)

-- ---- components and alternatives

-- a name stands in one of them
record InMember (row : MemberTerms) (module_name : Option Token) (name : Token) (limits : List LimitTerm)
    : Type 0 where
  place : ℕ
  of : TypeTerm
  presence : PresenceTerm
  member : IsMember row place of presence
  within : Within (Reference module_name name limits) of

in_structure : {module_name : Option Token} {name word : Token} {limits own : List LimitTerm}
    {row : MemberTerms} → Within (Reference module_name name limits) (Structure word row own) →
    InMember row module_name name limits
in_structure (component {k = k} {of = of} {presence = presence} at h) = record {
  place = k;
  of = of;
  presence = presence;
  member = at;
  within = h;
}

in_alternatives : {module_name : Option Token} {name word : Token} {limits own : List LimitTerm}
    {row : MemberTerms} → Within (Reference module_name name limits) (Alternatives word row own) →
    InMember row module_name name limits
in_alternatives (alternative {k = k} {of = of} {presence = presence} at h) = record {
  place = k;
  of = of;
  presence = presence;
  member = at;
  within = h;
}

member_one : {row : MemberTerms} {k : ℕ} {of other : TypeTerm} {presence its_presence : PresenceTerm} →
    IsMember row k of presence → IsMember row k other its_presence → of ≡ other
member_one first first = refl
member_one (behind h) (behind g) = member_one h g

more_names : (ms : List ModuleTerm) (m : ℕ) (row : MemberTerms) (k t : ℕ) → NamesInFirst ms m row k t →
    NamesInFirst ms m row (k + 1) t
more_names ms m row k t names = record {
  place = names.place;
  first = (let less = names.first in omega (arith, less));
  of = names.of;
  presence = names.presence;
  member = names.member;
  names = names.names;
}

last_or_first : (p k : ℕ) → p < k + 1 → (p < k) ⊎ (p ≡ k)
last_or_first zero zero h = inr refl
last_or_first zero (suc k) h = inl (omega arith)
last_or_first (suc p) zero h = absurd (omega (arith, h))
last_or_first (suc p) (suc k) h = by (last_or_first p k (omega (arith, h)))
  where
    by : (p < k) ⊎ (p ≡ k) → (suc p < suc k) ⊎ (suc p ≡ suc k)
    by (inl g) = inl (omega (arith, g))
    by (inr g) = inr (ap suc g)

-- one more component, or alternative
pub first_step : (ms : List ModuleTerm) (m : ℕ) (row : MemberTerms) (k : ℕ) (of : TypeTerm)
    (presence : PresenceTerm) (before between after : List ℕ) → IsMember row k of presence →
    AddsFirst ms m row k before between → AddsNamed ms m of between after →
    AddsFirst ms m row (k + 1) before after
first_step ms m row k of presence before between after at firsts adds = λ t. (
  λ listed. there t ((adds t).0 listed),
  λ either. back t either,
)
  where
    last : (t : ℕ) → NamesType ms m of t → NamesInFirst ms m row (k + 1) t
    last t names = record {
      place = k;
      first = omega arith;
      of = of;
      presence = presence;
      member = at;
      names = names;
    }

    there : (t : ℕ) → IsListed between t ⊎ NamesType ms m of t →
        IsListed before t ⊎ NamesInFirst ms m row (k + 1) t
    there t (inl h) = either_by (more_names ms m row k t) ((firsts t).0 h)
    there t (inr h) = inr (last t h)

    back_first : (t : ℕ) (names : NamesInFirst ms m row (k + 1) t) → (names.place < k) ⊎ (names.place ≡ k) →
        IsListed after t
    back_first t names (inl less) = (adds t).1 (inl ((firsts t).1 (inr (record {
      place = names.place;
      first = less;
      of = names.of;
      presence = names.presence;
      member = names.member;
      names = names.names;
    }))))
    back_first t names (inr same) =
        let its : IsMember row k names.of names.presence =
        subst (λ p. IsMember row p names.of names.presence) same names.member in
        (adds t).1 (inr (subst (λ x. NamesType ms m x t) (member_one its at) names.names))

    back : (t : ℕ) → IsListed before t ⊎ NamesInFirst ms m row (k + 1) t → IsListed after t
    back t (inl h) = (adds t).1 (inl ((firsts t).1 (inl h)))
    back t (inr h) = back_first t h (last_or_first h.place k h.first)

-- no component, or alternative, stands behind the first k
abbrev pub AreAll : MemberTerms → ℕ → Type 0
AreAll row k = (p : ℕ) (of : TypeTerm) (presence : PresenceTerm) → IsMember row p of presence → p < k

all_names : (ms : List ModuleTerm) (m : ℕ) (row : MemberTerms) (k : ℕ) (whole : TypeTerm) (t : ℕ) →
    AreAll row k → (names : NamesType ms m whole t) →
    InMember row names.names.module_name names.names.name names.names.limits → NamesInFirst ms m row k t
all_names ms m row k whole t all names it = record {
  place = it.place;
  first = all it.place it.of it.presence it.member;
  of = it.of;
  presence = it.presence;
  member = it.member;
  names = record {
    numbered = names.numbered;
    at = names.at;
    names = record {
      module_name = names.names.module_name;
      name = names.names.name;
      limits = names.names.limits;
      stands = it.within;
      named = names.names.named;
      means = names.names.means;
    };
  };
}

pub adds_structure : (ms : List ModuleTerm) (m : ℕ) (row : MemberTerms) (k : ℕ) (word : Token)
    (limits : List LimitTerm) (before after : List ℕ) → AreAll row k → AddsFirst ms m row k before after →
    AddsNamed ms m (Structure word row limits) before after
adds_structure ms m row k word limits before after all firsts = λ t. (
  λ listed. either_by (λ names. names_by ms m t names.of (Structure word row limits)
      (λ module_name name own h. component names.member h) names.names) ((firsts t).0 listed),
  λ either. (firsts t).1 (either_by (λ names. all_names ms m row k (Structure word row limits) t all names
      (in_structure names.names.stands)) either),
)

pub adds_alternatives : (ms : List ModuleTerm) (m : ℕ) (row : MemberTerms) (k : ℕ) (word : Token)
    (limits : List LimitTerm) (before after : List ℕ) → AreAll row k → AddsFirst ms m row k before after →
    AddsNamed ms m (Alternatives word row limits) before after
adds_alternatives ms m row k word limits before after all firsts = λ t. (
  λ listed. either_by (λ names. names_by ms m t names.of (Alternatives word row limits)
      (λ module_name name own h. alternative names.member h) names.names) ((firsts t).0 listed),
  λ either. (firsts t).1 (either_by (λ names. all_names ms m row k (Alternatives word row limits) t all names
      (in_alternatives names.names.stands)) either),
)
