-- MemberTextLaws: the component at a place of a text is the one of its term.
use Rattle.std.proofs.Common.{◌≡◌, ◌∷◌, [], ℕ, suc, zero, List, true, false, None, Some, ap, map, refl, slice_get, sym}
use Rattle.asn1_names.specs.ModuleTerms.{MemberTerms, PresenceTerm}
use Rattle.asn1_names.specs.ModuleTerms.MemberTerms.{NoMembers, Member}
use Rattle.asn1_names.specs.ModuleTerms.PresenceTerm.{Needed, OptionalTerm, DefaultTerm}
use Rattle.asn1_types.specs.MeasuredTypes.{OneMember, members_listed}
use Rattle.type_numbers.specs.PlacedTerms.{nth_default, nth_member, stands_default}

some_same : {X : Type 0} (x y : X) → Some x ≡ Some y → x ≡ y
some_same x y h = cc

none_some : {X : Type 0} (x : X) → None ≡ Some x → ⊥
none_some x h = absurd (cc)

pub member_there : {X : Type 0} (f : X → OneMember) (xs : List X) (k : ℕ) (x : X) → slice_get xs k ≡ Some x →
    nth_member (members_listed (map f xs)) k ≡ Some (f x).of
member_there f [] k x at = absurd (none_some x at)
member_there f (y ∷ xs) zero x at = ap (λ z. Some (f z).of) (some_same y x at)
member_there f (y ∷ xs) (suc k) x at = member_there f xs k x at

pub member_past : {X : Type 0} (f : X → OneMember) (xs : List X) (k : ℕ) → slice_get xs k ≡ None →
    nth_member (members_listed (map f xs)) k ≡ None
member_past f [] k at = refl
member_past f (y ∷ xs) zero at = absurd (none_some y (sym at))
member_past f (y ∷ xs) (suc k) at = member_past f xs k at

pub default_there : {X : Type 0} (f : X → OneMember) (xs : List X) (k : ℕ) (x : X) → slice_get xs k ≡ Some x →
    nth_default true (members_listed (map f xs)) k ≡ stands_default true (f x).presence
default_there f [] k x at = absurd (none_some x at)
default_there f (y ∷ xs) zero x at = ap (λ z. stands_default true (f z).presence) (some_same y x at)
default_there f (y ∷ xs) (suc k) x at = default_there f xs k x at

pub default_past : {X : Type 0} (f : X → OneMember) (xs : List X) (k : ℕ) → slice_get xs k ≡ None →
    nth_default true (members_listed (map f xs)) k ≡ false
default_past f [] k at = refl
default_past f (y ∷ xs) zero at = absurd (none_some y (sym at))
default_past f (y ∷ xs) (suc k) at = default_past f xs k at

no_alternative : (presence : PresenceTerm) → stands_default false presence ≡ false
no_alternative Needed = refl
no_alternative OptionalTerm = refl
no_alternative (DefaultTerm text) = refl

-- at an alternative no DEFAULT stands
pub no_default : (rows : MemberTerms) (k : ℕ) → nth_default false rows k ≡ false
no_default NoMembers k = refl
no_default (Member name of presence rest) zero = no_alternative presence
no_default (Member name of presence rest) (suc k) = no_default rest k
