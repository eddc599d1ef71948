-- PlaceLaws: where the types stand that a type holds or names (X.680, sections 13 and 16).
use Rattle.std.proofs.Common.{◌≡◌, ℕ, suc, List, Option, None, Some, Contains, refl, ap, slice_get}
use Rattle.std.proofs.lemmas.Option.{get_or_from_slice_get, none-some, slice_get_within}
use Rattle.token_grammar.specs.declared.token.Token.{Token}
use Rattle.asn1_names.specs.ModuleTerms.{AssignmentTerm, LimitTerm, MemberTerms, ModuleTerm, PresenceTerm, RangeTerm}
use Rattle.asn1_names.specs.ModuleTerms.{TagTerm, TypeTerm}
use Rattle.asn1_names.specs.ModuleTerms.MemberTerms.{Member}
use Rattle.asn1_names.specs.ModuleTerms.TypeTerm.{Alternatives, Repeated, Structure, Under}
use Rattle.asn1_names.specs.Containment.{IsMember, Within}
use Rattle.asn1_names.specs.Containment.IsMember.{behind}
use Rattle.asn1_names.specs.Containment.Within.{alternative, component, element, itself, tagged}
use Rattle.asn1_names.specs.NameMeaning.{assigned_type, reference_meaning, type_at}
use Rattle.asn1_names.specs.NameMeaning.Meaning.{TypeAt}
use Rattle.asn1_names.specs.Occurrences.{Assigns, Stands, type_assigned}
use Rattle.asn1_numbers.proofs.MeantLaws.{assigns_type, reference_type}

-- ---- what stands in a type

within_both : {inner of outer : TypeTerm} → Within inner of → Within of outer → Within inner outer
within_both h itself = h
within_both h (tagged w) = tagged (within_both h w)
within_both h (element w) = element (within_both h w)
within_both h (component is w) = component is (within_both h w)
within_both h (alternative is w) = alternative is (within_both h w)

inside : {ms : List ModuleTerm} {document m : ℕ} {inner of : TypeTerm} → Within inner of → Stands ms document m of →
    Stands ms document m inner
inside within stands =
    record { of = stands.of; assigned = stands.assigned; within = within_both within stands.within }

pub tagged_stands : {ms : List ModuleTerm} {document m : ℕ} {tag : TagTerm} {mode : Option Token} {of : TypeTerm} →
    Stands ms document m (Under tag mode of) → Stands ms document m of
tagged_stands stands = inside (tagged itself) stands

pub element_stands : {ms : List ModuleTerm} {document m : ℕ} {word : Token} {size : Option (List RangeTerm)}
    {of : TypeTerm} → Stands ms document m (Repeated word size of) → Stands ms document m of
element_stands stands = inside (element itself) stands

-- all of these components, or alternatives, stand in the modules
abbrev pub AllStand : List ModuleTerm → ℕ → ℕ → MemberTerms → Type 0
AllStand ms document m members = (k : ℕ) (of : TypeTerm) (presence : PresenceTerm) → IsMember members k of presence →
    Stands ms document m of

pub components_stand : {ms : List ModuleTerm} {document m : ℕ} {word : Token} {members : MemberTerms}
    {limits : List LimitTerm} → Stands ms document m (Structure word members limits) → AllStand ms document m members
components_stand stands = λ k of presence is. inside (component is itself) stands

pub alternatives_stand : {ms : List ModuleTerm} {document m : ℕ} {word : Token} {members : MemberTerms}
    {limits : List LimitTerm} → Stands ms document m (Alternatives word members limits) →
    AllStand ms document m members
alternatives_stand stands = λ k of presence is. inside (alternative is itself) stands

pub stand_behind : {ms : List ModuleTerm} {document m : ℕ} {name : Token} {of : TypeTerm} {presence : PresenceTerm}
    {members : MemberTerms} → AllStand ms document m (Member name of presence members) →
    AllStand ms document m members
stand_behind stand = λ k its its_presence is. stand (suc k) its its_presence (behind is)

pub assigned_stands : {ms : List ModuleTerm} {document m : ℕ} {of : TypeTerm} → Assigns ms document m of →
    Stands ms document m of
assigned_stands {of = of} assigned = record { of = of; assigned = assigned; within = itself }

-- ---- what is assigned at a place

got : {X : Type 0} (xs : List X) (k : ℕ) (x : X) → slice_get xs k ≡ Some x → Contains xs x
got xs k x h = (k, slice_get_within xs k x h, get_or_from_slice_get xs k x x h)

-- some document assigns the type in the module at the place
abbrev pub IsAssigned : List ModuleTerm → ℕ → TypeTerm → Type 0
IsAssigned ms m of = (document : ℕ) × Assigns ms document m of

pub assignment_assigned : (ms : List ModuleTerm) (m i : ℕ) (x : ModuleTerm) (a : AssignmentTerm) (of : TypeTerm) →
    slice_get ms m ≡ Some x → slice_get x.assignments i ≡ Some a → type_assigned a.assigned ≡ of →
    IsAssigned ms m of
assignment_assigned ms m i x a of at stands is = (
  x.document,
  record {
    in_module = x;
    is_in = record { module_at = at; numbered = refl };
    assignment = a;
    stands = got x.assignments i a stands;
    is_of = is;
  },
)

type_assigned_in : (ms : List ModuleTerm) (m i : ℕ) (x : ModuleTerm) (found : Option AssignmentTerm) (of : TypeTerm) →
    slice_get ms m ≡ Some x → slice_get x.assignments i ≡ found → assigned_type found ≡ Some of → IsAssigned ms m of
type_assigned_in ms m i x None of at is e = absurd (none-some _ e)
type_assigned_in ms m i x (Some a) of at is e =
    assignment_assigned ms m i x a of at is (ap type_assigned (assigns_type a of e))

type_assigned_at : (ms : List ModuleTerm) (m i : ℕ) (of : TypeTerm) → type_at ms m i ≡ Some of → IsAssigned ms m of
unfolding type_at
type_assigned_at ms m i of h = by (slice_get ms m) refl h
  where
    by : (found : Option ModuleTerm) → slice_get ms m ≡ found → (elim found as (λ _. Option TypeTerm) [
      | None ↦ None
      | Some x ↦ assigned_type (slice_get x.assignments i)
    ]) ≡ Some of → IsAssigned ms m of
    by None at e = absurd (none-some _ e)
    by (Some x) at e = type_assigned_in ms m i x (slice_get x.assignments i) of at refl e

-- the type that a name means is assigned
pub named_assigned : (ms : List ModuleTerm) (m v i : ℕ) (module_name : Option Token) (name : Token) (of : TypeTerm) →
    reference_meaning ms m module_name name ≡ TypeAt v i of → IsAssigned ms v of
named_assigned ms m v i module_name name of e =
    type_assigned_at ms v i of (reference_type ms m v i module_name name of e)
