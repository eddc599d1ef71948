-- NamedTypes: which assigned type a name means, and what is known of those that a part of a type names (X.680, section
-- 16).
use Rattle.std.proofs.Common.{◌≡◌, ℕ, List, Bool, true, false, Option, None, Some, refl, ap, subst}
use Rattle.std.specs.Prelude.{slice_get, unwrap_or}
use Rattle.token_grammar.specs.declared.token.Token.{Token}
use Rattle.asn1_names.specs.AssignmentNumbers.{Numbered, numbered_at}
use Rattle.asn1_names.specs.CodeMeanings.{IsTypeNumber, IsTypeOf}
use Rattle.asn1_names.specs.Containment.{IsCyclic, IsMember, Within}
use Rattle.asn1_names.specs.Containment.Within.{alternative, component, element, itself, tagged}
use Rattle.asn1_names.specs.ModuleTerms.{LimitTerm, MemberTerms, ModuleTerm, PresenceTerm, RangeTerm, TagTerm, TypeTerm}
use Rattle.asn1_names.specs.ModuleTerms.TypeTerm.{Alternatives, Reference, Repeated, Structure, Under}
use Rattle.asn1_names.specs.NameMeaning.{reference_meaning}
use Rattle.asn1_names.specs.Occurrences.{type_assigned}
use Rattle.asn1_names.specs.TypeWalks.{NamesType}
use Rattle.asn1_numbers.specs.NumberedTypes.{IsCyclicNumber, MarkCyclic}
use Rattle.asn1_tags.specs.KnownFacts.{AreKnown, is_marked}

pub type_named : {ms : List ModuleTerm} {m number : ℕ} (module_name : Option Token) (name : Token)
    (limits : List LimitTerm) → IsTypeNumber ms number (reference_meaning ms m module_name name) →
    NamesType ms m (Reference module_name name limits) number
type_named module_name name limits is = record {
  numbered = is.numbered;
  at = is.at;
  names = record {
    module_name = module_name;
    name = name;
    limits = limits;
    stands = itself;
    named = is.of;
    means = is.is;
  };
}

pub type_is : {ms : List ModuleTerm} {number : ℕ} {meaning : _} (is : IsTypeNumber ms number meaning) →
    IsTypeOf ms number is.numbered.in_module is.of
type_is is = record { numbered = is.numbered; at = is.at; module_is = refl; is = ap type_assigned is.assigns }

one_numbered : (found : Option Numbered) (x y : Numbered) → found ≡ Some x → found ≡ Some y → x ≡ y
one_numbered found x y e f = cc

pub cyclic_at : {ms : List ModuleTerm} {number : ℕ} (x : Numbered) → numbered_at ms number ≡ Some x →
    IsCyclicNumber ms number → IsCyclic ms x.in_module x.place
cyclic_at {ms = ms} {number = number} x at c =
    subst (λ y. IsCyclic ms y.in_module y.place) (one_numbered (numbered_at ms number) c.numbered x c.at at) c.cyclic

pub number_at : {ms : List ModuleTerm} {number : ℕ} (x : Numbered) → numbered_at ms number ≡ Some x →
    IsCyclic ms x.in_module x.place → IsCyclicNumber ms number
number_at x at c = record { numbered = x; at = at; cyclic = c }

pub not_cyclic_at : {ms : List ModuleTerm} {number : ℕ} (x : Numbered) → numbered_at ms number ≡ Some x →
    ¬ IsCyclicNumber ms number → ¬ IsCyclic ms x.in_module x.place
not_cyclic_at x at unless cyclic = unless (number_at x at cyclic)

-- ---- marks

marked_by : (found : Option Bool) → unwrap_or found false ≡ true → found ≡ Some true
marked_by None e = absurd (cc)
marked_by (Some x) e = ap Some e

pub marked : {ms : List ModuleTerm} {marks : List Bool} (number : ℕ) → MarkCyclic ms marks →
    is_marked marks number ≡ true → IsCyclicNumber ms number
marked {marks = marks} number are e = are.cyclic number (marked_by (slice_get marks number) e)

not_marked : (found : Option Bool) → unwrap_or found false ≡ false → found ≡ Some true → ⊥
not_marked found e f = absurd (cc)

pub unmarked : {ms : List ModuleTerm} {marks : List Bool} (number : ℕ) → MarkCyclic ms marks →
    is_marked marks number ≡ false → ¬ IsCyclicNumber ms number
unmarked {marks = marks} number are e c = not_marked (slice_get marks number) e (are.marked number c)

-- ---- what a part names the whole names too

part_known : {Knows : ℕ → Type 0} {ms : List ModuleTerm} {marks : List Bool} {m : ℕ} (part of : TypeTerm) →
    ((inner : TypeTerm) → Within inner part → Within inner of) → AreKnown Knows ms marks m of →
    AreKnown Knows ms marks m part
part_known part of stands known = record {
  marked = known.marked;
  each = λ number names. known.each number (record {
    numbered = names.numbered;
    at = names.at;
    names = record {
      module_name = names.names.module_name;
      name = names.names.name;
      limits = names.names.limits;
      stands = stands (Reference names.names.module_name names.names.name names.names.limits) names.names.stands;
      named = names.names.named;
      means = names.names.means;
    };
  });
}

pub tagged_known : {Knows : ℕ → Type 0} {ms : List ModuleTerm} {marks : List Bool} {m : ℕ} (tag : TagTerm)
    (mode : Option Token) (of : TypeTerm) → AreKnown Knows ms marks m (Under tag mode of) → AreKnown Knows ms marks m of
tagged_known tag mode of = part_known of (Under tag mode of) (λ inner. tagged)

pub element_known : {Knows : ℕ → Type 0} {ms : List ModuleTerm} {marks : List Bool} {m : ℕ} (word : Token)
    (size : Option (List RangeTerm)) (of : TypeTerm) → AreKnown Knows ms marks m (Repeated word size of) →
    AreKnown Knows ms marks m of
element_known word size of = part_known of (Repeated word size of) (λ inner. element)

pub component_known : {Knows : ℕ → Type 0} {ms : List ModuleTerm} {marks : List Bool} {m k : ℕ} (word : Token)
    (rows : MemberTerms) (limits : List LimitTerm) (of : TypeTerm) (presence : PresenceTerm) →
    IsMember rows k of presence → AreKnown Knows ms marks m (Structure word rows limits) → AreKnown Knows ms marks m of
component_known word rows limits of presence is =
    part_known of (Structure word rows limits) (λ inner. component is)

pub alternative_known : {Knows : ℕ → Type 0} {ms : List ModuleTerm} {marks : List Bool} {m k : ℕ} (word : Token)
    (rows : MemberTerms) (limits : List LimitTerm) (of : TypeTerm) (presence : PresenceTerm) →
    IsMember rows k of presence → AreKnown Knows ms marks m (Alternatives word rows limits) →
    AreKnown Knows ms marks m of
alternative_known word rows limits of presence is =
    part_known of (Alternatives word rows limits) (λ inner. alternative is)
