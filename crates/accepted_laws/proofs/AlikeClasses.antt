-- AlikeClasses: linked parts that are alike have the same faults of classes and packages (X.722, sections 8.3, 8.4 and
-- 8.7; docs/PROFILE.md, section 18).
use Rattle.std.specs.Prelude.{◌⊎◌, Contains}
use Rattle.std.proofs.Common.{◌≡◌, ℕ, List, [], ◌∷◌, Option, Some, refl, sym, ◌∙◌, ap, inl, inr, map, subst}
use Rattle.std.proofs.lemmas.Option.{get_or_from_slice_get, slice_get-get_or, slice_get_within}
use Rattle.term_values.specs.Syntaxes.{TypeSyntax}
use Rattle.term_values.specs.Typed.{TypedValue}
use Rattle.token_grammar.specs.declared.token.Token.{Token}
use Rattle.asn1_names.specs.ModuleTerms.{ModuleTerm}
use Rattle.link_graphs.specs.Leading.{Leads, Reaches}
use Rattle.gdmo_names.specs.InStep.{AreEach}
use Rattle.gdmo_linking.proofs.StepLaws.{each_at}
use Rattle.linked_parts.specs.declared.linked.Linked.{Linked}
use Rattle.linked_parts.specs.declared.linked.LinkedAttribute.{LinkedAttribute}
use Rattle.linked_parts.specs.declared.linked.LinkedClass.{LinkedClass}
use Rattle.linked_parts.specs.declared.linked.LinkedHead.{LinkedHead}
use Rattle.linked_parts.specs.declared.linked.LinkedName.{LinkedName}
use Rattle.linked_parts.specs.declared.linked.LinkedUse.{LinkedUse}
use Rattle.filled_syntaxes.specs.FilledSyntaxes.{HasFilled}
use Rattle.filled_syntaxes.specs.LinkedMeanings.{AssignsValue, linked_meaning}
use Rattle.class_faults.specs.AttributeSyntaxes.{AttributeHas, attribute_bases, bases_of}
use Rattle.class_faults.specs.AttributeSyntaxes.AttributeHas.{of_base, of_type}
use Rattle.class_faults.specs.CyclicClasses.{CyclicClassAt, IsLabelAt, superclass_lists}
use Rattle.class_faults.specs.CyclicClasses.CyclicClassAt.{of_attribute, of_class}
use Rattle.class_faults.specs.PackageFaults.{ArePermitted, EmptyPermittedAt, IsClassAt, IsSetWordAt, NotSetValuedAt}
use Rattle.class_faults.specs.PackageFaults.{UnequalDefaultAt}
use Rattle.class_faults.specs.StatedProperties.{HasValue, Holds, HoldsUnequal, OwnStates, States, TypeHas}
use Rattle.class_faults.specs.StatedProperties.Holds.{inherited, own}
use Rattle.accepted_laws.specs.AlikeParts.{AreAlike, AttributesAlike, ClassesAlike, HeadsAlike, PackagesAlike}

-- ---- lists that are alike

each_says : {A C : Type 0} (alike : A → A → Type 0) (view : A → C) → ((x y : A) → alike x y → view x ≡ view y) →
    (xs ys : List A) → AreEach alike xs ys → map view xs ≡ map view ys
each_says alike view same [] [] each = refl
each_says alike view same [] (y ∷ ys) each = absurd each
each_says alike view same (x ∷ xs) [] each = absurd each
each_says alike view same (x ∷ xs) (y ∷ ys) each =
    let first = same x y each.0 in
    let others = each_says alike view same xs ys each.1 in
    λ i. first i ∷ others i

pub each_contained : {A : Type 0} (alike : A → A → Type 0) (xs ys : List A) (x : A) → AreEach alike xs ys →
    Contains xs x → (y : A) × Contains ys y × alike x y
each_contained alike xs ys x each has =
    let found = each_at alike xs ys has.0 x each (slice_get-get_or xs has.0 x has.1 ∙ ap Some has.2) in (
      found.0,
      (has.0, slice_get_within ys has.0 found.0 found.1, get_or_from_slice_get ys has.0 found.0 found.0 found.1),
      found.2,
    )

-- ---- types and values, which depend on the arcs of first names alone

pub same_type : {ms : List ModuleTerm} {linked other : Linked} {syntax : TypeSyntax} (name : LinkedName) →
    AreAlike linked other → TypeHas ms linked name syntax → TypeHas ms other name syntax
same_type {ms = ms} {syntax = syntax} name alike has =
    subst (λ arcs. HasFilled ms arcs (linked_meaning ms name.meaning) syntax) alike.arcs has

pub same_value : {ms : List ModuleTerm} {linked other : Linked} {value : TypedValue} (name : LinkedName) →
    AreAlike linked other → HasValue ms linked name value → HasValue ms other name value
same_value {ms = ms} {value = value} name alike has =
    subst (λ arcs. AssignsValue ms arcs (linked_meaning ms name.meaning) value) alike.arcs has

-- ---- classes and attributes

label_alike : {x y : LinkedHead} {document at : ℕ} → HeadsAlike x y → IsLabelAt x document at → IsLabelAt y document at
label_alike head label = record {
  in_document = sym head.document ∙ label.in_document;
  at_token = ap (λ (t : Token). t.at) (sym head.label) ∙ label.at_token;
}

same_superclasses : {linked other : Linked} → AreAlike linked other → superclass_lists linked ≡ superclass_lists other
same_superclasses {linked} {other} alike = each_says ClassesAlike (λ (x : LinkedClass). x.superclasses.items)
    (λ x y same. same.superclasses) linked.classes.items other.classes.items alike.classes

same_bases : {linked other : Linked} → AreAlike linked other → attribute_bases linked ≡ attribute_bases other
same_bases {linked} {other} alike = each_says AttributesAlike (λ (x : LinkedAttribute). bases_of x.syntax)
    (λ x y same. ap bases_of same.syntax) linked.attributes.items other.attributes.items alike.attributes

pub same_cycles : {linked other : Linked} {document at : ℕ} → AreAlike linked other →
    CyclicClassAt linked document at → CyclicClassAt other document at
same_cycles {linked} {other} alike (of_class {k = k} {x = x} stands leads label) =
    let found = each_at ClassesAlike linked.classes.items other.classes.items k x alike.classes stands in
    of_class found.1 (subst (λ lists. Leads lists k k) (same_superclasses alike) leads)
    (label_alike found.2.head label)
same_cycles {linked} {other} alike (of_attribute {k = k} {x = x} stands leads label) =
    let found = each_at AttributesAlike linked.attributes.items other.attributes.items k x alike.attributes stands in
    of_attribute found.1 (subst (λ lists. Leads lists k k) (same_bases alike) leads)
    (label_alike found.2.head label)

pub same_syntax : {ms : List ModuleTerm} {linked other : Linked} {k : ℕ} {syntax : TypeSyntax} →
    AreAlike linked other → AttributeHas ms linked k syntax → AttributeHas ms other k syntax
same_syntax {linked = linked} {other = other} alike (of_type {k = k} {x = x} {name = name} stands is has) =
    let found = each_at AttributesAlike linked.attributes.items other.attributes.items k x alike.attributes stands in
    of_type found.1 (sym found.2.syntax ∙ is) (same_type name alike has)
same_syntax {linked = linked} {other = other} alike (of_base {k = k} {x = x} stands is rest) =
    let found = each_at AttributesAlike linked.attributes.items other.attributes.items k x alike.attributes stands in
    of_base found.1 (sym found.2.syntax ∙ is) (same_syntax alike rest)

-- ---- what packages state

own_states : {linked other : Linked} {k : ℕ} {stated : LinkedUse} → AreAlike linked other →
    OwnStates linked k stated → OwnStates other k stated
own_states {linked} {other} {k} {stated} alike states =
    let its_class = each_at ClassesAlike linked.classes.items other.classes.items k states.of_class alike.classes
    states.class_at in
    let its_package = each_at PackagesAlike linked.packages.items other.packages.items states.place states.of_package
    alike.packages states.package_at in
    record {
      of_class = its_class.0;
      class_at = its_class.1;
      place = states.place;
      own = by its_class.2 states.own;
      of_package = its_package.0;
      package_at = its_package.1;
      says = subst (λ uses. Contains uses stated) its_package.2.attributes states.says;
    }
  where
    by : {x y : LinkedClass} {place : ℕ} → ClassesAlike x y →
        Contains x.mandatory.items place ⊎ Contains x.conditional.items place →
        Contains y.mandatory.items place ⊎ Contains y.conditional.items place
    by {place = place} same (inl has) = inl (subst (λ places. Contains places place) same.mandatory has)
    by {place = place} same (inr has) = inr (subst (λ places. Contains places place) same.conditional has)

states_alike : {linked other : Linked} {k : ℕ} {stated : LinkedUse} → AreAlike linked other → States linked k stated →
    States other k stated
states_alike {k = k} alike states = record {
  above = states.above;
  is_above = subst (λ lists. Reaches lists k states.above) (same_superclasses alike) states.is_above;
  says = own_states alike states.says;
}

holds_alike : {ms : List ModuleTerm} {linked other : Linked} {which : LinkedUse → Option LinkedName} {attribute k : ℕ}
    {value : TypedValue} → AreAlike linked other → AreAlike other linked → Holds ms linked which attribute k value →
    Holds ms other which attribute k value
holds_alike alike back (own stated name states of is has) =
    own stated name (own_states alike states) of is (same_value name alike has)
holds_alike {linked = linked} {other = other} alike back
    (inherited {k = k} {above = above} its_class stands hides is_above rest) =
    let found = each_at ClassesAlike linked.classes.items other.classes.items k its_class alike.classes stands in
    inherited found.0 found.1 (λ stated states of. hides stated (own_states back states) of)
    (subst (λ places. Contains places above) found.2.superclasses is_above) (holds_alike alike back rest)

unequal_alike : {ms : List ModuleTerm} {linked other : Linked} {which : LinkedUse → Option LinkedName}
    {attribute k : ℕ} → AreAlike linked other → AreAlike other linked → HoldsUnequal ms linked which attribute k →
    HoldsUnequal ms other which attribute k
unequal_alike alike back two = record {
  one = two.one;
  one_holds = holds_alike alike back two.one_holds;
  other = two.other;
  other_holds = holds_alike alike back two.other_holds;
  unequal = two.unequal;
}

class_alike : {linked other : Linked} {k document at : ℕ} → AreAlike linked other → IsClassAt linked k document at →
    IsClassAt other k document at
class_alike {linked} {other} {k} alike is =
    let found = each_at ClassesAlike linked.classes.items other.classes.items k is.of_class alike.classes is.stands in
    record { of_class = found.0; stands = found.1; label = label_alike found.2.head is.label }

pub same_defaults : {ms : List ModuleTerm} {linked other : Linked} {document at : ℕ} → AreAlike linked other →
    AreAlike other linked → UnequalDefaultAt ms linked document at → UnequalDefaultAt ms other document at
same_defaults {ms} {linked} {other} alike back fault = record {
  k = fault.k;
  is_class = class_alike alike fault.is_class;
  attribute = fault.attribute;
  unequal = by fault.unequal;
}
  where
    by : {attribute k : ℕ} → HoldsUnequal ms linked (λ (stated : LinkedUse). stated.default_value) attribute k
        ⊎ HoldsUnequal ms linked (λ (stated : LinkedUse). stated.initial_value) attribute k →
        HoldsUnequal ms other (λ (stated : LinkedUse). stated.default_value) attribute k
        ⊎ HoldsUnequal ms other (λ (stated : LinkedUse). stated.initial_value) attribute k
    by (inl two) = inl (unequal_alike alike back two)
    by (inr two) = inr (unequal_alike alike back two)

permits_alike : {ms : List ModuleTerm} {linked other : Linked} {k attribute : ℕ} {types : List TypeSyntax} →
    AreAlike linked other → AreAlike other linked → ArePermitted ms linked k attribute types →
    ArePermitted ms other k attribute types
permits_alike alike back permit = record {
  each = λ type. (
    (λ has. let p = (permit.each type).0 has in
        (p.0, (p.1.0, states_alike alike p.1.1, p.1.2, p.1.3, same_type p.1.0 alike p.1.4))),
    (λ p. (permit.each type).1
        (p.0, (p.1.0, states_alike back p.1.1, p.1.2, p.1.3, same_type p.1.0 back p.1.4))),
  );
}

pub same_permits : {ms : List ModuleTerm} {linked other : Linked} {document at : ℕ} → AreAlike linked other →
    AreAlike other linked → EmptyPermittedAt ms linked document at → EmptyPermittedAt ms other document at
same_permits alike back fault = record {
  k = fault.k;
  is_class = class_alike alike fault.is_class;
  attribute = fault.attribute;
  stated = fault.stated;
  states = states_alike alike fault.states;
  of_attribute = fault.of_attribute;
  syntax = fault.syntax;
  has = same_syntax alike fault.has;
  types = fault.types;
  permit = permits_alike alike back fault.permit;
  empty = fault.empty;
}

set_word_alike : {linked other : Linked} {stated : LinkedUse} {document at : ℕ} → AreAlike linked other →
    IsSetWordAt linked stated document at → IsSetWordAt other stated document at
set_word_alike {linked} {other} {stated} alike is =
    let found = each_at PackagesAlike linked.packages.items other.packages.items is.place is.of_package alike.packages
    is.stands in
    record {
      place = is.place;
      of_package = found.0;
      stands = found.1;
      says = subst (λ uses. Contains uses stated) found.2.attributes is.says;
      in_document = sym found.2.head.document ∙ is.in_document;
      word = is.word;
      is_word = is.is_word;
      at_token = is.at_token;
    }

pub same_sets : {ms : List ModuleTerm} {linked other : Linked} {document at : ℕ} → AreAlike linked other →
    NotSetValuedAt ms linked document at → NotSetValuedAt ms other document at
same_sets alike fault = record {
  stated = fault.stated;
  is_word = set_word_alike alike fault.is_word;
  syntax = fault.syntax;
  has = same_syntax alike fault.has;
  no_set = fault.no_set;
}
