-- A schema that is whole: an element with the attributes elementId and load, elements below elements, and two of them
-- at the opening; X.722, section 8; docs/PROFILE.md, sections 2, 3 and 9.
use Rattle.std.specs.Prelude.{◌≡◌, ◌≢◌, ◌⊎◌, ◌↔◌, ℕ, ℤ, pos, zero, suc, List, [], ◌∷◌, true, Option, None, Some}
use Rattle.std.specs.Prelude.{All, Contains, refl, slice_index_or}
use Rattle.std.specs.List.{IsDistinct}
use Rattle.std.proofs.Common.{◌∙◌, arith, inl, inr, ap, sym, subst, true≢false}
use Rattle.std.proofs.lemmas.List.Elements.{All-nil, All-cons}
use Rattle.std.proofs.lemmas.List.Kept.{AllPairs-cons}
use Rattle.std.proofs.lemmas.Map.Made.{AllPairs-from_IsDistinct}
use Rattle.std.proofs.lemmas.Slice.Eq.{bytes_eq-Decides}
use Rattle.term_values.specs.Bounded.{allowed}
use Rattle.term_values.specs.Der.{identifier_octets, length_octets}
use Rattle.term_values.specs.Fits.{Fits}
use Rattle.term_values.specs.Octets.{integer_contents}
use Rattle.term_values.specs.Soundness.{IsSound}
use Rattle.term_values.specs.Syntaxes.{Bounds, TypeSyntax}
use Rattle.term_values.specs.Syntaxes.TypeSyntax.{Integer}
use Rattle.term_values.specs.Typed.{TypedValue}
use Rattle.term_values.specs.Typed.TypedValue.{Int}
use Rattle.term_model.specs.declared.object.Attribute.{Attribute}
use Rattle.term_model.specs.declared.packages.PackageRec.{PackageRec}
use Rattle.term_model.specs.declared.packages.Property.{Property}
use Rattle.term_model.specs.declared.schema.AttrRec.{AttrRec}
use Rattle.term_model.specs.declared.schema.ClassRec.{ClassRec}
use Rattle.term_model.specs.declared.schema.GroupRec.{GroupRec}
use Rattle.term_model.specs.declared.schema.Set.{Set}
use Rattle.term_model.specs.Inheritance.{Derives, HasRecord}
use Rattle.term_model.specs.Inheritance.IsAbove.{Itself}
use Rattle.term_model.specs.JoinedProperties.{HasJoined, Holds, IsJoined, OwnStates, SomeStates, States}
use Rattle.term_model.specs.JoinedProperties.Holds.{Inherited, Own}
use Rattle.term_model.specs.WholeRecords.{IsAction, IsAttribute, IsClass, IsFillable, IsNotEmpty, IsNotification}
use Rattle.term_model.specs.WholeRecords.{IsValueOf, IsWholeAction, IsWholeBinding, IsWholeClass}
use Rattle.term_model.specs.WholeRecords.{IsWholeNotification, IsWholePackage, IsWholeProperty, IsWholeUse, IsWithin}
use Rattle.term_model.specs.WholeSet.{identifiers_of, IsWhole, IsWholeInstance, IsWholePart, IsWholeRule}
use Rattle.term_model.specs.WholeSet.{labels_of}
use Rattle.term_model.proofs.CreatingFacts.{bound_network, element_at, element_binding, five, id_is, root_at}
use Rattle.term_model.proofs.ExampleNetwork.{element_class, element_oid, element_package, id_oid, id_property}
use Rattle.term_model.proofs.ExampleNetwork.{id_template, load_oid, load_property, load_template, load_value}
use Rattle.term_model.proofs.ElementFacts.{both, contains_none, contains_one}

-- the element and its binding, with a root and the element {elementId = 5} below it at the opening
abbrev pub whole_network : Set
whole_network = bound_network (root_at ∷ element_at (five ∷ []) 5 ∷ [])

abbrev pub stated_by_element : List Property
stated_by_element = id_property ∷ load_property ∷ []

pub one : {X : Type 0} (P : X → Type 0) (x : X) → P x → All P (x ∷ [])
one P x p = All-cons P x [] p (All-nil P)

pub contains_two : {X : Type 0} {x y z : X} → Contains (x ∷ y ∷ []) z → (x ≡ z) ⊎ (y ≡ z)
contains_two (zero, within, is) = inl is
contains_two (suc zero, within, is) = inr is
contains_two (suc (suc i), within, is) = absurd (omega arith)

-- ---- what the class states, which derives from no other

pub has_element : HasRecord whole_network element_oid element_class
has_element = record { known = (0, omega arith, refl); named = refl }

pub derives_none : {class above : List ℕ} → Derives whole_network class above → ⊥
derives_none {class} {above} derives =
    contains_none (subst (λ (of_class : ClassRec). Contains of_class.superclasses above)
    (sym (contains_one derives.has.known)) derives.from)

pub package_only : (of_class : ClassRec) (is : element_class ≡ of_class) (has : PackageRec)
    → Contains of_class.mandatory has ⊎ Contains of_class.conditional has → element_package ≡ has
package_only of_class is has (inl there) =
    contains_one (subst (λ (c : ClassRec). Contains c.mandatory has) (sym is) there)
package_only of_class is has (inr there) =
    absurd (contains_none (subst (λ (c : ClassRec). Contains c.conditional has) (sym is) there))

own_only : (of_class : ClassRec) → element_class ≡ of_class → (stated : Property) → OwnStates of_class stated
    → Contains stated_by_element stated
own_only of_class is stated own =
    subst (λ (of_package : PackageRec). Contains of_package.attributes stated)
    (sym (package_only of_class is own.of_package own.own)) own.says

states_only : (stated : Property) → States whole_network element_oid stated → Contains stated_by_element stated
states_only stated states = own_only states.of_class (contains_one states.record_of.known) stated states.says

own_states : (stated : Property) → Contains stated_by_element stated → OwnStates element_class stated
own_states stated there = record {
  of_package = element_package;
  own = inl (0, omega arith, refl);
  says = there;
}

states_each : (stated : Property) → Contains stated_by_element stated → States whole_network element_oid stated
states_each stated there = record {
  above = element_oid;
  is_above = Itself;
  of_class = element_class;
  record_of = has_element;
  says = own_states stated there;
}

pub ids_differ : id_oid ≢ load_oid
ids_differ is =
    let arcs : 1 ≡ 2 = ap (λ (arcs : List ℕ). slice_index_or arcs 3 0) is in absurd (omega (arith, arcs))

-- ---- one statement of an attribute is what is joined of it

-- the class states nothing else of the attribute
IsAlone : Property → Type 0
IsAlone stated =
    (other : Property) → Contains stated_by_element other → other.attribute ≡ stated.attribute → stated ≡ other

alone_such : (stated : Property) → IsAlone stated → (such : Property → Type 0)
    → SomeStates whole_network element_oid stated.attribute such → such stated
unfolding IsAlone
alone_such stated alone such (other, states, is, holds) =
    subst such (sym (alone other (states_only other states) is)) holds

some_states : (stated : Property) → Contains stated_by_element stated → IsAlone stated
    → (such : Property → Type 0) → such stated ↔ SomeStates whole_network element_oid stated.attribute such
some_states stated there alone such = (
  λ holds. (stated, states_each stated there, refl, holds),
  alone_such stated alone such,
)

alone_holds : (which : Property → Option TypedValue) (stated : Property) → IsAlone stated → (value : TypedValue)
    → Holds whole_network which stated.attribute element_oid value → which stated ≡ Some value
unfolding IsAlone
alone_holds which stated alone value (Own of_class other has own is holds) =
    subst (λ (property : Property). which property ≡ Some value)
    (sym (alone other (own_only of_class (contains_one has.known) other own) is)) holds
alone_holds which stated alone value (Inherited of_class has none derives holds) = absurd (derives_none derives)

holds_alone : (which : Property → Option TypedValue) (stated : Property) → Contains stated_by_element stated
    → IsAlone stated → (value : TypedValue)
    → (which stated ≡ Some value) ↔ Holds whole_network which stated.attribute element_oid value
holds_alone which stated there alone value = (
  Own element_class stated has_element (own_states stated there) refl,
  alone_holds which stated alone value,
)

joined_alone : (stated : Property) → Contains stated_by_element stated → IsAlone stated
    → IsJoined whole_network element_oid stated
joined_alone stated there alone = record {
  stated = (stated, states_each stated there, refl, tt);
  get = some_states stated there alone (λ (property : Property). property.get ≡ true);
  replace = some_states stated there alone (λ (property : Property). property.replace ≡ true);
  add = some_states stated there alone (λ (property : Property). property.add ≡ true);
  remove = some_states stated there alone (λ (property : Property). property.remove ≡ true);
  set_to_default = some_states stated there alone (λ (property : Property). property.set_to_default ≡ true);
  permitted = λ type. some_states stated there alone (λ (property : Property). Contains property.permitted type);
  required = λ name. some_states stated there alone (λ (property : Property). Contains property.required name);
  default = holds_alone (λ (property : Property). property.default) stated there alone;
  initial = holds_alone (λ (property : Property). property.initial) stated there alone;
}

id_alone : (other : Property) → (id_property ≡ other) ⊎ (load_property ≡ other) → other.attribute ≡ id_oid
    → id_property ≡ other
id_alone other (inl is) named = is
id_alone other (inr is) named = absurd (ids_differ (sym (ap (λ (p : Property). p.attribute) is ∙ named)))

load_alone : (other : Property) → (id_property ≡ other) ⊎ (load_property ≡ other) → other.attribute ≡ load_oid
    → load_property ≡ other
load_alone other (inl is) named = absurd (ids_differ (ap (λ (p : Property). p.attribute) is ∙ named))
load_alone other (inr is) named = is

pub attribute_stated : (stated : Property) → (id_property ≡ stated) ⊎ (load_property ≡ stated)
    → Contains (id_oid ∷ load_oid ∷ []) stated.attribute
attribute_stated stated (inl is) = (0, omega arith, ap (λ (p : Property). p.attribute) is)
attribute_stated stated (inr is) = (1, omega arith, ap (λ (p : Property). p.attribute) is)

element_joined : HasJoined whole_network element_class
unfolding IsAlone
element_joined = record {
  joined = both (IsJoined whole_network element_oid) id_property load_property
      (joined_alone id_property (0, omega arith, refl) (λ other there. id_alone other (contains_two there)))
      (joined_alone load_property (1, omega arith, refl) (λ other there. load_alone other (contains_two there)));
  once = AllPairs-cons (λ (one other : Property). one.attribute ≢ other.attribute) id_property (load_property ∷ [])
      (one (λ (other : Property). id_oid ≢ other.attribute) load_property ids_differ)
      (λ i j d below within. absurd (omega arith));
  each = λ stated states. attribute_stated stated (contains_two (states_only stated states));
}

-- ---- the records of the schema

-- a number that the bounds of an INTEGER allow, whatever its form is called
bounds_of : Option (ℕ × Bounds) → Bounds
bounds_of None = []
bounds_of (Some (form, bounds)) = bounds

pub is_within : (bounds : Bounds) (n : ℤ) → allowed bounds n ≡ true → (form : ℕ)
    → IsWithin form n (Integer [] bounds)
unfolding bounds_of
is_within bounds n holds form other is =
    subst (λ (of_form : Option (ℕ × Bounds)). allowed (bounds_of of_form) n ≡ true) is holds

any_number : IsNotEmpty (Integer [] []) []
any_number form bounds is = (
  pos 0,
  omega arith,
  λ other. omega arith,
  is_within [] (pos 0) refl form,
  All-nil (IsWithin form (pos 0)),
)

pub syntax_is : (template : AttrRec) → (id_template ≡ template) ⊎ (load_template ≡ template)
    → Integer [] [] ≡ template.syntax
syntax_is template (inl is) = ap (λ (t : AttrRec). t.syntax) is
syntax_is template (inr is) = ap (λ (t : AttrRec). t.syntax) is

not_empty : (joined : Property) → joined.permitted ≡ [] → IsFillable whole_network joined
not_empty joined none template known named =
    subst (λ (syntax : TypeSyntax). IsNotEmpty syntax joined.permitted) (syntax_is template (contains_two known))
    (subst (IsNotEmpty (Integer [] [])) (sym none) any_number)

id_whole : IsWholeProperty whole_network id_property
id_whole = record {
  template = id_template;
  known = (0, omega arith, refl);
  named = refl;
  default = tt;
  initial = tt;
  permitted = All-nil IsSound;
  add = λ is. absurd (true≢false (sym is));
  remove = λ is. absurd (true≢false (sym is));
}

load_whole : IsWholeProperty whole_network load_property
load_whole = record {
  template = load_template;
  known = (1, omega arith, refl);
  named = refl;
  default = tt;
  initial = tt;
  permitted = All-nil IsSound;
  add = λ is. absurd (true≢false (sym is));
  remove = λ is. absurd (true≢false (sym is));
}

both_whole : All (IsWholeProperty whole_network) stated_by_element
both_whole = both (IsWholeProperty whole_network) id_property load_property id_whole load_whole

package_whole : IsWholePackage whole_network element_package
package_whole = record {
  attributes = both_whole;
  groups = All-nil (IsWholeUse whole_network);
  actions = All-nil (IsAction whole_network);
  notifications = All-nil (IsNotification whole_network);
}

class_whole : IsWholeClass whole_network element_class
class_whole = record {
  superclasses = All-nil (IsClass whole_network);
  mandatory = one (IsWholePackage whole_network) element_package package_whole;
  conditional = All-nil (IsWholePackage whole_network);
  joined = element_joined;
  properties = both_whole;
  fillable = both (IsFillable whole_network) id_property load_property
      (not_empty id_property refl) (not_empty load_property refl);
}

binding_whole : IsWholeBinding whole_network element_binding
binding_whole = record {
  subordinate = (0, omega arith, refl);
  superior = (0, omega arith, refl);
  attribute = (0, omega arith, refl);
}

id_value_of : (n : ℕ) → Fits (Integer [] []) (Int (pos n)) → IsValueOf whole_network id_oid (Int (pos n))
id_value_of n fits = record { template = id_template; known = (0, omega arith, refl); named = refl; fits = fits }

load_value_of : IsValueOf whole_network load_oid load_value.value
load_value_of = record {
  template = load_template;
  known = (1, omega arith, refl);
  named = refl;
  fits = (omega arith, refl);
}

abbrev IsGiven : Attribute → Type 0
IsGiven held = IsValueOf whole_network held.id held.value

given_whole : (n : ℕ) → Fits (Integer [] []) (Int (pos n)) → All IsGiven (id_is n ∷ load_value ∷ [])
given_whole n fits = both IsGiven (id_is n) load_value (id_value_of n fits) load_value_of

part_whole : IsWholePart whole_network five
unfolding identifier_octets length_octets integer_contents
part_whole = (Int (pos 5), (id_template, (0, omega arith, refl), refl, (omega arith, refl), refl))

system_whole : IsWholePart whole_network (record { attribute = id_oid; value = 2 ∷ 1 ∷ 1 ∷ [] })
unfolding identifier_octets length_octets integer_contents
system_whole = (Int (pos 1), (id_template, (0, omega arith, refl), refl, (omega arith, refl), refl))

root_whole : IsWholeInstance whole_network root_at
root_whole = record {
  class = (0, omega arith, refl);
  name = All-nil (IsWholePart whole_network);
  given = given_whole 1 (omega arith, refl);
}

five_whole : IsWholeInstance whole_network (element_at (five ∷ []) 5)
five_whole = record {
  class = (0, omega arith, refl);
  name = one (IsWholePart whole_network) five part_whole;
  given = given_whole 5 (omega arith, refl);
}

pub network_is_whole : IsWhole whole_network
unfolding IsDistinct
network_is_whole = record {
  identifiers = AllPairs-from_IsDistinct bytes_eq-Decides (identifiers_of whole_network)
      ((refl, (refl, (refl, tt))), ((refl, (refl, tt)), ((refl, tt), (tt, tt))));
  labels = AllPairs-from_IsDistinct bytes_eq-Decides (labels_of whole_network)
      ((refl, (refl, (refl, tt))), ((refl, (refl, tt)), ((refl, tt), (tt, tt))));
  classes = one (IsWholeClass whole_network) element_class class_whole;
  ordered = (λ class. 0, λ class is. omega arith, λ class above derives. absurd (derives_none derives));
  attributes = both (λ (template : AttrRec). IsSound template.syntax) id_template load_template (refl, tt) (refl, tt);
  groups = All-nil (λ (group : GroupRec). All (IsAttribute whole_network) group.members);
  bindings = one (IsWholeBinding whole_network) element_binding binding_whole;
  actions = All-nil IsWholeAction;
  notifications = All-nil (IsWholeNotification whole_network);
  rules = All-nil (IsWholeRule whole_network);
  apart = λ i j d below within. absurd (omega arith);
  instances = both (IsWholeInstance whole_network) root_at (element_at (five ∷ []) 5) root_whole five_whole;
  system = one (IsWholePart whole_network) (record { attribute = id_oid; value = 2 ∷ 1 ∷ 1 ∷ [] }) system_whole;
}
