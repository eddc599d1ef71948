-- Two objects that are good under a whole schema: a root with an element below it, as they are opened; X.720, sections
-- 5 and 6; X.722, sections 8.3 to 8.6.
use Rattle.std.specs.Prelude.{◌≡◌, ◌⊎◌, ◌++◌, ℕ, suc, pos, List, [], ◌∷◌, false, All, Contains, length, refl}
use Rattle.std.specs.Prelude.{slice_index_or}
use Rattle.std.specs.List.Sorted.{IsStrictlySortedBy}
use Rattle.std.proofs.Common.{◌∙◌, arith, inl, inr, ap, sym, subst}
use Rattle.std.proofs.lemmas.List.Elements.{All-nil}
use Rattle.term_values.specs.Der.{identifier_octets, length_octets}
use Rattle.term_values.specs.Fits.{Fits}
use Rattle.term_values.specs.Octets.{integer_contents}
use Rattle.term_values.specs.Oid.{subidentifier}
use Rattle.term_values.specs.Syntaxes.{TypeSyntax}
use Rattle.term_values.specs.Syntaxes.TypeSyntax.{Integer}
use Rattle.term_values.specs.Typed.{TypedValue}
use Rattle.term_values.specs.Typed.TypedValue.{Int}
use Rattle.term_values.specs.Written.{der}
use Rattle.term_model.specs.declared.name.Rdn.{Rdn}
use Rattle.term_model.specs.declared.object.Attribute.{Attribute}
use Rattle.term_model.specs.declared.objects.NamedObject.{NamedObject}
use Rattle.term_model.specs.declared.packages.PackageRec.{PackageRec}
use Rattle.term_model.specs.declared.packages.Property.{Property}
use Rattle.term_model.specs.AgentWritten.{is_agent_written}
use Rattle.term_model.specs.BoundClasses.{is_bound_log}
use Rattle.term_model.specs.Inheritance.{HasAttribute, HasPackage}
use Rattle.term_model.specs.Inheritance.IsAbove.{Itself}
use Rattle.term_model.specs.WellFormedObjects.{AreGood, HasPart, HasValue, IsGoodName, IsGoodObject, IsPermitted}
use Rattle.term_model.proofs.CreatingFacts.{element_binding, element_five, five, id_is, six, two_elements}
use Rattle.term_model.proofs.ExampleNetwork.{element, element_class, element_oid, element_package, id_oid, id_property}
use Rattle.term_model.proofs.ExampleNetwork.{id_template, id_value, load_oid, load_property, load_template, load_value}
use Rattle.term_model.proofs.ElementFacts.{both, contains_one, mandatory_of}
use Rattle.term_model.proofs.WholeFacts.{attribute_stated, contains_two, has_element, ids_differ}
use Rattle.term_model.proofs.WholeFacts.{network_is_whole, stated_by_element, syntax_is, whole_network}

-- ---- which attributes an element has

has_package : HasPackage whole_network element_oid [] element_package
has_package = record {
  above = element_oid;
  is_above = Itself;
  of_class = element_class;
  record_of = has_element;
  there = inl (0, omega arith, refl);
}

abbrev Has : List ℕ → Type 0
Has = HasAttribute whole_network element_oid []

has_stated : (stated : Property) → Contains stated_by_element stated → Has stated.attribute
has_stated stated there = record {
  of_package = element_package;
  has = has_package;
  property = stated;
  stated = there;
  is = refl;
}

has_both : All Has (id_oid ∷ load_oid ∷ [])
has_both = both Has id_oid load_oid
    (has_stated id_property (0, omega arith, refl)) (has_stated load_property (1, omega arith, refl))

package_alone : {has : PackageRec} → HasPackage whole_network element_oid [] has → element_package ≡ has
package_alone {has} h = mandatory_of h.of_class (contains_one h.record_of.known) has h.there

has_only : (attribute : List ℕ) → Has attribute → Contains (id_oid ∷ load_oid ∷ []) attribute
has_only attribute h =
    subst (Contains (id_oid ∷ load_oid ∷ [])) h.is
    (attribute_stated h.property (contains_two (subst (λ (p : PackageRec). Contains p.attributes h.property)
    (sym (package_alone h.has)) h.stated)))

-- ---- their values

abbrev Holds : Attribute → Type 0
Holds = HasValue whole_network element_oid

load_holds : Holds load_value
unfolding identifier_octets length_octets integer_contents
load_holds = record {
  template = load_template;
  known = (1, omega arith, refl);
  named = refl;
  fits = (omega arith, refl);
  small = λ counted. omega arith;
}

one_holds : Holds (id_is 1)
unfolding identifier_octets length_octets integer_contents
one_holds = record {
  template = id_template;
  known = (0, omega arith, refl);
  named = refl;
  fits = (omega arith, refl);
  small = λ counted. omega arith;
}

five_holds : Holds (id_is 5)
unfolding identifier_octets length_octets integer_contents
five_holds = record {
  template = id_template;
  known = (0, omega arith, refl);
  named = refl;
  fits = (omega arith, refl);
  small = λ counted. omega arith;
}

-- no type restricts them
unrestricted : (stated : Property) → (id_property ≡ stated) ⊎ (load_property ≡ stated) → [] ≡ stated.permitted
unrestricted stated (inl is) = ap (λ (p : Property). p.permitted) is
unrestricted stated (inr is) = ap (λ (p : Property). p.permitted) is

each_permitted : (held : Attribute) → IsPermitted element_class held
each_permitted held property known named =
    subst (All (λ (type : TypeSyntax). Fits type held.value)) (unrestricted property (contains_two known))
    (All-nil (λ (type : TypeSyntax). Fits type held.value))

abbrev IsFree : Attribute → Type 0
IsFree held =
    is_agent_written whole_network (is_bound_log whole_network element_oid) held.id ≡ false
    → IsPermitted element_class held

-- ---- the objects

abbrev root_entry : NamedObject
root_entry = record { name = []; object = element }

abbrev five_entry : NamedObject
five_entry = record { name = five ∷ []; object = element_five }

root_is_good : IsGoodObject whole_network two_elements root_entry
unfolding IsStrictlySortedBy identifier_octets length_octets integer_contents subidentifier
root_is_good = record {
  class = element_class;
  known = has_element;
  once = ((refl, tt), (tt, tt));
  of_packages = has_both;
  each = has_only;
  values = both Holds id_value load_value one_holds load_holds;
  permitted = inr (both IsFree id_value load_value (λ other. each_permitted id_value)
      (λ other. each_permitted load_value));
  small = omega arith;
}

five_is_good : IsGoodObject whole_network two_elements five_entry
unfolding IsStrictlySortedBy identifier_octets length_octets integer_contents subidentifier
five_is_good = record {
  class = element_class;
  known = has_element;
  once = ((refl, tt), (tt, tt));
  of_packages = has_both;
  each = has_only;
  values = both Holds (id_is 5) load_value five_holds load_holds;
  permitted = inr (both IsFree (id_is 5) load_value (λ other. each_permitted (id_is 5))
      (λ other. each_permitted load_value));
  small = omega arith;
}

-- the element below the root is named by its elementId
five_has_part : HasPart whole_network element_five five
unfolding identifier_octets length_octets integer_contents
five_has_part = record {
  held = id_is 5;
  there = (0, omega arith, refl);
  named = refl;
  template = id_template;
  known = (0, omega arith, refl);
  is = refl;
  value = refl;
}

five_is_named : IsGoodName whole_network two_elements five_entry
five_is_named = record {
  front = [];
  last = five;
  is = refl;
  deep = omega arith;
  superior = element;
  there = refl;
  binding = element_binding;
  known = (0, omega arith, refl);
  bound = refl;
  subordinate = inl refl;
  above = inl refl;
  attribute = refl;
  plain = refl;
  value = five_has_part;
}

abbrev IsNamed : NamedObject → Type 0
IsNamed entry = (entry.name ≡ []) ⊎ IsGoodName whole_network two_elements entry

elements_are_good : AreGood whole_network two_elements
unfolding IsStrictlySortedBy
elements_are_good = record {
  whole = network_is_whole;
  root = (0, omega arith, refl);
  few = omega arith;
  by_name = ((refl, tt), (tt, tt));
  each = both (IsGoodObject whole_network two_elements) root_entry five_entry root_is_good five_is_good;
  below = both IsNamed root_entry five_entry (inl refl) (inr five_is_named);
}

-- ---- objects that are not good

-- without the root
no_root : AreGood whole_network (five_entry ∷ []) → ⊥
no_root good = let long : 1 ≡ 0 = ap length (contains_one good.root) in omega (arith, long)

-- the element with elementId 5 under the name {elementId = 6}
abbrev six_entry : NamedObject
six_entry = record { name = six ∷ []; object = element_five }

five_not_six : der (Integer [] []) (Int (pos 5)) ≡ six.value → ⊥
unfolding identifier_octets length_octets integer_contents
five_not_six is = let last : 5 ≡ 6 = ap (λ (octets : List ℕ). slice_index_or octets 2 0) is in omega (arith, last)

has_other_part : HasPart whole_network element_five six → ⊥
has_other_part part = of_held (contains_two part.there)
  where
    of_held : (id_is 5 ≡ part.held) ⊎ (load_value ≡ part.held) → ⊥
    of_held (inl is) =
        five_not_six (subst (λ (value : TypedValue). der (Integer [] []) value ≡ six.value)
        (sym (ap (λ (held : Attribute). held.value) is))
        (subst (λ (syntax : TypeSyntax). der syntax part.held.value ≡ six.value)
        (sym (syntax_is part.template (contains_two part.known))) part.value))
    of_held (inr is) = ids_differ (sym (ap (λ (held : Attribute). held.id) is ∙ part.named))

last_is : (front : List Rdn) (last : Rdn) → six ∷ [] ≡ front ++ last ∷ [] → six ≡ last
last_is [] last is = ap (λ (parts : List Rdn). slice_index_or parts 0 six) is
last_is (first ∷ []) last is = let long : 1 ≡ 2 = ap length is in absurd (omega (arith, long))
last_is (first ∷ second ∷ rest) last is =
    let long : 1 ≡ suc (suc (length (rest ++ last ∷ []))) = ap length is in absurd (omega (arith, long))

misnamed : IsGoodName whole_network two_elements six_entry → ⊥
misnamed named =
    has_other_part (subst (HasPart whole_network element_five) (sym (last_is named.front named.last named.is))
    named.value)
