-- An element has the attributes of its package, and no others: X.722, section 8.3.
use Rattle.std.specs.Prelude.{◌≡◌, ◌⊎◌, ℕ, zero, suc, List, [], ◌∷◌, Some, All, Contains, refl}
use Rattle.std.proofs.Common.{arith, inl, inr, ap, sym, subst}
use Rattle.std.proofs.lemmas.List.Elements.{All-nil, All-cons}
use Rattle.term_model.specs.declared.packages.PackageRec.{PackageRec}
use Rattle.term_model.specs.declared.packages.Property.{Property}
use Rattle.term_model.specs.declared.schema.ClassRec.{ClassRec}
use Rattle.term_model.specs.Inheritance.{Derives, HasAttribute, HasPackage, IsAbove}
use Rattle.term_model.specs.Inheritance.IsAbove.{Further, Itself}
use Rattle.term_model.specs.ObjectAttributes.{identifiers}
use Rattle.term_model.proofs.ExampleNetwork.{element, element_class, element_oid, element_package, id_oid, id_property}
use Rattle.term_model.proofs.ExampleNetwork.{load_oid, load_property}
use Rattle.term_model.proofs.ExampleNetwork.{network}

pub both : {X : Type 0} (P : X → Type 0) (x y : X) → P x → P y → All P (x ∷ y ∷ [])
both P x y p q = All-cons P x (y ∷ []) p (All-cons P y [] q (All-nil P))

-- an element has the attributes of its package
has_package : HasPackage network element_oid [] element_package
has_package = record {
  above = element_oid;
  is_above = Itself;
  of_class = element_class;
  record_of = record { known = (0, omega arith, refl); named = refl };
  there = inl (0, omega arith, refl);
}

has_id : HasAttribute network element_oid [] id_oid
has_id = record {
  of_package = element_package;
  has = has_package;
  property = id_property;
  stated = (0, omega arith, refl);
  is = refl;
}

has_load : HasAttribute network element_oid [] load_oid
has_load = record {
  of_package = element_package;
  has = has_package;
  property = load_property;
  stated = (1, omega arith, refl);
  is = refl;
}

-- and no others: it derives from no class, and has no other package
pub contains_one : {X : Type 0} {x y : X} → Contains (x ∷ []) y → x ≡ y
contains_one (zero, within, is) = is
contains_one (suc i, within, is) = absurd (omega arith)

pub contains_none : {X : Type 0} {y : X} → Contains {X = X} [] y → ⊥
contains_none (i, within, is) = absurd (omega arith)

only_itself : {above : List ℕ} → IsAbove network element_oid above → (class : List ℕ) → Derives network above class → ⊥
only_itself is class derives =
    contains_none (subst (λ (of_class : ClassRec). Contains of_class.superclasses class)
    (sym (contains_one derives.has.known)) derives.from)

above_element : {above : List ℕ} → IsAbove network element_oid above → element_oid ≡ above
above_element Itself = refl
above_element (Further is derives) = absurd (only_itself is _ derives)

pub mandatory_of : (of_class : ClassRec) (is : element_class ≡ of_class) (has : PackageRec)
    → Contains of_class.mandatory has
    ⊎ (Contains of_class.conditional has × ((id : List ℕ) × (has.id ≡ Some id) × Contains [] id))
    → element_package ≡ has
mandatory_of of_class is has (inl there) =
    contains_one (subst (λ (c : ClassRec). Contains c.mandatory has) (sym is) there)
mandatory_of of_class is has (inr there) =
    absurd (contains_none (subst (λ (c : ClassRec). Contains c.conditional has) (sym is) there.0))

element_package_only : {has : PackageRec} → HasPackage network element_oid [] has → element_package ≡ has
element_package_only {has} h = mandatory_of h.of_class (contains_one h.record_of.known) has h.there

pub of_two : (property : Property) → Contains (id_property ∷ load_property ∷ []) property
    → Contains (identifiers element.attrs) property.attribute
of_two property (zero, within, is) = (0, omega arith, ap (λ (p : Property). p.attribute) is)
of_two property (suc zero, within, is) = (1, omega arith, ap (λ (p : Property). p.attribute) is)
of_two property (suc (suc i), within, is) = absurd (omega arith)

only_these : (attribute : List ℕ) → HasAttribute network element_oid [] attribute
    → Contains (identifiers element.attrs) attribute
only_these attribute h =
    subst (Contains (identifiers element.attrs)) h.is
    (of_two h.property (subst (λ (p : PackageRec). Contains p.attributes h.property)
    (sym (element_package_only h.has)) h.stated))
