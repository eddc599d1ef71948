-- The property by which managers may modify an attribute is the one that its class has for it, and the attribute is not
-- that by which the object is named.
use Rattle.std.proofs.Common.{◌≡◌, ℕ, ℤ, Bool, true, false, List, Option, None, Some, refl, sym, ◌∙◌, subst}
use Rattle.std.proofs.lemmas.Bool.{false≢true}
use Rattle.std.proofs.lemmas.List.Elements.{All-contains}
use Rattle.std.specs.Prelude.{◌||◌, Contains, option_and_then, if◌then◌else◌}
use Rattle.std.specs.Option.{option_map_or}
use Rattle.term_model.specs.declared.name.Rdn.{Rdn}
use Rattle.term_model.specs.declared.packages.Property.{Property}
use Rattle.term_model.specs.declared.schema.ClassRec.{ClassRec}
use Rattle.term_model.specs.declared.schema.Set.{Set}
use Rattle.term_model.specs.ClassAttributes.{property_among, property_of}
use Rattle.term_model.specs.Comparing.{is_same_oid}
use Rattle.term_model.specs.Inheritance.{HasRecord}
use Rattle.term_model.specs.Modifiable.{is_filled, lets_modify, modifiable, naming_attribute}
use Rattle.term_model.specs.ObjectOperation.{class_record}
use Rattle.term_model.specs.WholeRecords.{IsWholeClass}
use Rattle.term_model.specs.WholeSet.{IsWhole}
use Rattle.set_laws.proofs.Found.{found_is, once_same}
use Rattle.set_laws.proofs.Records.{class_is, one_class}
use Rattle.set_laws.proofs.Unnamed.{same_id}

-- ---- tests

pub neither : (a b : Bool) → (a || b) ≡ false → (a ≡ false) × (b ≡ false)
neither true b e = absurd (false≢true (sym e))
neither false b e = (refl, e)

not_so : {X : Type 0} (b : Bool) (y : Option X) (x : X) → (if b then None else y) ≡ Some x → (b ≡ false) × (y ≡ Some x)
not_so true y x e = absurd (cc)
not_so false y x e = (refl, e)

is_let : (b : Bool) (one other : Property) → (if b then Some one else None) ≡ Some other → Some one ≡ Some other
is_let true one other e = e
is_let false one other e = absurd (cc)

let_is : (lets : Property → Bool) (found : Option Property) (property : Property)
    → option_and_then (λ one. if lets one then Some one else None) found ≡ Some property → found ≡ Some property
let_is lets None property e = absurd (cc)
let_is lets (Some one) property e = is_let (lets one) one property e

pub modifiable_is : (schema : Set) (name : List Rdn) (class : List ℕ) (operator : ℤ) (id : List ℕ)
    (property : Property) → modifiable schema name class operator id ≡ Some property
    → (option_map_or (is_same_oid id) (naming_attribute schema name) false ≡ false)
    × (property_of schema class id ≡ Some property)
modifiable_is schema name class operator id property e =
    let named = option_map_or (is_same_oid id) (naming_attribute schema name) false in
    let past = not_so (named || is_filled schema.attributes id)
    (option_and_then (λ (one : Property). if lets_modify operator one then Some one else None)
    (property_of schema class id)) property e in (
      (neither named (is_filled schema.attributes id) past.0).0,
      let_is (lets_modify operator) (property_of schema class id) property past.1,
    )

-- ---- the class and its property

abbrev IsPropertyOf : Set → List ℕ → List ℕ → Property → Type 0
IsPropertyOf schema class id property =
    (of_class : ClassRec) × Contains schema.classes of_class × (of_class.id ≡ class)
    × Contains of_class.properties property × (property.attribute ≡ id)

in_class : (schema : Set) (class id : List ℕ) (property : Property) (found : Option ClassRec)
    → class_record schema.classes class ≡ found
    → option_and_then (λ (of_class : ClassRec). property_among of_class.properties id) found ≡ Some property
    → IsPropertyOf schema class id property
in_class schema class id property None known e = absurd (cc)
in_class schema class id property (Some of_class) known e =
    let is = class_is schema.classes class of_class known in
    let found = found_is (λ (one : Property). is_same_oid one.attribute id) of_class.properties property e in
    (of_class, is.0, is.1, found.0, (same_id property.attribute id).0 found.1)

property_is : (schema : Set) (class id : List ℕ) (property : Property) → property_of schema class id ≡ Some property
    → IsPropertyOf schema class id property
property_is schema class id property e =
    in_class schema class id property (class_record schema.classes class) refl e

-- a class of the schema has no other property for the attribute
pub one_property : (schema : Set) (class id : List ℕ) (of_class : ClassRec) (property other : Property)
    → IsWhole schema → HasRecord schema class of_class → property_of schema class id ≡ Some property
    → Contains of_class.properties other → other.attribute ≡ id → property ≡ other
one_property schema class id of_class property other whole has e at same =
    let is = property_is schema class id property e in
    let equal : is.0 ≡ of_class = one_class schema is.0 of_class whole is.1 has.known (is.2 ∙ sym has.named) in
    let known = All-contains (IsWholeClass schema) schema.classes of_class whole.classes has.known in
    once_same (λ (one : Property). one.attribute) of_class.properties property other known.joined.once
    (subst (λ (c : ClassRec). Contains c.properties property) equal is.3) at (is.4 ∙ sym same)
