-- AboveLaws: the classes to which a class leads are above it by the records of a schema, and what they state is stated
-- in these (X.722, sections 5.2, 8.3 and 8.4).
use Rattle.std.specs.Prelude.{◌≡◌, ◌⊎◌, ◌∷◌, [], ℕ, zero, suc, List, Some, Contains, map, option_and_then}
use Rattle.std.specs.Prelude.{refl, slice_get}
use Rattle.std.proofs.Common.{◌∙◌, ap, inl, inr, sym}
use Rattle.std.proofs.Math.Path.{subst}
use Rattle.std.proofs.lemmas.Option.{same_Some}
use Rattle.term_model.specs.Inheritance.{Derives, HasRecord, IsAbove}
use Rattle.term_model.specs.Inheritance.IsAbove.{Further, Itself}
use Rattle.term_model.specs.JoinedProperties.{OwnStates, States}
use Rattle.term_model.specs.declared.packages.PackageRec.{PackageRec}
use Rattle.term_model.specs.declared.packages.Property.{Property}
use Rattle.term_model.specs.declared.schema.ClassRec.{ClassRec}
use Rattle.link_graphs.specs.Leading.{Leads, LeadsAtOnce, Reaches, targets_of}
use Rattle.link_graphs.specs.Leading.Leads.{at_once, onward}
use Rattle.linked_parts.specs.declared.linked.LinkedClass.{LinkedClass}
use Rattle.linked_parts.specs.declared.linked.LinkedPackage.{LinkedPackage}
use Rattle.linked_parts.specs.declared.linked.LinkedUse.{LinkedUse}
use Rattle.class_faults.specs.CyclicClasses.{superclass_lists}
use Rattle.class_faults.specs.StatedProperties.{OwnStates as OwnUse, States as StatesUse}
use Rattle.linked_types.specs.PartIdentifiers.{AreEach, IsClassId}
use Rattle.schema_records.specs.ClassRecords.{IsPackage, IsPackageAt, IsProperty}
use Rattle.schema_records.proofs.ClassLaws.{at_contains, contains_at, each_at, named_part}
use Rattle.stated_laws.proofs.TemplateLaws.{AreRecorded}
use Rattle.stated_laws.proofs.RecordLaws.{IsRecordAt, record_there}

pub targets_at : (classes : List LinkedClass) (k : ℕ) (part : LinkedClass) → slice_get classes k ≡ Some part →
    targets_of (map (λ (x : LinkedClass). x.superclasses.items) classes) k ≡ part.superclasses.items
targets_at [] k part at = absurd (cc)
targets_at (x ∷ classes) zero part at = ap (λ (y : LinkedClass). y.superclasses.items) (same_Some x part at)
targets_at (x ∷ classes) (suc k) part at = targets_at classes k part at

module _ (m : AreRecorded) where
  -- ---- records

  pub class_identified : {k : ℕ} {x : ClassRec} → IsRecordAt m k x → IsClassId m.linked k x.id
  class_identified here =
      ap (option_and_then (λ (y : LinkedClass). y.head.identifier)) here.class_at ∙ here.is.registered.is_id

  has_record : {k : ℕ} {x : ClassRec} → IsRecordAt m k x → HasRecord m.schema x.id x
  has_record {k} {x} here = record { known = at_contains m.schema.classes k x here.record_at; named = refl }

  -- a class that a record names, with its record
  pub record Names (k : ℕ) (id : List ℕ) : Type 0 where
    pub x : ClassRec
    pub here : IsRecordAt m k x
    pub called : x.id ≡ id

  pub named_record : (k : ℕ) (id : List ℕ) → IsClassId m.linked k id → Names k id
  named_record k id is =
      let named = named_part (λ (x : LinkedClass). x.head) m.linked.classes.items k id is in
      let found = record_there m k named.part named.stands in
      record {
        x = found.0;
        here = found.1;
        called = same_Some found.0.id id (sym (class_identified found.1) ∙ is);
      }

  -- ---- classes that are reached

  -- a superclass, with its record
  record HasAbove (x : ClassRec) (target : ℕ) : Type 0 where
    y : ClassRec
    there : IsRecordAt m target y
    derives : Derives m.schema x.id y.id

  above_at : {k : ℕ} {x : ClassRec} (here : IsRecordAt m k x) (place target : ℕ) →
      slice_get here.part.superclasses.items place ≡ Some target → HasAbove x target
  above_at {k} {x} here place target at =
      let found = each_at (IsClassId m.linked) here.part.superclasses.items x.superclasses place target
      here.is.superclasses_are at in
      let named = named_record target found.0 found.2 in
      record {
        y = named.x;
        there = named.here;
        derives = record {
          of_class = x;
          has = has_record here;
          from = subst (Contains x.superclasses) (sym named.called) (at_contains x.superclasses place found.0 found.1);
        };
      }

  above_once : {k : ℕ} {x : ClassRec} → IsRecordAt m k x → (target : ℕ) →
      LeadsAtOnce (superclass_lists m.linked) k target → HasAbove x target
  above_once {k} here target one =
      above_at here one.place target
      (subst (λ ts. slice_get ts one.place ≡ Some target) (targets_at m.linked.classes.items k here.part here.class_at)
      one.stands)

  record HasReached (x : ClassRec) (k : ℕ) : Type 0 where
    y : ClassRec
    there : IsRecordAt m k y
    above : IsAbove m.schema x.id y.id

  leads_above : {k : ℕ} {x : ClassRec} → IsRecordAt m k x → (j : ℕ) → Leads (superclass_lists m.linked) k j →
      HasReached x j
  leads_above here j (at_once one) =
      let next = above_once here j one in
      record { y = next.y; there = next.there; above = Further Itself next.derives }
  leads_above here j (onward {between = between} leads one) =
      let so_far = leads_above here between leads in
      let next = above_once so_far.there j one in
      record { y = next.y; there = next.there; above = Further so_far.above next.derives }

  reached_above : {k : ℕ} {x : ClassRec} → IsRecordAt m k x → (j : ℕ) → Reaches (superclass_lists m.linked) k j →
      HasReached x j
  reached_above {k} {x} here j (inl same) =
      record { y = x; there = subst (λ n. IsRecordAt m n x) same here; above = Itself }
  reached_above here j (inr leads) = leads_above here j leads

  -- ---- what is stated, by its place

  -- the property of what a class states
  record IsOwnProperty (of_class : ClassRec) (stated : LinkedUse) : Type 0 where
    x : Property
    own : OwnStates of_class x
    is : IsProperty m.ms m.linked stated x

  own_property : {k : ℕ} {of_class : ClassRec} → IsRecordAt m k of_class → (stated : LinkedUse) →
      OwnUse m.linked k stated → IsOwnProperty of_class stated
  own_property {k} {of_class} here stated own = by (subst (λ (part : LinkedClass).
      Contains part.mandatory.items own.place ⊎ Contains part.conditional.items own.place)
      (same_Some own.of_class here.part (sym own.class_at ∙ here.class_at)) own.own)
    where
      made : (places : List ℕ) (packages : List PackageRec) → AreEach (IsPackageAt m.ms m.linked) places packages →
          Contains places own.place → ((of_package : PackageRec) → Contains packages of_package →
          Contains of_class.mandatory of_package ⊎ Contains of_class.conditional of_package) →
          IsOwnProperty of_class stated
      made places packages each there side =
          let place = contains_at places own.place there in
          let found = each_at (IsPackageAt m.ms m.linked) places packages place.0 own.place each place.1 in
          let is : IsPackage m.ms m.linked own.of_package found.0 =
          subst (λ (part : LinkedPackage). IsPackage m.ms m.linked part found.0)
          (same_Some found.2.0 own.of_package (sym found.2.1 ∙ own.package_at)) found.2.2 in
          let where_ = contains_at own.of_package.attributes.items stated own.says in
          let property = each_at (IsProperty m.ms m.linked) own.of_package.attributes.items found.0.attributes where_.0
          stated is.attributes_are where_.1 in
          record {
            x = property.0;
            own = record {
              of_package = found.0;
              own = side found.0 (at_contains packages place.0 found.0 found.1);
              says = at_contains found.0.attributes where_.0 property.0 property.1;
            };
            is = property.2;
          }

      by : Contains here.part.mandatory.items own.place ⊎ Contains here.part.conditional.items own.place →
          IsOwnProperty of_class stated
      by (inl there) = made here.part.mandatory.items of_class.mandatory here.is.mandatory_are there (λ p c. inl c)
      by (inr there) = made here.part.conditional.items of_class.conditional here.is.conditional_are there
          (λ p c. inr c)

  -- the property of what holds of a class
  pub record HasProperty (class : List ℕ) (stated : LinkedUse) : Type 0 where
    pub x : Property
    pub states : States m.schema class x
    pub is : IsProperty m.ms m.linked stated x

  pub property_of : {k : ℕ} {of_class : ClassRec} → IsRecordAt m k of_class → (stated : LinkedUse) →
      StatesUse m.linked k stated → HasProperty of_class.id stated
  property_of here stated states =
      let reached = reached_above here states.above states.is_above in
      let own = own_property reached.there stated states.says in
      record {
        x = own.x;
        states = record {
          above = reached.y.id;
          is_above = reached.above;
          of_class = reached.y;
          record_of = has_record reached.there;
          says = own.own;
        };
        is = own.is;
      }
