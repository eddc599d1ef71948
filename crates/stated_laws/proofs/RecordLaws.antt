-- RecordLaws: the records of classes, each with the linked class at its place, and what the packages of a class state
-- (X.722, sections 8.3 and 8.4).
use Rattle.std.specs.Prelude.{◌≡◌, ◌⊎◌, ℕ, List, Some, Contains}
use Rattle.std.specs.Prelude.{slice_get}
use Rattle.std.proofs.Common.{inl, inr}
use Rattle.term_model.specs.JoinedProperties.{OwnStates, States}
use Rattle.term_model.specs.declared.packages.PackageRec.{PackageRec}
use Rattle.term_model.specs.declared.packages.Property.{Property}
use Rattle.term_model.specs.declared.schema.ClassRec.{ClassRec}
use Rattle.linked_parts.specs.declared.linked.LinkedClass.{LinkedClass}
use Rattle.linked_parts.specs.declared.linked.LinkedPackage.{LinkedPackage}
use Rattle.linked_parts.specs.declared.linked.LinkedUse.{LinkedUse}
use Rattle.class_faults.specs.StatedProperties.{OwnStates as OwnUse}
use Rattle.linked_types.specs.PartIdentifiers.{AreEach}
use Rattle.schema_records.specs.ClassRecords.{IsClass, IsPackageAt, IsProperty}
use Rattle.schema_records.proofs.ClassLaws.{at_contains, contains_at, each_at, each_from}
use Rattle.stated_laws.proofs.TemplateLaws.{AreRecorded}

module _ (m : AreRecorded) where
  -- ---- classes

  -- the record of the class at a place
  pub record IsRecordAt (k : ℕ) (x : ClassRec) : Type 0 where
    pub part : LinkedClass
    pub class_at : slice_get m.linked.classes.items k ≡ Some part
    pub record_at : slice_get m.schema.classes k ≡ Some x
    pub is : IsClass m.ms m.linked part x

  pub record_there : (k : ℕ) (part : LinkedClass) → slice_get m.linked.classes.items k ≡ Some part →
      (x : ClassRec) × IsRecordAt k x
  record_there k part at =
      let found = each_at (IsClass m.ms m.linked) m.linked.classes.items m.schema.classes k part m.are.classes_are at in
      (found.0, record { part = part; class_at = at; record_at = found.1; is = found.2 })

  pub record_of : (x : ClassRec) → Contains m.schema.classes x → (k : ℕ) × IsRecordAt k x
  record_of x known =
      let at = contains_at m.schema.classes x known in
      let found = each_from (IsClass m.ms m.linked) m.linked.classes.items m.schema.classes at.0 x m.are.classes_are
      at.1 in
      (at.0, record { part = found.0; class_at = found.1; record_at = at.1; is = found.2 })

  -- ---- what the packages of a class state

  -- what one of the packages at these places states, and its record
  record IsUseIn (places : List ℕ) (x : Property) : Type 0 where
    place : ℕ
    own : Contains places place
    part : LinkedPackage
    stands : slice_get m.linked.packages.items place ≡ Some part
    stated : LinkedUse
    says : Contains part.attributes.items stated
    is : IsProperty m.ms m.linked stated x

  use_in : (places : List ℕ) (packages : List PackageRec) (of_package : PackageRec) (x : Property) →
      AreEach (IsPackageAt m.ms m.linked) places packages → Contains packages of_package →
      Contains of_package.attributes x → IsUseIn places x
  use_in places packages of_package x each own says =
      let at = contains_at packages of_package own in
      let found = each_from (IsPackageAt m.ms m.linked) places packages at.0 of_package each at.1 in
      let part = found.2.0 in
      let where_ = contains_at of_package.attributes x says in
      let use_ = each_from (IsProperty m.ms m.linked) part.attributes.items of_package.attributes where_.0 x
      found.2.2.attributes_are where_.1 in
      record {
        place = found.0;
        own = at_contains places at.0 found.0 found.1;
        part = part;
        stands = found.2.1;
        stated = use_.0;
        says = at_contains part.attributes.items where_.0 use_.0 use_.1;
        is = use_.2;
      }

  -- what the class at a place states of a property
  pub record HasUse (k : ℕ) (x : Property) : Type 0 where
    pub stated : LinkedUse
    pub own : OwnUse m.linked k stated
    pub is : IsProperty m.ms m.linked stated x

  -- what the record of a class states itself, its class states
  pub own_use : {k : ℕ} {of_class : ClassRec} → IsRecordAt k of_class → (x : Property) → OwnStates of_class x →
      HasUse k x
  own_use {k} {of_class} here x own = by own.own
    where
      made : (places : List ℕ) → ((place : ℕ) → Contains places place →
          Contains here.part.mandatory.items place ⊎ Contains here.part.conditional.items place) → IsUseIn places x →
          HasUse k x
      made places side found = record {
        stated = found.stated;
        own = record {
          of_class = here.part;
          class_at = here.class_at;
          place = found.place;
          own = side found.place found.own;
          of_package = found.part;
          package_at = found.stands;
          says = found.says;
        };
        is = found.is;
      }

      by : Contains of_class.mandatory own.of_package ⊎ Contains of_class.conditional own.of_package → HasUse k x
      by (inl there) = made here.part.mandatory.items (λ place c. inl c)
          (use_in here.part.mandatory.items of_class.mandatory own.of_package x here.is.mandatory_are there own.says)
      by (inr there) = made here.part.conditional.items (λ place c. inr c)
          (use_in here.part.conditional.items of_class.conditional own.of_package x here.is.conditional_are there
          own.says)

  -- what holds of a class, its own and inherited, some class states
  pub states_use : {class : List ℕ} (x : Property) → States m.schema class x → (k : ℕ) × HasUse k x
  states_use x states =
      let here = record_of states.of_class states.record_of.known in
      (here.0, own_use here.1 x states.says)
