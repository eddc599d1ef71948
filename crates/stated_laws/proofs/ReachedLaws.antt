-- ReachedLaws: the classes that are above by the records of a schema are those to which a class leads, and what their
-- records state they state (X.722, sections 5.2, 8.3 and 8.4).
use Rattle.std.specs.Prelude.{◌≡◌, ℕ, List, Some, Contains}
use Rattle.std.specs.Prelude.{refl, slice_get}
use Rattle.std.proofs.Common.{◌∙◌, ap, arith, inl, sym}
use Rattle.std.proofs.Math.Path.{subst}
use Rattle.std.proofs.lemmas.List.{length-map}
use Rattle.std.proofs.lemmas.Option.{same_Some, slice_get_within}
use Rattle.term_model.specs.Inheritance.{Derives, HasRecord, IsAbove}
use Rattle.term_model.specs.Inheritance.IsAbove.{Further, Itself}
use Rattle.term_model.specs.JoinedProperties.{OwnStates, States}
use Rattle.term_model.specs.declared.packages.Property.{Property}
use Rattle.term_model.specs.declared.schema.ClassRec.{ClassRec}
use Rattle.link_graphs.specs.Leading.{LeadsAtOnce, Reaches}
use Rattle.link_graphs.proofs.LeadingLaws.{reaches_on}
use Rattle.linked_parts.specs.declared.linked.LinkedClass.{LinkedClass}
use Rattle.linked_parts.specs.declared.linked.LinkedUse.{LinkedUse}
use Rattle.class_faults.specs.CyclicClasses.{superclass_lists}
use Rattle.class_faults.specs.StatedProperties.{States as StatesUse}
use Rattle.linked_types.specs.PartIdentifiers.{IsClassId}
use Rattle.schema_records.specs.ApartParts.{HaveOwnIdentifiers}
use Rattle.schema_records.specs.ClassRecords.{IsProperty}
use Rattle.schema_records.proofs.ClassLaws.{contains_at, each_from}
use Rattle.stated_laws.proofs.TemplateLaws.{AreRecorded}
use Rattle.stated_laws.proofs.RecordLaws.{IsRecordAt, own_use, record_of}
use Rattle.stated_laws.proofs.AboveLaws.{Names, class_identified, named_record, targets_at}

module _ (m : AreRecorded) (apart : HaveOwnIdentifiers m.linked) where
  -- the record of a class is the only one with its identifier
  one_record : {k : ℕ} {x : ClassRec} (y : ClassRec) → IsRecordAt m k x → HasRecord m.schema x.id y → y ≡ x
  one_record {k} {x} y here has =
      let at = record_of m y has.known in
      let there = at.1 in
      let same = apart.classes at.0 k x.id (subst (IsClassId m.linked at.0) has.named (class_identified m there))
      (class_identified m here) in
      same_Some y x (sym there.record_at ∙ ap (slice_get m.schema.classes) same ∙ here.record_at)

  -- a superclass that a record names
  record IsSuperclass (k : ℕ) (id : List ℕ) : Type 0 where
    target : ℕ
    named : Names m target id
    leads : LeadsAtOnce (superclass_lists m.linked) k target

  superclass_of : {k : ℕ} {x : ClassRec} → IsRecordAt m k x → (id : List ℕ) → Derives m.schema x.id id →
      IsSuperclass k id
  superclass_of {k} {x} here id derives =
      let from = subst (λ (y : ClassRec). Contains y.superclasses id) (one_record derives.of_class here derives.has)
      derives.from in
      let at = contains_at x.superclasses id from in
      let found = each_from (IsClassId m.linked) here.part.superclasses.items x.superclasses at.0 id
      here.is.superclasses_are at.1 in
      let named = named_record m found.0 id found.2 in
      record {
        target = found.0;
        named = named;
        leads = record {
          place = at.0;
          stands = subst (λ ts. slice_get ts at.0 ≡ Some found.0)
              (sym (targets_at m.linked.classes.items k here.part here.class_at)) found.1;
          within =
              let within = slice_get_within m.linked.classes.items found.0 named.here.part named.here.class_at in
              let size = length-map m.linked.classes.items (λ (y : LinkedClass). y.superclasses.items) in
              omega (arith, within, size);
        };
      }

  record IsReached (k : ℕ) (id : List ℕ) : Type 0 where
    above : ℕ
    named : Names m above id
    reaches : Reaches (superclass_lists m.linked) k above

  above_reached : {k : ℕ} {x : ClassRec} → IsRecordAt m k x → (id : List ℕ) → IsAbove m.schema x.id id →
      IsReached k id
  above_reached {k} {x} here id Itself =
      record { above = k; named = record { x = x; here = here; called = refl }; reaches = inl refl }
  above_reached here id (Further {above = above} is_above derives) =
      let so_far = above_reached here above is_above in
      let next = superclass_of so_far.named.here id
      (subst (λ a. Derives m.schema a id) (sym so_far.named.called) derives) in
      record { above = next.target; named = next.named; reaches = reaches_on so_far.reaches next.leads }

  -- what holds of a property of the record of a class
  pub record HasStated (k : ℕ) (x : Property) : Type 0 where
    pub stated : LinkedUse
    pub states : StatesUse m.linked k stated
    pub is : IsProperty m.ms m.linked stated x

  pub stated_of : {k : ℕ} {of_class : ClassRec} → IsRecordAt m k of_class → (x : Property) →
      States m.schema of_class.id x → HasStated k x
  stated_of here x states =
      let reached = above_reached here states.above states.is_above in
      let same = one_record states.of_class reached.named.here
      (subst (λ id. HasRecord m.schema id states.of_class) (sym reached.named.called) states.record_of) in
      let use_ = own_use m reached.named.here x (subst (λ (y : ClassRec). OwnStates y x) same states.says) in
      record {
        stated = use_.stated;
        states = record { above = reached.above; is_above = reached.reaches; says = use_.own };
        is = use_.is;
      }
