-- The record says what its part says.
use Rattle.std.proofs.Common.{◌∙◌, Some, ap, sym}
use Rattle.std.specs.Prelude.{All}
use Rattle.std.proofs.Math.Path.{subst}
use Rattle.linked_types.specs.PartIdentifiers.{AreEach, IsClassId}
use Rattle.schema_records.specs.ClassRecords.{IsPackageAt}
use Rattle.schema_records.specs.RegisteredParts.{IsClassPlace, IsPackagePlace}
use Rattle.schema_records.proofs.class_records.class_record.Goals as goal

pub returns-clause-told : goal.returns-clause-told
returns-clause-told c = λ ms known is registered.
    let linked = c.args.parts.now.linked.now in record {
      registered = record {
        is_id = is ∙ ap Some (sym c.in_ok-copy.ensures);
        is_label = sym c.in_ok-text_of.ensures;
      };
      superclasses_are = subst (λ places. AreEach (IsClassId linked) places c.in_ok-class_ids.field-0)
          c.as_slice.ensures.value
          (c.in_ok-class_ids.ensures (subst (All (IsClassPlace linked)) (sym c.as_slice.ensures.value)
          registered.superclasses));
      mandatory_are = subst (λ places. AreEach (IsPackageAt ms linked) places c.in_ok-package_records.field-0)
          c.as_slice-2.ensures.value
          (c.in_ok-package_records.ensures ms known (subst (All (IsPackagePlace linked))
          (sym c.as_slice-2.ensures.value) registered.mandatory));
      conditional_are = subst (λ places. AreEach (IsPackageAt ms linked) places c.in_ok-package_records-2.field-0)
          c.as_slice-3.ensures.value
          (c.in_ok-package_records-2.ensures ms known (subst (All (IsPackagePlace linked))
          (sym c.as_slice-3.ensures.value) registered.conditional));
    }
