-- The record, field by field.
use Rattle.std.proofs.Common.{refl, sym}
use Rattle.std.specs.Prelude.{All}
use Rattle.std.proofs.Math.Path.{subst}
use Rattle.linked_parts.specs.declared.linked.LinkedPackage.{LinkedPackage}
use Rattle.linked_types.specs.PartIdentifiers.{AreIdentified, IsClassId}
use Rattle.section_values.specs.RegisteredSections.{HasIdentifier}
use Rattle.instance_records.specs.InstanceRecords.{IsGiven}
use Rattle.instance_records.proofs.PairLaws.{along}
use Rattle.instance_records.proofs.object_records.record_of.Goals as goal

pub returns : goal.returns
returns c = λ ms known registered each classed.
    let linked = c.args.parts.now.linked.now in
    let instance = c.args.instance.now in
    let packages = linked.packages.items in record {
      is_root = refl;
      is_class = subst (IsClassId linked instance.class) (sym c.in_ok-class.ensures) classed;
      is_name = c.in_ok-name.ensures ms known registered each;
      given_are = along ms linked (IsGiven ms linked) instance.given.items c.as_slice-2.result.now
          c.args.values.now.given.items c.as_slice-3.result.now c.in_ok-given.given (sym c.as_slice-2.ensures.value)
          (sym c.as_slice-3.ensures.value) registered.of_given each.given_is (c.in_ok-given.ensures ms known);
      chosen_are = subst (λ places. AreIdentified (λ (x : LinkedPackage). x.head) packages places c.in_ok-chosen.chosen)
          c.as_slice.ensures.value (c.in_ok-chosen.ensures
          (subst (All (HasIdentifier (λ (x : LinkedPackage). x.head) packages)) (sym c.as_slice.ensures.value)
          registered.of_packages));
    }
