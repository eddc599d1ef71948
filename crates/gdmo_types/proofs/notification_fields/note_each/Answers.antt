-- A field more, and all of them.
use Rattle.std.proofs.Common.{◌<◌, ◌≤◌, arith, length}
use Rattle.std.proofs.Math.Path.{subst}
use Rattle.type_numbers.proofs.AskedLaws.{number_stays}
use Rattle.gdmo_names.specs.FaultSets.{AnyOf, Notes}
use Rattle.gdmo_names.specs.PartTerms.{module_terms_of}
use Rattle.gdmo_names.specs.TypeMeaning.{qualified_meaning}
use Rattle.gdmo_names.proofs.NotingLaws.{any_none, noted_end, noted_step}
use Rattle.gdmo_types.specs.FieldFaults.{FieldFault}
use Rattle.gdmo_types.specs.RoleTargets.{MeansNumber}
use Rattle.gdmo_types.proofs.FieldLaws.{number_of_field, same_fields, stay_same, stay_through}
use Rattle.gdmo_types.proofs.StepLaws.{got_at}
use Rattle.gdmo_types.proofs.notification_fields.note_each.Goals as goal

pub loop-k-init : goal.loop-k-init
loop-k-init c = (
  λ ms are. stay_same ms c.args.numbers.now are,
  λ parts information is are numbered each. any_none (FieldFault parts c.args.document information)
      c.args.faults.now.first,
)

pub loop-k-preserved : goal.loop-k-preserved
loop-k-preserved c =
    let fields = c.args.fields.now in
    let k = c.loop-k.k in
    let item = c.index-fields-k.result in
    let before = c.args.numbers.now in
    let now = c.loop-k.numbers in
    let within : k < length fields = omega (arith, c.loop-k-test.true) in (
      λ ms are. let stay = c.loop-k.invariant.0 ms are in
          stay_through ms before now c.note_field.new.numbers stay
          (c.note_field.ensures.stays ms stay.are_numbers),
      λ parts information is are numbered each.
          let ms = module_terms_of parts in
          let stay = c.loop-k.invariant.0 ms are in
          noted_step (FieldFault parts c.args.document information) (λ x. x) fields k item within c.index-fields-k.is
          (c.loop-k.invariant.1 parts information is are numbered each)
          (c.in_ok-note_field.ensures.noted parts information is stay.are_numbers
          (number_stays ms before.lists now.lists (qualified_meaning ms information) c.args.whole stay.grows numbered)
          (number_of_field (MeansNumber parts c.args.linkage.now.templates.now c.args.document) fields
          c.args.attributes.now k item c.number_at-attribute.result each (got_at fields k item within c.index-fields-k.is) c.number_at-attribute.ensures)),
    )

pub returns-in_err-note_field-clause-stays : goal.returns-in_err-note_field-clause-stays
returns-in_err-note_field-clause-stays c = λ ms are.
    let stay = c.loop-k.invariant.0 ms are in
    stay_through ms c.args.numbers.now c.loop-k.numbers c.note_field.new.numbers stay
    (c.note_field.ensures.stays ms stay.are_numbers)

pub returns-clause-noted : goal.returns-clause-noted
returns-clause-noted c = λ parts information is are numbered each.
    let fields = c.args.fields.now in
    let past : length fields ≤ c.loop-k.k = omega (arith, c.loop-k-test.false) in
    subst (λ xs. Notes (AnyOf (FieldFault parts c.args.document information) xs) c.args.faults.now.first
    c.loop-k.faults.first) (same_fields fields)
    (noted_end (FieldFault parts c.args.document information) (λ x. x) fields c.loop-k.k past
    (c.loop-k.invariant.1 parts information is are numbered each))
