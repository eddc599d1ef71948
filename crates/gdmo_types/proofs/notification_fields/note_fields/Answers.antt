-- A template more, and all of them.
use Rattle.std.proofs.Common.{◌<◌, ◌≤◌, arith, length}
use Rattle.std.proofs.Math.Path.{subst}
use Rattle.gdmo_names.specs.FaultSets.{AnyOf, Notes}
use Rattle.gdmo_names.specs.FoundViews.{found_view}
use Rattle.gdmo_names.specs.PartTerms.{module_terms_of}
use Rattle.gdmo_names.proofs.NotingLaws.{noted_end, noted_step}
use Rattle.gdmo_types.specs.FieldFaults.{TemplateFields}
use Rattle.gdmo_types.proofs.FieldLaws.{stay_through}
use Rattle.gdmo_types.proofs.StepLaws.{got_at}
use Rattle.gdmo_types.proofs.TemplateFieldLaws.{all_noted}
use Rattle.gdmo_types.proofs.notification_fields.note_fields.Goals as goal

pub loop-place-preserved : goal.loop-place-preserved
loop-place-preserved c =
    let xs = c.args.linkage.now.templates.now in
    let k = c.loop-place.place in
    let item = c.found-item.result in
    let within : k < length xs = omega (arith, c.loop-place-test.true) in (
      λ ms are. let stay = c.loop-place.invariant.0 ms are in
          stay_through ms c.args.numbers.now c.loop-place.numbers c.note_template.new.numbers stay
          (c.note_template.ensures.stays ms stay.are_numbers),
      λ parts is are. let stay = c.loop-place.invariant.0 (module_terms_of parts) are in
          noted_step (TemplateFields parts) found_view xs k item within c.found-item.is
          (c.loop-place.invariant.1 parts is are)
          (c.in_ok-note_template.ensures.noted parts is stay.are_numbers (got_at xs k item within c.found-item.is)),
    )

pub returns-clause-noted : goal.returns-clause-noted
returns-clause-noted c = λ parts is are.
    let xs = c.args.linkage.now.templates.now in
    let past : length xs ≤ c.loop-place.place = omega (arith, c.loop-place-test.false) in
    all_noted parts (subst (λ ys. Notes (AnyOf (TemplateFields parts) ys) c.args.faults.now.first
    c.loop-place.faults.first) is.are_found.all
    (noted_end (TemplateFields parts) found_view xs c.loop-place.place past (c.loop-place.invariant.1 parts is are)))
