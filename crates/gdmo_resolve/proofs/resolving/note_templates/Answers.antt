-- One more template, and all of them.
use Rattle.std.proofs.Common.{◌<◌, arith, length, refl, subst, sym}
use Rattle.std.proofs.lemmas.Option.{slice_get_read}
use Rattle.gdmo_names.proofs.NotingLaws.{any_none, noted_end, noted_step}
use Rattle.gdmo_names.specs.FaultSets.{AnyOf, Notes}
use Rattle.gdmo_names.specs.FoundViews.{found_view}
use Rattle.gdmo_names.specs.TargetTables.{HasMentions}
use Rattle.label_laws.specs.AllFaults.{OfNames}
use Rattle.gdmo_resolve.proofs.resolving.note_templates.Goals as goal

pub loop-place-init : goal.loop-place-init
loop-place-init c = λ ps are tells names modules. any_none (OfNames ps) c.args.faults.now.first

pub loop-place-preserved : goal.loop-place-preserved
loop-place-preserved c = λ ps are tells names modules.
    let xs = c.args.templates.now in
    let i = c.loop-place.place in
    let x = c.index-templates-place.result in
    let within : i < length xs = omega (arith, c.loop-place-test.true) in
    noted_step (OfNames ps) found_view xs i x within c.index-templates-place.is
    (c.loop-place.invariant ps are tells names modules)
    (c.note_at.ensures ps names modules
    (subst (HasMentions xs) (sym c.index-templates-place.is) (are.mentions i x within)) tells
    (slice_get_read xs (length xs) i x refl within c.index-templates-place.is))

pub returns : goal.returns
returns c = λ ps are tells names modules.
    subst (λ ys. Notes (AnyOf (OfNames ps) ys) c.args.faults.now.first c.loop-place.faults.first) are.all
    (noted_end (OfNames ps) found_view c.args.templates.now c.loop-place.place
    (omega (arith, c.loop-place-test.false)) (c.loop-place.invariant ps are tells names modules))
