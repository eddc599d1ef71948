-- One more step, and all of them.
use Rattle.std.proofs.Common.{◌<◌, ◌≤◌, arith, length}
use Rattle.gdmo_names.specs.FoundViews.{found_views}
use Rattle.gdmo_names.specs.PartViews.{step_term}
use Rattle.gdmo_names.proofs.NotingLaws.{noted_end, noted_step}
use Rattle.gdmo_rules.specs.NamingFaults.{StepNamingFaults, step_label}
use Rattle.gdmo_rules.proofs.StepTypeLaws.{step_at}
use Rattle.gdmo_rules.proofs.step_names.note_steps.Goals as goal

pub loop-place-preserved : goal.loop-place-preserved
loop-place-preserved c = λ parts class is tells each.
    let xs = c.args.linkage.now.templates.now in
    let steps = c.args.steps.now in
    let document = c.args.document in
    let k = c.loop-place.place in
    let step = c.index-steps-place.result in
    let within : k < length steps = omega (arith, c.loop-place-test.true) in
    let target = step_at parts xs document steps c.args.targets.now k step each within c.index-steps-place.is in
    let told = c.step_target-target.ensures parts document (step_term step) target.0 target.1 target.2 in
    noted_step (StepNamingFaults parts class document) step_term steps k step within c.index-steps-place.is
    (c.loop-place.invariant parts class is tells each)
    (c.note_naming.ensures parts (found_views xs) class document (step_label (step_term step)) tells
    (c.step_naming.ensures parts is told))

pub returns : goal.returns
returns c = λ parts class is tells each.
    let past : length c.args.steps.now ≤ c.loop-place.place = omega (arith, c.loop-place-test.false) in
    noted_end (StepNamingFaults parts class c.args.document) step_term c.args.steps.now c.loop-place.place past
    (c.loop-place.invariant parts class is tells each)
