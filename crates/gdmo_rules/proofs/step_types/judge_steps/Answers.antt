-- One more step, and all of them.
use Rattle.std.proofs.Common.{◌<◌, ◌≤◌, arith, length}
use Rattle.gdmo_names.specs.PartTerms.{module_terms_of}
use Rattle.gdmo_names.specs.PartViews.{step_term}
use Rattle.gdmo_names.proofs.NotingLaws.{noted_end, noted_step}
use Rattle.gdmo_types.proofs.FieldLaws.{stay_through}
use Rattle.gdmo_rules.specs.StepFaults.{StepTypeFaults}
use Rattle.gdmo_rules.proofs.StepTypeLaws.{known_stays, step_at}
use Rattle.gdmo_rules.proofs.step_types.judge_steps.Goals as goal

pub loop-place-preserved : goal.loop-place-preserved
loop-place-preserved c =
    let xs = c.args.linkage.now.templates.now in
    let steps = c.args.steps.now in
    let k = c.loop-place.place in
    let step = c.index-steps-place.result in
    let within : k < length steps = omega (arith, c.loop-place-test.true) in (
      λ ms are. let stay = c.loop-place.invariant.0 ms are in
          stay_through ms c.args.numbers.now c.loop-place.numbers c.judge_step.new.numbers stay
          (c.judge_step.ensures.stays ms stay.are_numbers),
      λ parts rule is are known each. let stay = c.loop-place.invariant.0 (module_terms_of parts) are in
          let target = step_at parts xs rule.document steps c.args.targets.now k step each within
          c.index-steps-place.is in
          noted_step (StepTypeFaults parts rule) step_term steps k step within c.index-steps-place.is
          (c.loop-place.invariant.1 parts rule is are known each)
          (c.in_ok-judge_step.ensures.noted parts rule is stay.are_numbers
          (known_stays parts c.args.numbers.now.lists c.loop-place.numbers.lists rule c.args.known stay.grows known)
          (c.step_target-target.ensures parts rule.document (step_term step) target.0 target.1 target.2)),
    )

pub returns-clause-noted : goal.returns-clause-noted
returns-clause-noted c = λ parts rule is are known each.
    let past : length c.args.steps.now ≤ c.loop-place.place = omega (arith, c.loop-place-test.false) in
    noted_end (StepTypeFaults parts rule) step_term c.args.steps.now c.loop-place.place past
    (c.loop-place.invariant.1 parts rule is are known each)
