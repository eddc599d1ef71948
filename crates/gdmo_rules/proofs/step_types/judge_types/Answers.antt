-- One more rule, and all of them.
use Rattle.std.proofs.Common.{◌<◌, ◌≤◌, arith, length}
use Rattle.std.proofs.Math.Path.{subst}
use Rattle.gdmo_names.specs.FaultSets.{AnyOf, Notes}
use Rattle.gdmo_names.specs.PartTerms.{module_terms_of}
use Rattle.gdmo_names.proofs.NotingLaws.{noted_end, noted_step}
use Rattle.gdmo_targets.specs.StatedRules.{text_term}
use Rattle.gdmo_types.proofs.FieldLaws.{stay_through}
use Rattle.gdmo_rules.specs.StepFaults.{RuleTypeFaults}
use Rattle.gdmo_rules.proofs.StepTypeLaws.{rule_at}
use Rattle.gdmo_rules.proofs.step_types.judge_types.Goals as goal

pub loop-place-preserved : goal.loop-place-preserved
loop-place-preserved c =
    let xs = c.args.linkage.now.templates.now in
    let rules = c.args.rules.now in
    let k = c.loop-place.place in
    let rule = c.index-rules-place.result in
    let within : k < length rules = omega (arith, c.loop-place-test.true) in (
      λ ms are. let stay = c.loop-place.invariant.0 ms are in
          stay_through ms c.args.numbers.now c.loop-place.numbers c.judge_rule_at.new.numbers stay
          (c.judge_rule_at.ensures.stays ms stay.are_numbers),
      λ parts is are terms each. let stay = c.loop-place.invariant.0 (module_terms_of parts) are in
          let own = rule_at parts xs rules c.args.targets.now k rule terms each within c.index-rules-place.is in
          noted_step (RuleTypeFaults parts) text_term rules k rule within c.index-rules-place.is
          (c.loop-place.invariant.1 parts is are terms each)
          (c.in_ok-judge_rule_at.ensures.noted parts own.0 is stay.are_numbers own.1 own.2),
    )

pub returns-clause-noted : goal.returns-clause-noted
returns-clause-noted c = λ parts is are terms each.
    let past : length c.args.rules.now ≤ c.loop-place.place = omega (arith, c.loop-place-test.false) in
    subst (λ rs. Notes (AnyOf (RuleTypeFaults parts) rs) c.args.faults.now.first c.loop-place.faults.first) terms
    (noted_end (RuleTypeFaults parts) text_term c.args.rules.now c.loop-place.place past
    (c.loop-place.invariant.1 parts is are terms each))
