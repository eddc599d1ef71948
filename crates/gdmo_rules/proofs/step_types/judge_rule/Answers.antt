-- The steps of the rule.
use Rattle.std.proofs.Common.{map, sym}
use Rattle.std.proofs.Math.Path.{subst}
use Rattle.gdmo_names.specs.FaultSets.{AnyOf, Notes}
use Rattle.gdmo_names.specs.InStep.{AreEach}
use Rattle.gdmo_names.specs.PartTerms.{module_terms_of}
use Rattle.gdmo_names.specs.PartViews.{step_term}
use Rattle.gdmo_targets.specs.SectionTables.{TellsStep}
use Rattle.gdmo_targets.specs.StatedRules.{text_term}
use Rattle.gdmo_rules.specs.StepFaults.{StepTypeFaults}
use Rattle.gdmo_rules.proofs.step_types.judge_rule.Goals as goal

pub returns-clause-noted : goal.returns-clause-noted
returns-clause-noted c = λ parts is are own.
    let xs = c.args.linkage.now.templates.now in
    let rule = text_term c.args.rule.now in
    let stay = c.known_rule.ensures.stays (module_terms_of parts) are in
    let known = c.in_ok-known.ensures.told parts rule is are own in
    let each = subst (λ ns. AreEach (TellsStep parts xs rule.document) (map step_term c.as_slice-steps.result.now) ns)
    (sym c.as_slice.ensures.value) (subst (λ ss. AreEach (TellsStep parts xs rule.document) (map step_term ss)
    c.args.own.now.steps.items) (sym c.as_slice-steps.ensures.value) own.are_steps) in
    subst (λ ss. Notes (AnyOf (StepTypeFaults parts rule) (map step_term ss)) c.args.faults.now.first
    c.judge_steps.new.faults.first) c.as_slice-steps.ensures.value
    (c.in_ok-judge_steps.ensures.noted parts rule is stay.are_numbers known each)
