-- One more step, and all of them.
use Rattle.std.proofs.Common.{sym}
use Rattle.std.proofs.Math.Path.{subst}
use Rattle.gdmo_names.specs.PartViews.{step_term}
use Rattle.gdmo_targets.specs.SectionTables.{TellsStep}
use Rattle.gdmo_begun_names.proofs.MarkLaws.{marked_end, marked_step}
use Rattle.begun_values.specs.SectionValues.{StepFirsts}
use Rattle.begun_values.proofs.ListedLaws.{marked_map}
use Rattle.begun_values.proofs.SectionLaws.{each_target}
use Rattle.begun_values.proofs.values_of_rules.mark_steps.Goals as goal

pub loop-k-preserved : goal.loop-k-preserved
loop-k-preserved c = λ parts rule link action each.
    let xs = c.args.steps.now in
    let k = c.loop-k.k in
    let x = c.index-steps-k.result in
    let Tells = TellsStep parts c.args.linkage.now.templates.now rule.document in
    marked_step (λ s. StepFirsts parts rule (step_term s)) xs k x c.loop-k-test.true c.index-steps-k.is
    (c.loop-k.invariant parts rule link action each)
    (c.in_ok-mark_step.ensures parts rule link action (subst (λ n. Tells (step_term x) n) (sym c.target_at.ensures)
    (each_target Tells step_term xs c.args.targets.now k x each c.loop-k-test.true c.index-steps-k.is)))

pub returns : goal.returns
returns c = λ parts rule link action each.
    marked_map (StepFirsts parts rule) step_term c.args.steps.now
    (marked_end (λ s. StepFirsts parts rule (step_term s)) c.args.steps.now c.loop-k.k c.loop-k-test.false
    (c.loop-k.invariant parts rule link action each))
