-- One more of them, and all.
use Rattle.std.proofs.Common.{[], arith, refl, subst, sym}
use Rattle.gdmo_names.specs.PartViews.{step_term}
use Rattle.gdmo_names.specs.SectionFaults.{FaultsOfStep}
use Rattle.gdmo_targets.specs.SectionTables.{TellsStep}
use Rattle.gdmo_names.proofs.InStepLaws.{AddsNoted, noted_none, noted_one_more, noted_whole}
use Rattle.gdmo_targets.proofs.section_references.Labelled.steps_targets.Goals as goal

pub loop-step-init : goal.loop-step-init
loop-step-init c = λ parts is. subst (λ made. AddsNoted (TellsStep parts c.args.self.now.templates.now c.args.document) (FaultsOfStep parts c.args.document)
    [] [] made c.args.faults.now.first c.args.faults.now.first) (sym c.new-targets.ensures.items)
    (noted_none (TellsStep parts c.args.self.now.templates.now c.args.document) (FaultsOfStep parts c.args.document)
    [] c.args.faults.now.first)

pub loop-step-preserved : goal.loop-step-preserved
loop-step-preserved c = λ parts is.
    noted_one_more (TellsStep parts c.args.self.now.templates.now c.args.document) (FaultsOfStep parts c.args.document)
    step_term c.args.steps.now c.loop-step.step-index c.step-item.result []
    c.loop-step.targets.items c.push.new.self.items c.step_target.result c.loop-step-test.true c.step-item.is
    c.in_ok-push.ensures.items (c.loop-step.invariant parts is) (c.step_target.ensures parts is)

pub returns : goal.returns
returns c = λ parts is. noted_whole (TellsStep parts c.args.self.now.templates.now c.args.document) (FaultsOfStep parts c.args.document)
    step_term c.args.steps.now c.loop-step.step-index [] c.loop-step.targets.items refl
    (omega (arith, c.loop-step-test.false)) (c.loop-step.invariant parts is)
