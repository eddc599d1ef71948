-- One more module, and all of them.
use Rattle.std.proofs.Common.{arith, subst, sym}
use Rattle.gdmo_names.specs.FaultSets.{AnyOf, Notes}
use Rattle.gdmo_names.specs.PartViews.{module_part}
use Rattle.gdmo_names.proofs.NotingLaws.{noted_end, noted_step}
use Rattle.gdmo_identifiers.specs.IdentifierFaults.{FaultsOfModule}
use Rattle.gdmo_identifiers.proofs.module_identifiers.judge_modules.Goals as goal

pub loop-text-preserved : goal.loop-text-preserved
loop-text-preserved c = λ parts are.
    noted_step (FaultsOfModule parts) module_part c.args.modules.now c.loop-text.text-index c.text-item.result
    c.loop-text-test.true c.text-item.is (c.loop-text.invariant parts are) (c.judge_module.ensures parts are)

pub returns : goal.returns
returns c = λ parts has are.
    subst (λ ms. Notes (AnyOf (FaultsOfModule parts) ms) c.args.faults.now.first c.loop-text.faults.first) (sym has)
    (noted_end (FaultsOfModule parts) module_part c.args.modules.now c.loop-text.text-index
    (omega (arith, c.loop-text-test.false)) (c.loop-text.invariant parts are))
