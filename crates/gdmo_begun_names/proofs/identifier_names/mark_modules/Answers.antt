-- One more module, and all of them.
use Rattle.gdmo_names.specs.PartViews.{module_part}
use Rattle.gdmo_begun_names.specs.StatedNames.{FirstsOfModule}
use Rattle.gdmo_begun_names.proofs.MarkLaws.{marked_end, marked_step}
use Rattle.gdmo_begun_names.proofs.identifier_names.mark_modules.Goals as goal

pub loop-text-preserved : goal.loop-text-preserved
loop-text-preserved c =
    marked_step (λ x. FirstsOfModule (module_part x)) c.args.modules.now c.loop-text.text-index c.text-item.result
    c.loop-text-test.true c.text-item.is c.loop-text.invariant c.mark_module.ensures

pub returns : goal.returns
returns c =
    marked_end (λ x. FirstsOfModule (module_part x)) c.args.modules.now c.loop-text.text-index c.loop-text-test.false
    c.loop-text.invariant
