-- One more label, and all of them.
use Rattle.std.proofs.Common.{arith}
use Rattle.asn1_names.specs.FirstNames.{found}
use Rattle.gdmo_names.specs.FoundViews.{found_view, found_views, numbered}
use Rattle.gdmo_names.specs.LabelSteps.{DoubleBy}
use Rattle.gdmo_targets.proofs.DoubleLaws.{twice_noted}
use Rattle.gdmo_names.proofs.NotingLaws.{any_none, noted_end, noted_step}
use Rattle.gdmo_targets.proofs.labels.note_double_labels.Goals as goal

pub loop-template-init : goal.loop-template-init
loop-template-init c =
    any_none (DoubleBy (λ label. numbered (found_views c.args.templates.now) (found c.args.labels.now label)))
    c.args.faults.now.first

pub loop-template-preserved : goal.loop-template-preserved
loop-template-preserved c =
    noted_step (DoubleBy (λ label. numbered (found_views c.args.templates.now) (found c.args.labels.now label)))
    found_view c.args.templates.now c.loop-template.template-index c.template-item.result c.loop-template-test.true
    c.template-item.is c.loop-template.invariant c.note_double_label.ensures

pub returns : goal.returns
returns c = λ parts are tells.
    twice_noted parts (λ label. numbered (found_views c.args.templates.now) (found c.args.labels.now label))
    (found_views c.args.templates.now) c.args.faults.now.first c.loop-template.faults.first are tells
    (noted_end (DoubleBy (λ label. numbered (found_views c.args.templates.now) (found c.args.labels.now label)))
    found_view c.args.templates.now c.loop-template.template-index
    (omega (arith, c.loop-template-test.false)) c.loop-template.invariant)
