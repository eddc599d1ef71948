-- One more template, and all of them.
use Rattle.std.proofs.Common.{arith}
use Rattle.gdmo_names.specs.PartViews.{member_placed}
use Rattle.gdmo_names.proofs.PlacedLaws.{placed_end, placed_none, placed_step}
use Rattle.gdmo_names.proofs.finding_classes.find_members.Goals as goal

pub loop-template-init : goal.loop-template-init
loop-template-init c = placed_none c.args.finding.now.templates.items

pub loop-template-preserved : goal.loop-template-preserved
loop-template-preserved c =
    placed_step member_placed c.args.templates.now c.loop-template.template-index c.template-item.result
    c.loop-template-test.true c.template-item.is c.loop-template.invariant c.in_ok-find_outermost_member.ensures

pub returns : goal.returns
returns c = placed_end member_placed c.args.templates.now c.loop-template.template-index
    (omega (arith, c.loop-template-test.false)) c.loop-template.invariant
