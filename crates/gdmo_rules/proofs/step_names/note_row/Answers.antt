-- One more rule, and all of them.
use Rattle.std.proofs.Common.{◌≤◌, arith, length}
use Rattle.gdmo_rules.specs.NamingFaults.{NamingFaultsAt}
use Rattle.gdmo_rules.proofs.StepNameLaws.{places_end, places_step}
use Rattle.gdmo_rules.proofs.step_names.note_row.Goals as goal

pub loop-place-preserved : goal.loop-place-preserved
loop-place-preserved c = λ parts class is tells are each. places_step (NamingFaultsAt parts class) c.args.places.now
    c.loop-place.place-index c.loop-place-test.true (c.loop-place.invariant parts class is tells are each)
    (c.note_rule.ensures parts class is tells are each)

pub returns : goal.returns
returns c = λ parts class is tells are each.
    let past : length c.args.places.now ≤ c.loop-place.place-index = omega (arith, c.loop-place-test.false) in
    places_end (NamingFaultsAt parts class) c.args.places.now c.loop-place.place-index past
    (c.loop-place.invariant parts class is tells are each)
