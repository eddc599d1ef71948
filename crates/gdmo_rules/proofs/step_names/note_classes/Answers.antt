-- One more class, and all of them.
use Rattle.std.proofs.Common.{◌<◌, ◌≤◌, arith, length, sym, ◌∙◌}
use Rattle.std.proofs.Math.Path.{subst}
use Rattle.std.proofs.lemmas.List.{length-map}
use Rattle.reached_elements.proofs.ReachLaws.{items, row_there}
use Rattle.gdmo_names.specs.FaultSets.{AnyOf, Notes}
use Rattle.gdmo_names.specs.FoundViews.{found_views}
use Rattle.gdmo_types.proofs.StepLaws.{got_at, there}
use Rattle.gdmo_rules.specs.NamingFaults.{NamingFaultsAt, row_lists}
use Rattle.gdmo_rules.proofs.StepNameLaws.{classes_step, names_noted}
use Rattle.gdmo_rules.proofs.step_names.note_classes.Goals as goal

pub loop-class-preserved : goal.loop-class-preserved
loop-class-preserved c = λ parts is graph apart are each size.
    let views = found_views c.args.linkage.now.templates.now in
    let rows = c.args.rows.now in
    let k = c.loop-class.class in
    let row = c.index-rows-class.result in
    let within : k < length rows = omega (arith, c.loop-class-test.true) in
    let x = there views k (let l = length-map rows items in omega (arith, within, size, l)) in
    let at = got_at rows k row within c.index-rows-class.is in
    let places = c.as_slice.ensures.value ∙ sym (row_there rows k row at) in
    classes_step parts views (row_lists rows) k x.0 x.1 (c.loop-class.invariant parts is graph apart are each size)
    (subst (λ ns. Notes (AnyOf (NamingFaultsAt parts x.0) ns) c.loop-class.faults.first c.note_class.new.faults.first)
    places (c.in_ok-note_class.ensures parts x.0 is graph apart x.1 are each))

pub returns : goal.returns
returns c = λ parts is graph apart are each size by_class.
    let rows = c.args.rows.now in
    let past : length (row_lists rows) ≤ c.loop-class.class =
    (let l = length-map rows items in let t = c.loop-class-test.false in omega (arith, l, t)) in
    names_noted parts c.args.linkage.now.templates.now c.args.targets.now (row_lists rows) c.loop-class.class past size
    by_class each (c.loop-class.invariant parts is graph apart are each size)
