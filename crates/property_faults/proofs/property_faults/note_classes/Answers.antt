-- A class more, and all of them.
use Rattle.std.proofs.Common.{◌<◌, ◌≤◌, arith, length, subst}
use Rattle.asn1_names.proofs.TableAnswers.{item_is}
use Rattle.class_faults.specs.FaultSets.{Notes}
use Rattle.class_faults.specs.PlaceFaults.{AtPlaces}
use Rattle.class_faults.proofs.PlaceFaultLaws.{before_all, before_none, before_step, got_at}
use Rattle.property_faults.specs.TableFaults.{TableFaults}
use Rattle.property_faults.proofs.ClassLaws.{EachFault, faults_noted}
use Rattle.property_faults.proofs.property_faults.note_classes.Goals as goal

pub loop-place-init : goal.loop-place-init
loop-place-init c = λ ms known.
    let parts = c.args.parts.now in
    before_none (EachFault ms parts.linked.now parts.table.now c.args.properties.now) c.as_slice-classes.result.now
    c.args.faults.now.first

pub loop-place-preserved : goal.loop-place-preserved
loop-place-preserved c = λ ms known.
    let parts = c.args.parts.now in
    let classes = c.as_slice-classes.result.now in
    let k = c.loop-place.place in
    let item = c.index-classes-place.result in
    let within : k < length classes = omega (arith, c.loop-place-test.true) in
    let own = item_is c.args.properties.now k c.get.result c.get.ensures.lookup.0 c.get.ensures.lookup.1 in
    before_step (EachFault ms parts.linked.now parts.table.now c.args.properties.now) classes k item
    (got_at classes k item within c.index-classes-place.is) (c.loop-place.invariant ms known)
    (subst (λ o. Notes (TableFaults ms parts.linked.now parts.table.now o item.head) c.loop-place.faults.first
    c.note_class.new.faults.first) own (c.in_ok-note_class.ensures ms known))

pub returns : goal.returns
returns c = λ ms stated known are properties.
    let parts = c.args.parts.now in
    let classes = c.as_slice-classes.result.now in
    let Each = EachFault ms parts.linked.now parts.table.now c.args.properties.now in
    let past : length classes ≤ c.loop-place.place = omega (arith, c.loop-place-test.false) in
    let noted = before_all Each classes c.loop-place.place past (c.loop-place.invariant ms known) in
    faults_noted ms parts.linked.now parts.table.now parts.values.now stated c.args.properties.now
    (record { are = are; properties = properties })
    (subst (λ xs. Notes (AtPlaces Each xs) c.args.faults.now.first c.loop-place.faults.first)
    c.as_slice-classes.ensures.value noted)
