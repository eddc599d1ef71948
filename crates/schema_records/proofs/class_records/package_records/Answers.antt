-- One package more, and all of them.
use Rattle.std.proofs.Common.{◌<◌, arith, get_or, length}
use Rattle.std.proofs.lemmas.Option.{slice_get-get_or}
use Rattle.schema_records.specs.ClassRecords.{IsPackageAt}
use Rattle.schema_records.proofs.EachLaws.{each_added, each_none, each_whole}
use Rattle.schema_records.proofs.class_records.package_records.Goals as goal

pub loop-place-init : goal.loop-place-init
loop-place-init c = λ ms known all.
    each_none (IsPackageAt ms c.args.parts.now.linked.now) c.new-items.result.items c.new-items.ensures.items

pub loop-place-preserved : goal.loop-place-preserved
loop-place-preserved c = λ ms known all.
    let places = c.args.places.now in
    let i = c.loop-place.place-index in
    let within : i < length places = omega (arith, c.loop-place-test.true) in
    each_added (IsPackageAt ms c.args.parts.now.linked.now) places i (get_or places i 0) c.loop-place.items.items
    c.push_package.new.items.items (slice_get-get_or places i 0 within) (c.loop-place.invariant ms known all)
    (c.in_ok-push_package.ensures ms known (all i 0 within))

pub returns : goal.returns
returns c = λ ms known all. each_whole (IsPackageAt ms c.args.parts.now.linked.now) c.args.places.now
    c.loop-place.place-index c.loop-place.items.items c.loop-place-test.false (c.loop-place.invariant ms known all)
