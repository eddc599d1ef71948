-- One value more, and all of them.
use Rattle.std.proofs.Common.{◌<◌, ◌∙◌, arith, length}
use Rattle.asn1_names.proofs.TableAnswers.{item_is}
use Rattle.linked_parts.specs.declared.linked.LinkedPair.{LinkedPair}
use Rattle.class_faults.proofs.PlaceFaultLaws.{got_at}
use Rattle.section_values.specs.RegisteredSections.{IsRegisteredAttribute}
use Rattle.section_values.specs.SectionRecords.{IsPairValue}
use Rattle.schema_records.proofs.EachLaws.{all_at, each_added, each_none, each_whole}
use Rattle.instance_records.specs.InstanceRecords.{IsGiven}
use Rattle.instance_records.proofs.PairLaws.{each_at}
use Rattle.instance_records.proofs.object_records.given_of.Goals as goal

pub loop-place-init : goal.loop-place-init
loop-place-init c = λ ms known registered each.
    each_none (IsGiven ms c.args.parts.now.linked.now) c.new-items.result.items c.new-items.ensures.items

pub loop-place-preserved : goal.loop-place-preserved
loop-place-preserved c = λ ms known registered each.
    let linked = c.args.parts.now.linked.now in
    let xs = c.args.pairs.now in
    let values = c.args.values.now in
    let i = c.loop-place.place in
    let pair = c.index-pairs-place.result in
    let within : i < length xs = omega (arith, c.loop-place-test.true) in
    let at = got_at xs i pair within c.index-pairs-place.is in
    let held = each_at (IsPairValue ms linked) xs values i pair each at in
    let got = item_is values i c.get.result c.get.ensures.lookup.0 c.get.ensures.lookup.1 in
    each_added (IsGiven ms linked) xs i pair c.loop-place.items.items c.push_given.new.items.items at
    (c.loop-place.invariant ms known registered each)
    (c.in_ok-push_given.ensures ms held.0 known
    (all_at (λ (x : LinkedPair). IsRegisteredAttribute linked x.attribute) xs i pair registered at) (got ∙ held.1)
    held.2)

pub returns : goal.returns
returns c = λ ms known registered each. each_whole (IsGiven ms c.args.parts.now.linked.now) c.args.pairs.now
    c.loop-place.place c.loop-place.items.items c.loop-place-test.false (c.loop-place.invariant ms known registered
    each)
