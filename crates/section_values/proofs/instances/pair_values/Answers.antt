-- One more pair, and all of them.
use Rattle.std.proofs.Common.{◌<◌, arith, length}
use Rattle.section_values.specs.BadSections.{BadOfPair}
use Rattle.section_values.specs.SectionRecords.{IsPairValue}
use Rattle.section_values.specs.ToldSections.{IsGoodPair}
use Rattle.section_values.proofs.ReadingLaws.{read_all, read_none, read_step, told_all}
use Rattle.section_values.proofs.instances.pair_values.Goals as goal

pub loop-pair-init : goal.loop-pair-init
loop-pair-init c = λ ms known.
    let linked = c.args.parts.now.linked.now in
    read_none (BadOfPair ms linked c.args.document) (IsGoodPair ms linked) (IsPairValue ms linked) c.args.pairs.now
    c.new-values.result.items c.args.bad.now.first c.new-values.ensures.items

pub loop-pair-preserved : goal.loop-pair-preserved
loop-pair-preserved c = λ ms known.
    let linked = c.args.parts.now.linked.now in
    let xs = c.args.pairs.now in
    let i = c.loop-pair.pair-index in
    let within : i < length xs = omega (arith, c.loop-pair-test.true) in
    read_step (BadOfPair ms linked c.args.document) (IsGoodPair ms linked) (IsPairValue ms linked) xs i
    c.pair-item.result c.in_ok-value.value c.loop-pair.values.items c.push_value.new.values.items within c.pair-item.is
    c.in_ok-push_value.ensures (c.in_ok-value.ensures.told ms known) (c.in_ok-value.ensures.noted ms known)
    (c.loop-pair.invariant ms known)

pub returns-clause-told : goal.returns-clause-told
returns-clause-told c = λ ms known good.
    let linked = c.args.parts.now.linked.now in
    told_all (BadOfPair ms linked c.args.document) (IsGoodPair ms linked) (IsPairValue ms linked) c.args.pairs.now
    c.loop-pair.pair-index c.loop-pair.values.items c.loop-pair-test.false (c.loop-pair.invariant ms known) good

pub returns-clause-noted : goal.returns-clause-noted
returns-clause-noted c = λ ms known.
    let linked = c.args.parts.now.linked.now in
    read_all (BadOfPair ms linked c.args.document) (IsGoodPair ms linked) (IsPairValue ms linked) c.args.pairs.now
    c.loop-pair.pair-index c.loop-pair.values.items c.loop-pair-test.false (c.loop-pair.invariant ms known)
