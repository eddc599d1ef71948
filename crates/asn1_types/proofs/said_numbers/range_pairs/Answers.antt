-- One more range.
use Rattle.std.proofs.Common.{[], sym}
use Rattle.std.proofs.Math.Path.{subst}
use Rattle.asn1_names.specs.Constraining.{AreRanges}
use Rattle.asn1_names.specs.Constraining.AreRanges.{no_more}
use Rattle.asn1_names.specs.TermViews.{module_terms, range_term}
use Rattle.asn1_types.proofs.SaidLaws.{range_step}
use Rattle.asn1_types.proofs.said_numbers.range_pairs.Goals as goal

pub loop-range-init : goal.loop-range-init
loop-range-init c = λ of told says.
    subst (λ ps. AreRanges (module_terms c.args.numbers.now) c.args.home of [] ps) (sym c.new-pairs.ensures.items)
    no_more

pub loop-range-preserved : goal.loop-range-preserved
loop-range-preserved c = λ of told.
    range_step (module_terms c.args.numbers.now) c.args.home of range_term c.args.ranges.now c.loop-range.range-index
    c.range-item.result _ c.loop-range.pairs.items c.push.new.self.items c.loop-range-test.true c.range-item.is
    c.in_ok-push.ensures.items (c.range_pair.ensures of told) (c.loop-range.invariant of told)
