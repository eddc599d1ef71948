-- One more range.
use Rattle.asn1_names.specs.TermViews.{module_terms, range_term}
use Rattle.asn1_resolve.specs.TypeFaults.{RangeFaults}
use Rattle.asn1_resolve.proofs.FirstFaults.{any_none, view_end, view_step}
use Rattle.asn1_resolve.proofs.constraint_faults.judge_ranges.Goals as goal

pub loop-range-init : goal.loop-range-init
loop-range-init c = λ of names. any_none (RangeFaults (module_terms c.args.numbers.now) c.args.home.module of)

pub loop-range-preserved : goal.loop-range-preserved
loop-range-preserved c = λ of names.
    view_step (RangeFaults (module_terms c.args.numbers.now) c.args.home.module of) range_term c.args.ranges.now
    c.loop-range.range-index c.range-item.result c.loop-range-test.true c.range-item.is c.earlier-first.ensures
    (c.loop-range.invariant of names) (c.judge_range.ensures of names)

pub returns : goal.returns
returns c = λ of names.
    view_end (RangeFaults (module_terms c.args.numbers.now) c.args.home.module of) range_term c.args.ranges.now
    c.loop-range.range-index c.loop-range-test.false (c.loop-range.invariant of names)
