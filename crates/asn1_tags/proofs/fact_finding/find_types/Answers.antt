-- One more type of the order.
use Rattle.asn1_tags.proofs.OrderedFacts.{draft_end, draft_more}
use Rattle.asn1_tags.proofs.fact_finding.find_types.Goals as goal

pub loop-number-preserved : goal.loop-number-preserved
loop-number-preserved c = λ marks behind. draft_more c.args.order.now c.loop-number.number-index _ c.loop-number.draft
    c.find_plain.new.draft marks behind c.loop-number-test.true (c.loop-number.invariant marks behind)
    c.in_ok-find_plain.ensures

pub returns : goal.returns
returns c = λ marks behind. draft_end c.args.order.now c.loop-number.number-index c.loop-number.draft
    c.loop-number-test.false (c.loop-number.invariant marks behind)
