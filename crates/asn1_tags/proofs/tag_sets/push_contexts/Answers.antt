-- One more tag.
use Rattle.std.proofs.Common.{get_or, sym}
use Rattle.std.proofs.lemmas.Grind.{get_or_default_zero}
use Rattle.asn1_tags.proofs.TagLaws.{context_step}
use Rattle.asn1_tags.proofs.tag_sets.push_contexts.Goals as goal

pub loop-number-preserved : goal.loop-number-preserved
loop-number-preserved c = context_step c.args.into.now c.loop-number.into c.push_context.new.into c.args.numbers.now
    c.loop-number.number-index (get_or c.args.numbers.now c.loop-number.number-index 0) c.loop-number-test.true
    (sym (get_or_default_zero c.args.numbers.now c.loop-number.number-index
    (get_or c.args.numbers.now c.loop-number.number-index 0) c.loop-number-test.true))
    c.loop-number.invariant c.in_ok-push_context.ensures
