-- One more tag.
use Rattle.asn1_tags.proofs.RunLaws.{keys_step}
use Rattle.asn1_tags.proofs.tag_runs.add_tags.Goals as goal

pub loop-tag-preserved : goal.loop-tag-preserved
loop-tag-preserved c = λ other. keys_step c.args.keys.now c.loop-tag.keys c.add_key.new.keys c.args.tags.now
    c.loop-tag.tag-index _ other c.loop-tag-test.true (c.loop-tag.invariant other) (c.in_ok-add_key.ensures other)
