-- One more tag.
use Rattle.asn1_tags.proofs.RunLaws.{key_added}
use Rattle.asn1_tags.proofs.tag_runs.add_key.Goals as goal

pub returns : goal.returns
returns c = λ other. key_added c.args.keys.now c.insert.new.self c.args.tag other
    (c.in_ok-insert.ensures.updates.0 (other.class, other.number))
