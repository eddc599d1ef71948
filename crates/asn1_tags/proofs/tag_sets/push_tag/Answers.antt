-- One more tag.
use Rattle.std.proofs.Common.{refl}
use Rattle.asn1_tags.proofs.TagLaws.{gains_tag}
use Rattle.asn1_tags.proofs.tag_sets.push_tag.Goals as goal

pub returns : goal.returns
returns c = gains_tag c.args.into.now (record { any = c.args.into.now.any; tags = c.push.new.self }) c.args.tag refl
    c.in_ok-push.ensures.items
