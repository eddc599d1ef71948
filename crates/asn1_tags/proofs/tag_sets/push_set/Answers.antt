-- The tags of another set.
use Rattle.std.proofs.Common.{◌++◌, ◌||◌, ◌∙◌, ap, refl}
use Rattle.asn1_tags.proofs.TagLaws.{gains_list}
use Rattle.asn1_tags.proofs.tag_sets.push_set.Goals as goal

pub returns : goal.returns
returns c = gains_list c.args.into.now
    (record { any = c.args.into.now.any || c.args.set.now.any; tags = c.extend_from_slice.new.self })
    c.args.set.now.any c.args.set.now.tags.items refl
    (c.in_ok-extend_from_slice.ensures.items ∙ ap (λ x. c.args.into.now.tags.items ++ x) c.as_slice.ensures.value)
