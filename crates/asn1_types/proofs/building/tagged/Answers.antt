-- A tag.
use Rattle.asn1_names.specs.TermViews.{module_terms, tag_term}
use Rattle.asn1_types.proofs.BuildingLaws.{tag_denoted}
use Rattle.asn1_types.proofs.building.tagged.Goals as goal

pub returns : goal.returns
returns c = λ of denotes says.
    tag_denoted (module_terms c.args.numbers.now) c.args.home (tag_term c.args.tag.now) c.args.mode.now of
    c.own_tag-own.result c.is_explicit_in-explicit.result c.args.inner c.in_ok-new.field-0.value
    (c.own_tag-own.ensures says) c.is_explicit_in-explicit.ensures c.in_ok-new.ensures.ok denotes
