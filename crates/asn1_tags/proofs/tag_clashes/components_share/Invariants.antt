-- No two of the members before the one at the index share a tag.
use Rattle.std.proofs.Common.{map}
use Rattle.asn1_names.specs.TermViews.{module_terms}
use Rattle.asn1_tags.specs.GatheredTags.{KnowsTags}
use Rattle.asn1_tags.specs.KnownFacts.{MembersKnown}
use Rattle.asn1_tags.specs.MemberRows.{component_row, members}
use Rattle.asn1_tags.proofs.ShareLaws.{AreApart}
use Rattle.asn1_tags.proofs.tag_clashes.components_share.Given as goal

abbrev pub invariant-loop-component : goal.invariant-loop-component
invariant-loop-component l = MembersKnown (KnowsTags (module_terms l.known.numbers.now) l.known.sources.now
    l.known.sets.now) (module_terms l.known.numbers.now) l.known.cyclic.now l.home
    (members (map component_row l.components)) → AreApart (module_terms l.known.numbers.now) l.home
    (members (map component_row l.components)) l.component-index l.run
