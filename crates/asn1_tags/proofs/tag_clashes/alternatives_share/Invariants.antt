-- No two of the members before the one at the index share a tag.
use Rattle.std.proofs.Common.{map}
use Rattle.asn1_names.specs.TermViews.{module_terms}
use Rattle.asn1_tags.specs.GatheredTags.{KnowsTags}
use Rattle.asn1_tags.specs.KnownFacts.{MembersKnown}
use Rattle.asn1_tags.specs.MemberRows.{alternative_row, members}
use Rattle.asn1_tags.proofs.ShareLaws.{AreApart}
use Rattle.asn1_tags.proofs.tag_clashes.alternatives_share.Given as goal

abbrev pub invariant-loop-alternative : goal.invariant-loop-alternative
invariant-loop-alternative l = MembersKnown (KnowsTags (module_terms l.known.numbers.now) l.known.sources.now
    l.known.sets.now) (module_terms l.known.numbers.now) l.known.cyclic.now l.home
    (members (map alternative_row l.alternatives)) → AreApart (module_terms l.known.numbers.now) l.home
    (members (map alternative_row l.alternatives)) l.alternative-index l.run
