-- The tags of the alternatives before the one at the index.
use Rattle.std.proofs.Common.{◌≤◌, ℕ, map, take}
use Rattle.asn1_names.specs.NodeCount.{HasNodes}
use Rattle.asn1_names.specs.TermViews.{module_terms, type_term}
use Rattle.asn1_tags.specs.GatheredTags.{KnowsTags}
use Rattle.asn1_tags.specs.KnownFacts.{AreKnown}
use Rattle.asn1_tags.specs.MemberRows.{alternative_row}
use Rattle.asn1_tags.proofs.BeginLaws.{AddsMembers}
use Rattle.asn1_tags.proofs.tag_sets.+push_tags.Given as goal

abbrev pub invariant-loop-alternative : goal.invariant-loop-alternative
invariant-loop-alternative l = (n : ℕ) → AreKnown (KnowsTags (module_terms l.fn.known.numbers.now)
    l.fn.known.sources.now
    l.fn.known.sets.now) (module_terms l.fn.known.numbers.now) l.fn.known.cyclic.now l.fn.home (type_term l.fn.of) →
    HasNodes (module_terms l.fn.known.numbers.now) l.fn.home (type_term l.fn.of) n → n ≤ 10000 →
    AddsMembers (module_terms l.fn.known.numbers.now) l.fn.home
    (map alternative_row (take l.alternative-index l.alternative-items)) l.fn.into l.into
