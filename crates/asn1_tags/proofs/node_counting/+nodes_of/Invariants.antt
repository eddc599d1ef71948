-- The nodes of the members before the one at the index.
use Rattle.std.proofs.Common.{map, take}
use Rattle.asn1_names.specs.TermViews.{module_terms, type_term}
use Rattle.asn1_tags.specs.KnownFacts.{AreKnown, KnowsNodes}
use Rattle.asn1_tags.specs.MemberRows.{alternative_row, component_row}
use Rattle.asn1_tags.proofs.CountLaws.{HasSum}
use Rattle.asn1_tags.proofs.node_counting.+nodes_of.Given as goal

abbrev pub invariant-loop-component : goal.invariant-loop-component
invariant-loop-component l = AreKnown (KnowsNodes (module_terms l.fn.known.tables.now) l.fn.known.nodes.now)
    (module_terms l.fn.known.tables.now) l.fn.known.cyclic.now l.fn.home (type_term l.fn.of) →
    HasSum (module_terms l.fn.known.tables.now) l.fn.home
    (map component_row (take l.component-index l.component-items)) l.sum

abbrev pub invariant-loop-alternative : goal.invariant-loop-alternative
invariant-loop-alternative l = AreKnown (KnowsNodes (module_terms l.fn.known.tables.now) l.fn.known.nodes.now)
    (module_terms l.fn.known.tables.now) l.fn.known.cyclic.now l.fn.home (type_term l.fn.of) →
    HasSum (module_terms l.fn.known.tables.now) l.fn.home
    (map alternative_row (take l.alternative-index l.alternative-items)) l.sum
