-- The links so far.
use Rattle.asn1_names.specs.TermViews.{module_terms}
use Rattle.asn1_numbers.proofs.EachLaws.{EachIs}
use Rattle.type_numbers.specs.TextLeads.{IsTextLink}
use Rattle.type_numbers.proofs.type_texts.links_of.Given as goal

abbrev pub invariant-loop-number : goal.invariant-loop-number
invariant-loop-number l = EachIs (IsTextLink (module_terms l.tables)) l.number l.links.items
