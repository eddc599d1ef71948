-- A type that contains itself is left out.
use Rattle.std.proofs.Common.{◌∙◌, sym}
use Rattle.asn1_tags.proofs.OrderedFacts.{finds_none}
use Rattle.asn1_tags.proofs.fact_finding.find_plain.Goals as goal

pub returns-then-is_marked : goal.returns-then-is_marked
returns-then-is_marked c = finds_none c.args.draft.now (sym c.is_marked.ensures ∙ c.if-is_marked.true)
