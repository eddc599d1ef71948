-- No test of the table tells one name from another.
use Rattle.asn1_values_syntax.proofs.BlindTable.{decided}
use Rattle.asn1_values_syntax.proofs.keyword_law.decided_by_keywords.Goals as goal

pub returns : goal.returns
returns c = decided
