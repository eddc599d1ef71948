-- The parts, one after the other.
use Rattle.asn1_values_syntax.specs.NamedNumberTrees.{tag_tree}
use Rattle.std.proofs.Common.{ap}
use Rattle.token_grammar.proofs.Exits.{exit_reads}
use Rattle.token_grammar.proofs.Parts.{spelt_as}
use Rattle.asn1_values_syntax.proofs.tag.read_boxed_tag.Goals as goal

pub returns-in_err-tag : goal.returns-in_err-tag
returns-in_err-tag c = exit_reads _ c.from_residual.result c.from_residual.ensures.1 c.in_err-tag.ensures

pub returns : goal.returns
returns c = spelt_as (ap tag_tree c.in_ok-boxed.ensures.ok) c.in_ok-tag.ensures
