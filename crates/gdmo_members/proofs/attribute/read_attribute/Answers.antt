-- The template in the box.
use Rattle.std.proofs.Common.{ap}
use Rattle.token_grammar.proofs.Exits.{exit_reads}
use Rattle.token_grammar.proofs.Parts.{spelt_as}
use Rattle.gdmo_members.specs.MemberTrees.{attribute_tree}
use Rattle.gdmo_members.proofs.attribute.read_attribute.Goals as goal

pub returns-in_err-template : goal.returns-in_err-template
returns-in_err-template c = exit_reads _ c.from_residual.result c.from_residual.ensures.1 c.in_err-template.ensures

pub returns : goal.returns
returns c = spelt_as (ap attribute_tree c.into_inner.ensures) c.in_ok-template.ensures
