-- The properties and the parameters.
use Rattle.token_grammar.specs.Parts.{vector_tree}
use Rattle.token_grammar.proofs.Exits.{exit_reads}
use Rattle.gdmo_members.specs.Clauses.{parameters, reference_row}
use Rattle.gdmo_members.specs.MemberTrees.{parameter_reference_tree}
use Rattle.gdmo_classes.specs.UseTrees.{properties_tree}
use Rattle.token_grammar.proofs.OpenParts.{fails_front_on, beside_reads_on}
use Rattle.gdmo_classes.proofs.PartEnds.{row_meets}
use Rattle.gdmo_classes.proofs.attribute_use.read_use_parts.Goals as goal

pub returns-in_err-properties : goal.returns-in_err-properties
returns-in_err-properties c = exit_reads _ c.from_residual.result c.from_residual.ensures.1
    (fails_front_on row_meets c.in_err-properties.ensures)

pub returns : goal.returns
returns c = beside_reads_on c.args.tokens.now (reference_row parameters) properties_tree
    (vector_tree parameter_reference_tree) _ c.read_parameter_row.result c.beside.result c.in_ok-properties.ensures
    row_meets c.read_parameter_row.ensures c.beside.ensures
