-- The modifiers and the parameters.
use Rattle.token_grammar.proofs.Sequences.{spelt_on, fails_on}
use Rattle.token_grammar.proofs.Exits.{exit_reads}
use Rattle.token_grammar.proofs.OpenParts.{fails_front_on, beside_reads_on, reads_on}
use Rattle.gdmo_classes.proofs.PartEnds.{part_wider, modifiers_meet}
use Rattle.token_grammar.specs.Parts.{optional_tree, vector_tree}
use Rattle.gdmo_members.specs.MemberTrees.{parameter_reference_tree}
use Rattle.gdmo_members.specs.Clauses.{parameters, reference_row}
use Rattle.gdmo_members.specs.Templates.{templates}
use Rattle.gdmo_classes.specs.BindingTrees.{modifiers_tree}
use Rattle.gdmo_classes.proofs.creation.read_creation.Goals as goal

pub returns-in_err-modifiers : goal.returns-in_err-modifiers
returns-in_err-modifiers c =
    exit_reads _ c.from_residual.result c.from_residual.ensures.1
    (fails_front_on modifiers_meet c.in_err-modifiers.ensures)

pub returns-in_err-parts : goal.returns-in_err-parts
returns-in_err-parts c = exit_reads _ c.from_residual-in_err-parts.result c.from_residual-in_err-parts.ensures.1
    (beside_reads_on c.args.tokens.now (reference_row parameters) (optional_tree modifiers_tree)
    (vector_tree parameter_reference_tree) _ c.read_parameter_row.result _ c.in_ok-modifiers.ensures modifiers_meet
    (reads_on c.args.tokens.now templates (reference_row parameters) (vector_tree parameter_reference_tree) _
    c.read_parameter_row.result part_wider c.read_parameter_row.ensures) c.in_err-parts.ensures)

pub returns : goal.returns
returns c = (beside_reads_on c.args.tokens.now (reference_row parameters) (optional_tree modifiers_tree)
    (vector_tree parameter_reference_tree) _ c.read_parameter_row.result _ c.in_ok-modifiers.ensures modifiers_meet
    (reads_on c.args.tokens.now templates (reference_row parameters) (vector_tree parameter_reference_tree) _
    c.read_parameter_row.result part_wider c.read_parameter_row.ensures) c.in_ok-parts.ensures)
