-- The modifiers and the parameters.
use Rattle.token_grammar.proofs.Sequences.{spelt_on, fails_on}
use Rattle.token_grammar.proofs.Exits.{exit_reads}
use Rattle.token_grammar.proofs.OpenParts.{spelt_then_on, fails_front_on, fails_rest_on}
use Rattle.gdmo_classes.proofs.PartEnds.{part_wider, modifiers_meet}
use Rattle.gdmo_classes.proofs.creation.read_deletion.Goals as goal

pub returns-in_err-modifier : goal.returns-in_err-modifier
returns-in_err-modifier c =
    exit_reads _ c.from_residual.result c.from_residual.ensures.1
    (fails_front_on modifiers_meet c.in_err-modifier.ensures)

pub returns-in_err-parameters : goal.returns-in_err-parameters
returns-in_err-parameters c =
    exit_reads _ c.from_residual-in_err-parameters.result c.from_residual-in_err-parameters.ensures.1
    (fails_rest_on c.in_ok-modifier.ensures modifiers_meet (fails_on part_wider c.in_err-parameters.ensures))

pub returns : goal.returns
returns c = (spelt_then_on c.in_ok-modifier.ensures modifiers_meet (spelt_on part_wider c.in_ok-parameters.ensures))
