-- The keywords and the string.
use Rattle.token_grammar.specs.Form.{Keep, Leaf, Bare}
use Rattle.token_grammar.specs.TokenTests.{is_string}
use Rattle.token_grammar.proofs.Sequences.{apart_closed, fails_front}
use Rattle.token_grammar.proofs.Endings.{behind_reads}
use Rattle.token_grammar.specs.Outcome.{closed}
use Rattle.token_grammar.proofs.Exits.{exit_reads}
use Rattle.gdmo_members.specs.Templates.{templates}
use Rattle.gdmo_classes.proofs.class.read_condition.Goals as goal

pub returns-in_err-next : goal.returns-in_err-next
returns-in_err-next c = exit_reads _ c.from_residual.result c.from_residual.ensures.1
    (fails_front apart_closed (c.in_err-next.ensures templates))

pub returns : goal.returns
returns c = behind_reads c.args.tokens.now closed (Keep is_string) Bare Leaf c.read_string.result
    (c.in_ok-next.ensures templates) (c.read_string.ensures templates)
