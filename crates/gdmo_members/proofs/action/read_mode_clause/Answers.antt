-- The keyword, the word and the semicolon.
use Rattle.token_grammar.proofs.Sequences.{apart_closed, spelt_then, fails_front, fails_rest}
use Rattle.token_grammar.proofs.Endings.{clause_ends}
use Rattle.token_grammar.proofs.Exits.{exit_reads}
use Rattle.gdmo_members.specs.Templates.{templates}
use Rattle.gdmo_members.proofs.action.read_mode_clause.Goals as goal

pub returns-in_err-next : goal.returns-in_err-next
returns-in_err-next c = exit_reads _ c.from_residual.result c.from_residual.ensures.1
    (fails_front apart_closed (c.in_err-next.ensures templates))

pub returns : goal.returns
returns c = clause_ends c.args.tokens.now _ _ c.read_one_of.result c.end_clause.result
    (c.in_ok-next.ensures templates) apart_closed (c.read_one_of.ensures templates) c.end_clause.ensures
