-- The name of the module, the point and the name.
use Rattle.token_grammar.proofs.Sequences.{apart_closed, spelt_then, fails_front, fails_rest}
use Rattle.token_grammar.proofs.Exits.{exit_reads}
use Rattle.token_grammar.proofs.qualified_name.read_qualified_name.Goals as goal

pub returns-in_err-module_name : goal.returns-in_err-module_name
returns-in_err-module_name c =
    λ grammar. exit_reads _ c.from_residual.result c.from_residual.ensures.1
    (fails_front apart_closed (c.in_err-module_name.ensures grammar))

pub returns-in_err-next : goal.returns-in_err-next
returns-in_err-next c = λ grammar. exit_reads _ c.from_residual-in_err-next.result c.from_residual-in_err-next.ensures.1
    (fails_rest (c.in_ok-module_name.ensures grammar) apart_closed
    (fails_front apart_closed (c.in_err-next.ensures grammar)))

pub returns-in_err-name : goal.returns-in_err-name
returns-in_err-name c = λ grammar. exit_reads _ c.from_residual-in_err-name.result c.from_residual-in_err-name.ensures.1
    (fails_rest (c.in_ok-module_name.ensures grammar) apart_closed
    (fails_rest (c.in_ok-next.ensures grammar) apart_closed (c.in_err-name.ensures grammar)))

pub returns : goal.returns
returns c = λ grammar. (spelt_then (c.in_ok-module_name.ensures grammar) apart_closed
    (spelt_then (c.in_ok-next.ensures grammar) apart_closed (c.in_ok-name.ensures grammar)))
