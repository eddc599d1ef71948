-- The brace, the first arc, the others and the second brace.
use Rattle.std.proofs.Common.{refl, false}
use Rattle.token_grammar.proofs.Sequences.{apart_closed, apart_by, spelt_then, fails_front, fails_rest}
use Rattle.token_grammar.proofs.Heads.{starts, unknown, heads_unknown}
use Rattle.token_grammar.proofs.Known.{at_sign}
use Rattle.token_grammar.proofs.Exits.{exit_reads}
use Rattle.token_grammar.specs.Form.{Then, Empty, Many}
use Rattle.token_grammar.specs.Parts.{sign, arc}
use Rattle.token_grammar.proofs.Parts.{arcs_apart}
use Rattle.std.specs.Prelude.{codes}
use Rattle.token_grammar.proofs.object_identifier.read_object_identifier.Goals as goal

pub returns-in_err-brace : goal.returns-in_err-brace
returns-in_err-brace c =
    λ grammar. exit_reads _ c.from_residual.result c.from_residual.ensures.1
    (fails_front apart_closed (c.in_err-brace.ensures grammar))

pub returns-in_err-first : goal.returns-in_err-first
returns-in_err-first c =
    λ grammar. exit_reads _ c.from_residual-in_err-first.result c.from_residual-in_err-first.ensures.1
    (fails_rest (c.in_ok-brace.ensures grammar) apart_closed
    (fails_front (apart_by unknown heads_unknown (Then (Many Empty arc) (sign (codes "}"))) refl
    (at_sign (codes "(") false (starts unknown (Then (Many Empty arc) (sign (codes "}")))) (λ at. refl)))
    (c.in_err-first.ensures grammar)))

pub returns-in_err-others : goal.returns-in_err-others
returns-in_err-others c =
    λ grammar. exit_reads _ c.from_residual-in_err-others.result c.from_residual-in_err-others.ensures.1
    (fails_rest (c.in_ok-brace.ensures grammar) apart_closed
    (fails_rest (c.in_ok-first.ensures grammar)
    (apart_by unknown heads_unknown (Then (Many Empty arc) (sign (codes "}"))) refl
    (at_sign (codes "(") false (starts unknown (Then (Many Empty arc) (sign (codes "}")))) (λ at. refl)))
    (fails_front arcs_apart (c.in_err-others.ensures grammar))))

pub returns-in_err-next : goal.returns-in_err-next
returns-in_err-next c = λ grammar. exit_reads _ c.from_residual-in_err-next.result c.from_residual-in_err-next.ensures.1
    (fails_rest (c.in_ok-brace.ensures grammar) apart_closed
    (fails_rest (c.in_ok-first.ensures grammar)
    (apart_by unknown heads_unknown (Then (Many Empty arc) (sign (codes "}"))) refl
    (at_sign (codes "(") false (starts unknown (Then (Many Empty arc) (sign (codes "}")))) (λ at. refl)))
    (fails_rest (c.in_ok-others.ensures grammar) arcs_apart (c.in_err-next.ensures grammar))))

pub returns : goal.returns
returns c = λ grammar. (spelt_then (c.in_ok-brace.ensures grammar) apart_closed
    (spelt_then (c.in_ok-first.ensures grammar)
    (apart_by unknown heads_unknown (Then (Many Empty arc) (sign (codes "}"))) refl
    (at_sign (codes "(") false (starts unknown (Then (Many Empty arc) (sign (codes "}")))) (λ at. refl)))
    (spelt_then (c.in_ok-others.ensures grammar) arcs_apart (c.in_ok-next.ensures grammar))))
