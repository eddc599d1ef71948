-- A number, or a name with a number.
use Rattle.std.proofs.Common.{◌∙◌, ◌||◌, sym, refl, false}
use Rattle.token_grammar.proofs.Sequences.{apart_closed, stops_later, spelt_then, spelt_first, spelt_second}
use Rattle.token_grammar.proofs.Sequences.{fault_first, fault_second, fails_by, fails_front, fails_rest, spelt_order}
use Rattle.token_grammar.proofs.Heads.{skips, starts, unknown, heads_unknown}
use Rattle.token_grammar.proofs.Known.{at_number}
use Rattle.token_grammar.proofs.Exits.{exit_reads}
use Rattle.token_grammar.proofs.Clauses.{stops_by}
use Rattle.token_grammar.proofs.Tokens.{keep_fault}
use Rattle.token_grammar.specs.Parts.{named_number}
use Rattle.token_grammar.proofs.object_identifier.read_arc.Goals as goal

pub returns-in_err-number : goal.returns-in_err-number
returns-in_err-number c =
    λ grammar. exit_reads _ c.from_residual.result c.from_residual.ensures.1
    (fails_by (λ k r. fault_first r
    (stops_by unknown heads_unknown named_number r.stops.order
    (record { passed = (sym c.is_number_at.ensures ∙ c.if-is_number_at.true) })
    (at_number false (λ t. starts unknown named_number t || skips unknown named_number) (λ at text. refl))))
    (c.in_err-number.ensures grammar))

pub returns-then-is_number_at : goal.returns-then-is_number_at
returns-then-is_number_at c = λ grammar. let one =
    c.in_ok-number.ensures grammar in
    spelt_first one (stops_by unknown heads_unknown named_number (spelt_order one)
    (record { passed = (sym c.is_number_at.ensures ∙ c.if-is_number_at.true) })
    (at_number false (λ t. starts unknown named_number t || skips unknown named_number) (λ at text. refl)))

pub returns-in_err-name : goal.returns-in_err-name
returns-in_err-name c = λ grammar. exit_reads _ c.from_residual-in_err-name.result c.from_residual-in_err-name.ensures.1
    (fails_by (λ k r. fault_second
    (stops_later r.stops.order (keep_fault (sym c.is_number_at.ensures ∙ c.if-is_number_at.false)).stops) r)
    (fails_front apart_closed (c.in_err-name.ensures grammar)))

pub returns-in_err-next : goal.returns-in_err-next
returns-in_err-next c = λ grammar. exit_reads _ c.from_residual-in_err-next.result c.from_residual-in_err-next.ensures.1
    (fails_by (λ k r. fault_second
    (stops_later r.stops.order (keep_fault (sym c.is_number_at.ensures ∙ c.if-is_number_at.false)).stops) r)
    (fails_rest (c.in_ok-name.ensures grammar) apart_closed (fails_front apart_closed (c.in_err-next.ensures grammar))))

pub returns-in_err-number-2 : goal.returns-in_err-number-2
returns-in_err-number-2 c =
    λ grammar. exit_reads _ c.from_residual-in_err-number-2.result c.from_residual-in_err-number-2.ensures.1
    (fails_by (λ k r. fault_second
    (stops_later r.stops.order (keep_fault (sym c.is_number_at.ensures ∙ c.if-is_number_at.false)).stops) r)
    (fails_rest (c.in_ok-name.ensures grammar) apart_closed
    (fails_rest (c.in_ok-next.ensures grammar) apart_closed
    (fails_front apart_closed (c.in_err-number-2.ensures grammar)))))

pub returns-in_err-next-2 : goal.returns-in_err-next-2
returns-in_err-next-2 c =
    λ grammar. exit_reads _ c.from_residual-in_err-next-2.result c.from_residual-in_err-next-2.ensures.1
    (fails_by (λ k r. fault_second
    (stops_later r.stops.order (keep_fault (sym c.is_number_at.ensures ∙ c.if-is_number_at.false)).stops) r)
    (fails_rest (c.in_ok-name.ensures grammar) apart_closed
    (fails_rest (c.in_ok-next.ensures grammar) apart_closed
    (fails_rest (c.in_ok-number-2.ensures grammar) apart_closed (c.in_err-next-2.ensures grammar)))))

pub returns : goal.returns
returns c = λ grammar. let one =
    (spelt_then (c.in_ok-name.ensures grammar) apart_closed
    (spelt_then (c.in_ok-next.ensures grammar) apart_closed
    (spelt_then (c.in_ok-number-2.ensures grammar) apart_closed (c.in_ok-next-2.ensures grammar)))) in
    spelt_second (stops_later (spelt_order one)
    (keep_fault (sym c.is_number_at.ensures ∙ c.if-is_number_at.false)).stops) one
