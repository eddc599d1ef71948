-- The words DERIVATION RULE tell a rule from a name.
use Rattle.std.proofs.Common.{◌∙◌, sym, codes}
use Rattle.token_grammar.proofs.Sequences.{apart_closed, spelt_then, spelt_first, spelt_second, fault_first}
use Rattle.token_grammar.proofs.Sequences.{fault_second, spelt_wider, fails_by, fails_front, fails_rest, fails_wider}
use Rattle.token_grammar.proofs.Exits.{exit_reads}
use Rattle.token_grammar.specs.TokenTests.{is_word_of}
use Rattle.gdmo_members.specs.Templates.{templates}
use Rattle.gdmo_classes.proofs.Values.{value_stops, rule_stops}
use Rattle.gdmo_classes.proofs.properties.read_property_value.Goals as goal

pub returns-in_err-next : goal.returns-in_err-next
returns-in_err-next c = exit_reads _ c.from_residual.result c.from_residual.ensures.1
    (fails_by (λ k r. fault_second
    (value_stops c.args.tokens.now c.args.at (sym c.is_pair_at.ensures ∙ c.if-is_pair_at.true) r.stops.furthest) r)
    (fails_front apart_closed (c.in_err-next.ensures templates)))

pub returns-in_err-rule : goal.returns-in_err-rule
returns-in_err-rule c = exit_reads _ c.from_residual-in_err-rule.result c.from_residual-in_err-rule.ensures.1
    (fails_by (λ k r. fault_second
    (value_stops c.args.tokens.now c.args.at (sym c.is_pair_at.ensures ∙ c.if-is_pair_at.true) r.stops.furthest) r)
    (fails_rest (c.in_ok-next.ensures templates) apart_closed c.in_err-rule.ensures))

pub returns-then-is_pair_at : goal.returns-then-is_pair_at
returns-then-is_pair_at c = let one =
    (spelt_then (c.in_ok-next.ensures templates) apart_closed c.in_ok-rule.ensures) in
    spelt_second (value_stops c.args.tokens.now c.args.at (sym c.is_pair_at.ensures ∙ c.if-is_pair_at.true)
    one.furthest) one

pub returns-in_err-value : goal.returns-in_err-value
returns-in_err-value c =
    exit_reads _ c.from_residual-in_err-value.result c.from_residual-in_err-value.ensures.1
    (fails_by (λ k r. fault_first r
    (rule_stops c.args.tokens.now c.args.at (sym c.is_pair_at.ensures ∙ c.if-is_pair_at.false) r.stops.furthest))
    (fails_wider (is_word_of (codes "BEHAVIOUR")) (c.in_err-value.ensures templates)))

pub returns : goal.returns
returns c = let one = spelt_wider (is_word_of (codes "BEHAVIOUR")) (c.in_ok-value.ensures templates) in
    spelt_first one (rule_stops c.args.tokens.now c.args.at (sym c.is_pair_at.ensures ∙ c.if-is_pair_at.false)
    one.furthest)
