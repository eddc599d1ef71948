-- The parts, one after the other.
use Rattle.asn1_values_syntax.specs.ConstraintTrees.{constraint_tree}
use Rattle.asn1_values_syntax.proofs.FirstTokens.{firsts, firsts_lead}
use Rattle.asn1_values_syntax.specs.TypeForms.{constraint, parenthesis}
use Rattle.std.proofs.Common.{arith, refl, sym, ◌∙◌}
use Rattle.token_grammar.proofs.Exits.{exit_reads}
use Rattle.token_grammar.proofs.Heads.{advances, stops_unless}
use Rattle.token_grammar.proofs.Parts.{at_within, many_push, many_start}
use Rattle.token_grammar.proofs.Sequences.{apart_closed, fails_by, not_closed}
use Rattle.token_grammar.proofs.Turns.{fault_led, many_ends, many_fault, spelt_led}
use Rattle.token_grammar.specs.Form.{Empty}
use Rattle.asn1_values_syntax.proofs.constraint.read_constraints.Goals as goal

pub turns-init : goal.turns-init
turns-init c = many_start constraint_tree c.new-list.result.items c.new-list.ensures.items

pub returns-in_err-constraint : goal.returns-in_err-constraint
returns-in_err-constraint c = exit_reads _ c.from_residual.result c.from_residual.ensures.1
    (fails_by (λ k r. fault_led c.turns.invariant (many_fault (record
    { passed = (sym c.is_sign_at.ensures ∙ c.turns-test.true) }) (λ m here. not_closed here) apart_closed r))
    c.in_err-constraint.ensures)

pub turns-preserved : goal.turns-preserved
turns-preserved c = many_push constraint_tree Empty c.turns.list.items c.push.new.self.items
    (λ m here. not_closed here) apart_closed (record { passed = (sym c.is_sign_at.ensures ∙ c.turns-test.true) })
    c.turns.invariant c.in_ok-constraint.ensures c.in_ok-push.ensures.items

pub turns-smaller : goal.turns-smaller
turns-smaller c = let forward = advances firsts firsts_lead refl c.in_ok-constraint.ensures.spelt in let within =
    at_within c.args.tokens.now c.turns.next parenthesis (sym c.is_sign_at.ensures ∙ c.turns-test.true) in omega arith

pub returns : goal.returns
returns c = spelt_led c.turns.invariant (many_ends (stops_unless firsts firsts_lead parenthesis constraint
    c.turns.next c.turns.next (omega arith) refl (λ t e. e) (sym c.is_sign_at.ensures ∙ c.turns-test.false)))
