-- One rule more, as long as a comma is behind it.
use Rattle.std.proofs.Common.{refl, arith}
use Rattle.token_grammar.proofs.Sequences.{fails_by}
use Rattle.token_grammar.proofs.Heads.{advances}
use Rattle.token_grammar.proofs.Exits.{exit_reads}
use Rattle.token_grammar.proofs.Turns.{spelt_led, fault_led, list_fault}
use Rattle.token_grammar.specs.Form.{Empty, Leaf}
use Rattle.token_grammar.proofs.Parts.{list_start, list_push, list_last, at_within, separates_closed}
use Rattle.gdmo_members.proofs.FirstTokens.{labels, labels_lead}
use Rattle.gdmo_members.specs.Clauses.{comma}
use Rattle.gdmo_members.specs.Templates.{templates}
use Rattle.gdmo_members.proofs.matching_rules.read_rule_list.Goals as goal

pub turns-init : goal.turns-init
turns-init c = list_start Leaf c.new-list.result.items c.new-list.ensures.items

pub returns-in_err-rule : goal.returns-in_err-rule
returns-in_err-rule c = exit_reads _ c.from_residual.result c.from_residual.ensures.1
    (fails_by (λ k r. fault_led c.turns.invariant (list_fault separates_closed r)) (c.in_err-rule.ensures templates))

pub turns-preserved : goal.turns-preserved
turns-preserved c = list_push Leaf Empty c.turns.list.items c.push.new.self.items separates_closed c.turns.invariant
    (c.in_ok-rule.ensures templates) c.in_ok-push.ensures.items (record { passed = c.in-Some.ensures.0 })
    c.in-Some.ensures.1

pub turns-smaller : goal.turns-smaller
turns-smaller c = let forward = advances labels labels_lead refl (c.in_ok-rule.ensures templates).spelt in let within =
    at_within c.args.tokens.now c.in_ok-rule.behind comma c.in-Some.ensures.0 in let next =
    c.in-Some.ensures.1 in omega arith

pub returns-in_default : goal.returns-in_default
returns-in_default c = spelt_led c.turns.invariant
    (list_last Leaf Empty c.turns.list.items c.push.new.self.items separates_closed (c.in_ok-rule.ensures templates)
    c.in_ok-push.ensures.items c.in_default.ensures)
