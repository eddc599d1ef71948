-- The parts, one after the other.
use Rattle.asn1_values_syntax.specs.NamedNumberTrees.{named_bit_tree}
use Rattle.asn1_values_syntax.proofs.FirstTokens.{firsts, firsts_lead}
use Rattle.asn1_values_syntax.specs.ValueForms.{comma}
use Rattle.std.proofs.Common.{arith, refl}
use Rattle.token_grammar.proofs.Exits.{exit_reads}
use Rattle.token_grammar.proofs.Heads.{advances}
use Rattle.token_grammar.proofs.Parts.{at_within, list_last, list_push, list_start, separates_closed}
use Rattle.token_grammar.proofs.Sequences.{fails_by}
use Rattle.token_grammar.proofs.Turns.{fault_led, list_fault, spelt_led}
use Rattle.token_grammar.specs.Form.{Empty}
use Rattle.asn1_values_syntax.proofs.named_number.read_bit_list.Goals as goal

pub turns-init : goal.turns-init
turns-init c = list_start named_bit_tree c.new-list.result.items c.new-list.ensures.items

pub returns-in_err-item : goal.returns-in_err-item
returns-in_err-item c = exit_reads _ c.from_residual.result c.from_residual.ensures.1
    (fails_by (λ k r. fault_led c.turns.invariant (list_fault separates_closed r)) c.in_err-item.ensures)

pub turns-preserved : goal.turns-preserved
turns-preserved c = list_push named_bit_tree Empty c.turns.list.items c.push.new.self.items separates_closed
    c.turns.invariant c.in_ok-item.ensures c.in_ok-push.ensures.items (record { passed = c.in-Some.ensures.0 })
    c.in-Some.ensures.1

pub turns-smaller : goal.turns-smaller
turns-smaller c = let forward = advances firsts firsts_lead refl c.in_ok-item.ensures.spelt in let within = at_within
    c.args.tokens.now c.in_ok-item.behind comma c.in-Some.ensures.0 in let next = c.in-Some.ensures.1 in omega arith

pub returns-in_default : goal.returns-in_default
returns-in_default c = spelt_led c.turns.invariant (list_last named_bit_tree Empty c.turns.list.items
    c.push.new.self.items separates_closed c.in_ok-item.ensures c.in_ok-push.ensures.items c.in_default.ensures)
