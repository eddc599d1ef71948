-- One part more, as long as a comma is behind it.
use Rattle.std.proofs.Common.{arith, refl}
use Rattle.token_grammar.specs.Form.{Empty, Leaf}
use Rattle.token_grammar.proofs.Endings.{part_fails, part_kept}
use Rattle.token_grammar.proofs.Exits.{exit_reads}
use Rattle.token_grammar.proofs.Heads.{advances}
use Rattle.token_grammar.proofs.Parts.{at_within, list_last, list_push, list_start, separates_closed}
use Rattle.token_grammar.proofs.Sequences.{fails_by}
use Rattle.token_grammar.proofs.Turns.{fault_led, list_fault, spelt_led}
use Rattle.asn1_values_syntax.specs.ValueForms.{comma}
use Rattle.asn1_values_syntax.proofs.FirstTokens.{firsts, firsts_lead}
use Rattle.asn1_values_syntax.specs.Asn1.{asn1}
use Rattle.extra_syntax.proofs.instance.read_labels.Goals as goal

pub turns-init : goal.turns-init
turns-init c = list_start Leaf c.new-list.result.items c.new-list.ensures.items

pub returns-in_err-behind : goal.returns-in_err-behind
returns-in_err-behind c = exit_reads _ c.from_residual.result c.from_residual.ensures.1
    (fails_by (λ k r. fault_led c.turns.invariant (list_fault separates_closed r))
    (part_fails c.args.tokens.now _ _ _ c.turns.next c.read_label.result c.turns.list.items
    c.keep_part.new.list.items _ (c.read_label.ensures asn1) c.in_err-behind.ensures))

pub turns-preserved : goal.turns-preserved
turns-preserved c =
    let one = part_kept c.args.tokens.now _ _ _ c.turns.next c.read_label.result c.turns.list.items
    c.keep_part.new.list.items _ (c.read_label.ensures asn1) c.in_ok-behind.ensures in
    list_push Leaf Empty c.turns.list.items c.keep_part.new.list.items separates_closed c.turns.invariant one.spelt
    one.items
    (record { passed = c.in-Some.ensures.0 }) c.in-Some.ensures.1

pub turns-smaller : goal.turns-smaller
turns-smaller c =
    let one = part_kept c.args.tokens.now _ _ _ c.turns.next c.read_label.result c.turns.list.items
    c.keep_part.new.list.items _ (c.read_label.ensures asn1) c.in_ok-behind.ensures in
    let forward = advances firsts firsts_lead refl one.spelt.spelt in let within = at_within c.args.tokens.now _ comma
    c.in-Some.ensures.0 in let next = c.in-Some.ensures.1 in omega arith

pub returns-in_default : goal.returns-in_default
returns-in_default c =
    let one = part_kept c.args.tokens.now _ _ _ c.turns.next c.read_label.result c.turns.list.items
    c.keep_part.new.list.items _ (c.read_label.ensures asn1) c.in_ok-behind.ensures in
    spelt_led c.turns.invariant (list_last Leaf Empty c.turns.list.items c.keep_part.new.list.items separates_closed
    one.spelt
    one.items c.in_default.ensures)
