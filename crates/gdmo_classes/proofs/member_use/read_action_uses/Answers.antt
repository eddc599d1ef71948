-- One part more, as long as a comma is behind it.
use Rattle.std.proofs.Common.{refl, arith}
use Rattle.token_grammar.proofs.Sequences.{fails_by}
use Rattle.token_grammar.proofs.Heads.{advances}
use Rattle.token_grammar.proofs.Endings.{part_kept, part_fails}
use Rattle.token_grammar.proofs.Exits.{exit_reads}
use Rattle.token_grammar.proofs.Turns.{spelt_led, fault_led, list_fault}
use Rattle.token_grammar.proofs.Parts.{list_start, list_push, list_last, at_within}
use Rattle.token_grammar.specs.Form.{Empty}
use Rattle.gdmo_members.proofs.FirstTokens.{labels, labels_lead}
use Rattle.gdmo_members.specs.Clauses.{comma}
use Rattle.gdmo_classes.proofs.PartEnds.{part_separates}
use Rattle.gdmo_classes.specs.UseTrees.{action_use_tree}
use Rattle.gdmo_classes.proofs.member_use.read_action_uses.Goals as goal

pub turns-init : goal.turns-init
turns-init c = list_start action_use_tree c.new-list.result.items c.new-list.ensures.items

pub returns-in_err-behind : goal.returns-in_err-behind
returns-in_err-behind c = exit_reads _ c.from_residual.result c.from_residual.ensures.1
    (fails_by (λ k r. fault_led c.turns.invariant (list_fault part_separates r))
    (part_fails c.args.tokens.now _ _ _ c.turns.next c.read_action_use.result c.turns.list.items
    c.keep_part.new.list.items _ c.read_action_use.ensures c.in_err-behind.ensures))

pub turns-preserved : goal.turns-preserved
turns-preserved c =
    let one = part_kept c.args.tokens.now _ _ _ c.turns.next c.read_action_use.result c.turns.list.items
    c.keep_part.new.list.items _ c.read_action_use.ensures c.in_ok-behind.ensures in
    list_push action_use_tree Empty c.turns.list.items c.keep_part.new.list.items part_separates c.turns.invariant
    one.spelt one.items (record { passed = c.in-Some.ensures.0 }) c.in-Some.ensures.1

pub turns-smaller : goal.turns-smaller
turns-smaller c =
    let one = part_kept c.args.tokens.now _ _ _ c.turns.next c.read_action_use.result c.turns.list.items
    c.keep_part.new.list.items _ c.read_action_use.ensures c.in_ok-behind.ensures in
    let forward = advances labels labels_lead refl one.spelt.spelt in let within = at_within c.args.tokens.now _ comma
    c.in-Some.ensures.0 in let next = c.in-Some.ensures.1 in omega arith

pub returns-in_default : goal.returns-in_default
returns-in_default c =
    let one = part_kept c.args.tokens.now _ _ _ c.turns.next c.read_action_use.result c.turns.list.items
    c.keep_part.new.list.items _ c.read_action_use.ensures c.in_ok-behind.ensures in
    spelt_led c.turns.invariant (list_last action_use_tree Empty c.turns.list.items c.keep_part.new.list.items
    part_separates one.spelt one.items c.in_default.ensures)
