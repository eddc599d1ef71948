-- One part more, as long as its first word comes.
use Rattle.std.proofs.Common.{arith, refl, sym, ◌∙◌}
use Rattle.token_grammar.specs.Form.{Empty}
use Rattle.token_grammar.proofs.Endings.{part_fails, part_kept}
use Rattle.token_grammar.proofs.Exits.{exit_reads}
use Rattle.token_grammar.proofs.Heads.{advances, stops_unless}
use Rattle.token_grammar.proofs.Parts.{at_within, many_push, many_start}
use Rattle.token_grammar.proofs.Sequences.{apart_closed, fails_by, not_closed}
use Rattle.token_grammar.proofs.Turns.{fault_led, many_ends, many_fault, spelt_led}
use Rattle.asn1_values_syntax.proofs.FirstTokens.{firsts, firsts_lead}
use Rattle.extra_syntax.specs.SectionEnds.{is_instance_start}
use Rattle.extra_syntax.specs.SectionForms.{instance}
use Rattle.extra_syntax.specs.SectionTrees.{instance_tree}
use Rattle.extra_syntax.proofs.Apart.{instance_starts}
use Rattle.extra_syntax.proofs.instances.read_instances.Goals as goal

pub turns-init : goal.turns-init
turns-init c = many_start instance_tree c.new-list.result.items c.new-list.ensures.items

pub returns-in_err-next : goal.returns-in_err-next
returns-in_err-next c = exit_reads _ c.from_residual.result c.from_residual.ensures.1
    (fails_by (λ k r. fault_led c.turns.invariant (many_fault
    (record { passed = sym c.is_one_of_at.ensures ∙ c.turns-test.true })
    (λ m here. not_closed here) apart_closed r))
    (part_fails c.args.tokens.now _ _ _ c.turns.next c.read_instance.result c.turns.list.items
    c.keep_part.new.list.items _ c.read_instance.ensures c.in_err-next.ensures))

pub turns-preserved : goal.turns-preserved
turns-preserved c =
    let one = part_kept c.args.tokens.now _ _ _ c.turns.next c.read_instance.result c.turns.list.items
    c.keep_part.new.list.items _ c.read_instance.ensures c.in_ok-next.ensures in
    many_push instance_tree Empty c.turns.list.items c.keep_part.new.list.items (λ m here. not_closed here) apart_closed
    (record { passed = sym c.is_one_of_at.ensures ∙ c.turns-test.true }) c.turns.invariant one.spelt one.items

pub turns-smaller : goal.turns-smaller
turns-smaller c =
    let one = part_kept c.args.tokens.now _ _ _ c.turns.next c.read_instance.result c.turns.list.items
    c.keep_part.new.list.items _ c.read_instance.ensures c.in_ok-next.ensures in
    let forward = advances firsts firsts_lead refl one.spelt.spelt in let within = at_within c.args.tokens.now
    c.turns.next is_instance_start (sym c.is_one_of_at.ensures ∙ c.turns-test.true) in omega arith

pub returns : goal.returns
returns c = spelt_led c.turns.invariant (many_ends (stops_unless firsts firsts_lead is_instance_start instance
    c.turns.next
    c.turns.next (omega arith) refl instance_starts (sym c.is_one_of_at.ensures ∙ c.turns-test.false)))
