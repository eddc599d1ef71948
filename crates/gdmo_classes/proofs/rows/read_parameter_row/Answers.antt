-- As many references as come.
use Rattle.std.proofs.Common.{◌∙◌, sym, refl, true, arith, codes}
use Rattle.token_grammar.proofs.Sequences.{fails_by}
use Rattle.token_grammar.proofs.Heads.{stops_unless, advances}
use Rattle.token_grammar.proofs.Known.{at_word}
use Rattle.token_grammar.proofs.Exits.{exit_reads}
use Rattle.token_grammar.proofs.Turns.{spelt_led, fault_led, many_ends, many_fault}
use Rattle.token_grammar.proofs.Parts.{many_start, many_push, at_within}
use Rattle.token_grammar.specs.Form.{Empty}
use Rattle.gdmo_members.proofs.Apart.{word_apart}
use Rattle.gdmo_members.proofs.FirstTokens.{labels, labels_lead}
use Rattle.gdmo_members.specs.Clauses.{parameters, reference}
use Rattle.gdmo_members.specs.MemberTrees.{parameter_reference_tree}
use Rattle.gdmo_classes.proofs.PartEnds.{reference_starts, start_wider}
use Rattle.gdmo_classes.specs.ClassForms.{is_reference_start, is_word_or_string}
use Rattle.token_grammar.proofs.Heads.{at_wider}
use Rattle.gdmo_classes.proofs.rows.read_parameter_row.Goals as goal

pub turns-init : goal.turns-init
turns-init c = many_start parameter_reference_tree c.new-row.result.items c.new-row.ensures.items

pub returns-in_err-reference : goal.returns-in_err-reference
returns-in_err-reference c =
    exit_reads _ c.from_residual.result c.from_residual.ensures.1
    (fails_by (λ k r. fault_led c.turns.invariant
    (many_fault (start_wider (record { passed = sym c.is_reference_at.ensures ∙ c.turns-test.true }))
    (λ m here. at_wider is_word_or_string (at_word (codes "PARAMETER") true is_word_or_string (λ at. refl)) here)
    (word_apart (codes "PARAMETER") (reference parameters) refl (λ at. refl)) r)) c.in_err-reference.ensures)

pub turns-preserved : goal.turns-preserved
turns-preserved c = many_push parameter_reference_tree Empty c.turns.row.items c.push.new.self.items
    (λ m here. at_wider is_word_or_string (at_word (codes "PARAMETER") true is_word_or_string (λ at. refl)) here)
    (word_apart (codes "PARAMETER") (reference parameters) refl (λ at. refl))
    (start_wider (record { passed = sym c.is_reference_at.ensures ∙ c.turns-test.true })) c.turns.invariant
    c.in_ok-reference.ensures c.in_ok-push.ensures.items

pub turns-smaller : goal.turns-smaller
turns-smaller c = let forward = advances labels labels_lead refl c.in_ok-reference.ensures.spelt in let within =
    at_within c.args.tokens.now c.turns.next is_reference_start (sym c.is_reference_at.ensures ∙ c.turns-test.true)
    in omega arith

pub returns : goal.returns
returns c = spelt_led c.turns.invariant
    (many_ends (stops_unless labels labels_lead is_reference_start (reference parameters) c.turns.next c.turns.next
    (omega arith) refl reference_starts (sym c.is_reference_at.ensures ∙ c.turns-test.false)))
