-- As many words as come.
use Rattle.std.proofs.Common.{◌∙◌, sym, refl, arith}
use Rattle.token_grammar.proofs.Sequences.{apart_closed, fails_by, not_closed}
use Rattle.token_grammar.proofs.Heads.{stops_unless, advances}
use Rattle.token_grammar.proofs.Exits.{exit_reads}
use Rattle.token_grammar.proofs.Turns.{spelt_led, fault_led, many_ends, many_fault}
use Rattle.token_grammar.specs.Form.{Empty}
use Rattle.token_grammar.proofs.Parts.{many_start, many_push, at_within}
use Rattle.gdmo_members.proofs.FirstTokens.{labels, labels_lead}
use Rattle.gdmo_members.specs.Clauses.{context_word, is_context_start}
use Rattle.gdmo_members.specs.Trees.{context_word_tree}
use Rattle.gdmo_members.proofs.context.read_context_words.Goals as goal

pub turns-init : goal.turns-init
turns-init c = many_start context_word_tree c.new-words.result.items c.new-words.ensures.items

pub returns-in_err-word : goal.returns-in_err-word
returns-in_err-word c = exit_reads _ c.from_residual.result c.from_residual.ensures.1
    (fails_by (λ k r. fault_led c.turns.invariant
    (many_fault (record { passed = sym c.is_context_word_at.ensures ∙ c.turns-test.true }) (λ m here. not_closed here)
    apart_closed r)) c.in_err-word.ensures)

pub turns-preserved : goal.turns-preserved
turns-preserved c = many_push context_word_tree Empty c.turns.words.items c.push.new.self.items
    (λ m here. not_closed here) apart_closed (record { passed = sym c.is_context_word_at.ensures ∙ c.turns-test.true })
    c.turns.invariant c.in_ok-word.ensures c.in_ok-push.ensures.items

pub turns-smaller : goal.turns-smaller
turns-smaller c = let forward = advances labels labels_lead refl c.in_ok-word.ensures.spelt in let within =
    at_within c.args.tokens.now c.turns.next is_context_start (sym c.is_context_word_at.ensures ∙ c.turns-test.true)
    in omega arith

pub returns : goal.returns
returns c = spelt_led c.turns.invariant
    (many_ends (stops_unless labels labels_lead is_context_start context_word c.turns.next c.turns.next (omega arith)
    refl (λ t e. e) (sym c.is_context_word_at.ensures ∙ c.turns-test.false)))
