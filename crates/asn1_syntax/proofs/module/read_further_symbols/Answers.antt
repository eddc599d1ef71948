-- The parts, one after the other.
use Rattle.asn1_syntax.proofs.ModuleApart.{brace_imports, symbols_apart}
use Rattle.asn1_syntax.specs.ModuleTrees.{symbols_tree}
use Rattle.asn1_values_syntax.proofs.FirstTokens.{firsts, firsts_lead}
use Rattle.asn1_values_syntax.specs.Asn1.{symbols}
use Rattle.asn1_values_syntax.specs.TypeEnds.{is_imports_end}
use Rattle.asn1_values_syntax.specs.TypeForms.{brace}
use Rattle.std.proofs.Common.{arith, refl, sym, ◌∙◌}
use Rattle.token_grammar.proofs.Exits.{exit_reads}
use Rattle.token_grammar.proofs.Heads.{advances, at_wider, or_left, stops_unless}
use Rattle.token_grammar.proofs.Parts.{at_within, many_push, many_start}
use Rattle.token_grammar.proofs.Sequences.{fails_by}
use Rattle.token_grammar.proofs.Turns.{fault_led, many_ends, many_fault, spelt_led}
use Rattle.token_grammar.specs.Form.{Empty}
use Rattle.token_grammar.specs.TokenTests.{is_name}
use Rattle.asn1_syntax.proofs.module.read_further_symbols.Goals as goal

pub turns-init : goal.turns-init
turns-init c = many_start symbols_tree c.new-list.result.items c.new-list.ensures.items

pub returns-in_err-symbols : goal.returns-in_err-symbols
returns-in_err-symbols c = exit_reads _ c.from_residual.result c.from_residual.ensures.1
    (fails_by (λ k r. fault_led c.turns.invariant (many_fault (at_wider is_imports_end
    (λ t e. or_left (is_name t) (brace t) e) (record { passed = (sym c.is_name_at.ensures ∙ c.turns-test.true) }))
    brace_imports symbols_apart r)) c.in_err-symbols.ensures)

pub turns-preserved : goal.turns-preserved
turns-preserved c = many_push symbols_tree Empty c.turns.list.items c.push.new.self.items brace_imports symbols_apart
    (at_wider is_imports_end (λ t e. or_left (is_name t) (brace t) e)
    (record { passed = (sym c.is_name_at.ensures ∙ c.turns-test.true) })) c.turns.invariant c.in_ok-symbols.ensures
    c.in_ok-push.ensures.items

pub turns-smaller : goal.turns-smaller
turns-smaller c = let forward = advances firsts firsts_lead refl c.in_ok-symbols.ensures.spelt in let within =
    at_within c.args.tokens.now c.turns.next is_name (sym c.is_name_at.ensures ∙ c.turns-test.true) in omega arith

pub returns : goal.returns
returns c = spelt_led c.turns.invariant (many_ends (stops_unless firsts firsts_lead is_name symbols c.turns.next
    c.turns.next (omega arith) refl (λ t e. e) (sym c.is_name_at.ensures ∙ c.turns-test.false)))
