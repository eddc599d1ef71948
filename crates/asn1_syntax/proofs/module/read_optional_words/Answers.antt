-- The parts, one after the other.
use Rattle.asn1_syntax.proofs.ModuleApart.{comma_exports, word_exports}
use Rattle.asn1_values_syntax.proofs.FirstTokens.{quiet_unless}
use Rattle.asn1_values_syntax.specs.ValueForms.{comma}
use Rattle.std.proofs.Common.{arith, refl, sym, ◌∙◌}
use Rattle.token_grammar.proofs.Exits.{exit_reads}
use Rattle.token_grammar.proofs.Sequences.{fails_on, fails_present, spelt_absent, spelt_on, spelt_present}
use Rattle.token_grammar.specs.Form.{Empty, Keep, Listed}
use Rattle.token_grammar.specs.TokenTests.{is_word}
use Rattle.asn1_syntax.proofs.module.read_optional_words.Goals as goal

pub returns-in_err-list : goal.returns-in_err-list
returns-in_err-list c = exit_reads _ c.from_residual.result c.from_residual.ensures.1
    (fails_present (word_exports (record { passed = sym c.is_any_word_at.ensures ∙ c.if-not-is_any_word_at.false }))
    (fails_on comma_exports c.in_err-list.ensures))

pub returns : goal.returns
returns c = spelt_present (word_exports (record {
  passed = sym c.is_any_word_at.ensures ∙
      c.if-not-is_any_word_at.false;
})) (spelt_on comma_exports c.in_ok-list.ensures)

pub returns-then-not-is_any_word_at : goal.returns-then-not-is_any_word_at
returns-then-not-is_any_word_at c = spelt_absent ((quiet_unless is_word (Listed comma Empty (Keep is_word)) refl
    (λ t e. e) (sym c.is_any_word_at.ensures ∙ c.if-not-is_any_word_at.true)).stops _ (omega arith))
