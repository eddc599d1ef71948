-- A string comes or it does not; where it comes, a colon is behind it.
use Rattle.std.proofs.Common.{◌∙◌, sym, refl, arith}
use Rattle.token_grammar.proofs.Sequences.{apart_closed, spelt_wider, fails_wider, spelt_then, spelt_present}
use Rattle.token_grammar.proofs.Sequences.{spelt_absent, fails_front, fails_rest, fails_present}
use Rattle.token_grammar.proofs.Heads.{unknown, heads_unknown, stops_unless}
use Rattle.token_grammar.proofs.Exits.{exit_reads}
use Rattle.token_grammar.specs.TokenTests.{is_string}
use Rattle.token_grammar.specs.Parts.{document_name}
use Rattle.token_grammar.proofs.label_reference.read_document_name.Goals as goal

pub returns-in_err-name : goal.returns-in_err-name
returns-in_err-name c = λ grammar. exit_reads _ c.from_residual.result c.from_residual.ensures.1
    (fails_present (record { passed = sym c.is_string_at.ensures ∙ c.if-not-is_string_at.false })
    (fails_wider is_string (fails_front apart_closed (c.in_err-name.ensures grammar))))

pub returns-in_err-next : goal.returns-in_err-next
returns-in_err-next c = λ grammar. exit_reads _ c.from_residual-in_err-next.result c.from_residual-in_err-next.ensures.1
    (fails_present (record { passed = sym c.is_string_at.ensures ∙ c.if-not-is_string_at.false })
    (fails_wider is_string (fails_rest (c.in_ok-name.ensures grammar) apart_closed (c.in_err-next.ensures grammar))))

pub returns : goal.returns
returns c = λ grammar. spelt_present (record { passed = sym c.is_string_at.ensures ∙ c.if-not-is_string_at.false })
    (spelt_wider is_string (spelt_then (c.in_ok-name.ensures grammar) apart_closed (c.in_ok-next.ensures grammar)))

pub returns-then-not-is_string_at : goal.returns-then-not-is_string_at
returns-then-not-is_string_at c =
    λ grammar. spelt_absent (stops_unless unknown heads_unknown is_string document_name c.args.at c.args.at
    (omega arith) refl (λ t e. e) (sym c.is_string_at.ensures ∙ c.if-not-is_string_at.true))
