-- The words come, or they do not.
use Rattle.std.proofs.Common.{◌∙◌, sym, refl, arith, codes}
use Rattle.token_grammar.proofs.Sequences.{apart_closed, spelt_then, spelt_present, spelt_absent, fails_front}
use Rattle.token_grammar.proofs.Sequences.{fails_rest, fails_present, spelt_on, fails_on}
use Rattle.token_grammar.proofs.Heads.{stops_unless}
use Rattle.token_grammar.proofs.Exits.{exit_reads}
use Rattle.token_grammar.specs.TokenTests.{is_word_of}
use Rattle.gdmo_members.proofs.FirstTokens.{labels, labels_lead}
use Rattle.gdmo_members.specs.Templates.{templates, fields}
use Rattle.gdmo_members.proofs.WithClauses.{field_first, field_later}
use Rattle.gdmo_members.proofs.notification.read_fields.Goals as goal

pub returns-in_err-next : goal.returns-in_err-next
returns-in_err-next c = exit_reads _ c.from_residual.result c.from_residual.ensures.1
    (fails_present (field_first c.args.at (record { passed = sym c.is_word_at.ensures ∙ c.if-not-is_word_at.false }))
    (fails_on field_later (fails_front apart_closed (c.in_err-next.ensures templates))))

pub returns-in_err-list : goal.returns-in_err-list
returns-in_err-list c = exit_reads _ c.from_residual-in_err-list.result c.from_residual-in_err-list.ensures.1
    (fails_present (field_first c.args.at (record { passed = sym c.is_word_at.ensures ∙ c.if-not-is_word_at.false }))
    (fails_on field_later (fails_rest (c.in_ok-next.ensures templates) apart_closed c.in_err-list.ensures)))

pub returns : goal.returns
returns c = spelt_present
    (field_first c.args.at (record { passed = sym c.is_word_at.ensures ∙ c.if-not-is_word_at.false }))
    (spelt_on field_later (spelt_then (c.in_ok-next.ensures templates) apart_closed c.in_ok-list.ensures))

pub returns-then-not-is_word_at : goal.returns-then-not-is_word_at
returns-then-not-is_word_at c =
    spelt_absent (stops_unless labels labels_lead (is_word_of (codes "AND")) fields c.args.at c.args.at (omega arith)
    refl (λ t e. e) (sym c.is_word_at.ensures ∙ c.if-not-is_word_at.true))
