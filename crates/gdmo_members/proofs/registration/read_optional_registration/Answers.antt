-- The keyword comes, or it does not.
use Rattle.std.proofs.Common.{◌∙◌, sym, refl, arith, codes}
use Rattle.token_grammar.proofs.Sequences.{spelt_wider, fails_wider, spelt_present, spelt_absent, fails_present}
use Rattle.token_grammar.proofs.Heads.{stops_unless}
use Rattle.token_grammar.proofs.Exits.{exit_reads}
use Rattle.token_grammar.specs.TokenTests.{is_word_of}
use Rattle.gdmo_members.proofs.FirstTokens.{labels, labels_lead}
use Rattle.gdmo_members.specs.Clauses.{registration}
use Rattle.gdmo_members.proofs.registration.read_optional_registration.Goals as goal

pub returns-in_err-identifier : goal.returns-in_err-identifier
returns-in_err-identifier c =
    exit_reads _ c.from_residual.result c.from_residual.ensures.1
    (fails_present (record { passed = sym c.is_word_at.ensures ∙ c.if-not-is_word_at.false })
    (fails_wider (is_word_of (codes "REGISTERED")) c.in_err-identifier.ensures))

pub returns : goal.returns
returns c = spelt_present (record { passed = sym c.is_word_at.ensures ∙ c.if-not-is_word_at.false })
    (spelt_wider (is_word_of (codes "REGISTERED")) c.in_ok-identifier.ensures)

pub returns-then-not-is_word_at : goal.returns-then-not-is_word_at
returns-then-not-is_word_at c =
    spelt_absent (stops_unless labels labels_lead (is_word_of (codes "REGISTERED")) registration c.args.at c.args.at
    (omega arith) refl (λ t e. e) (sym c.is_word_at.ensures ∙ c.if-not-is_word_at.true))
