-- A comma comes, or it does not.
use Rattle.std.proofs.Common.{◌∙◌, sym, refl, arith}
use Rattle.token_grammar.proofs.Sequences.{spelt_present, spelt_absent, spelt_wider, fails_present, fails_wider}
use Rattle.token_grammar.proofs.Heads.{stops_unless}
use Rattle.token_grammar.proofs.Exits.{exit_reads}
use Rattle.token_grammar.specs.Form.{Keep}
use Rattle.gdmo_members.proofs.FirstTokens.{labels, labels_lead}
use Rattle.gdmo_members.specs.Clauses.{comma}
use Rattle.gdmo_members.specs.Templates.{templates}
use Rattle.gdmo_classes.proofs.creation.read_comma.Goals as goal

pub returns-in_err-sign : goal.returns-in_err-sign
returns-in_err-sign c = exit_reads _ c.from_residual.result c.from_residual.ensures.1
    (fails_present (record { passed = sym c.is_sign_at.ensures ∙ c.if-not-is_sign_at.false })
    (fails_wider comma (c.in_err-sign.ensures templates)))

pub returns : goal.returns
returns c = spelt_present (record { passed = sym c.is_sign_at.ensures ∙ c.if-not-is_sign_at.false })
    (spelt_wider comma (c.in_ok-sign.ensures templates))

pub returns-then-not-is_sign_at : goal.returns-then-not-is_sign_at
returns-then-not-is_sign_at c =
    spelt_absent (stops_unless labels labels_lead comma (Keep comma) c.args.at c.args.at (omega arith) refl (λ t e. e)
    (sym c.is_sign_at.ensures ∙ c.if-not-is_sign_at.true))
