-- A point comes, or it does not.
use Rattle.std.proofs.Common.{◌∙◌, sym, refl, arith, codes}
use Rattle.token_grammar.proofs.Sequences.{spelt_wider, fails_wider, spelt_present, spelt_absent, fails_present}
use Rattle.token_grammar.proofs.Heads.{stops_unless}
use Rattle.token_grammar.proofs.Exits.{exit_reads}
use Rattle.token_grammar.specs.Form.{Keep}
use Rattle.token_grammar.specs.TokenTests.{is_sign_of}
use Rattle.gdmo_members.proofs.FirstTokens.{labels, labels_lead}
use Rattle.gdmo_members.specs.Templates.{templates}
use Rattle.gdmo_members.proofs.context.read_point.Goals as goal

pub returns-in_err-point : goal.returns-in_err-point
returns-in_err-point c =
    exit_reads _ c.from_residual.result c.from_residual.ensures.1
    (fails_present (record { passed = sym c.is_sign_at.ensures ∙ c.if-not-is_sign_at.false })
    (fails_wider (is_sign_of (codes ".")) (c.in_err-point.ensures templates)))

pub returns : goal.returns
returns c = spelt_present (record { passed = sym c.is_sign_at.ensures ∙ c.if-not-is_sign_at.false })
    (spelt_wider (is_sign_of (codes ".")) (c.in_ok-point.ensures templates))

pub returns-then-not-is_sign_at : goal.returns-then-not-is_sign_at
returns-then-not-is_sign_at c =
    spelt_absent (stops_unless labels labels_lead (is_sign_of (codes ".")) (Keep (is_sign_of (codes "."))) c.args.at
    c.args.at (omega arith) refl (λ t e. e) (sym c.is_sign_at.ensures ∙ c.if-not-is_sign_at.true))
