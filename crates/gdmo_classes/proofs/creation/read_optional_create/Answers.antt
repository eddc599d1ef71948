-- A create modifier comes, or none.
use Rattle.std.proofs.Common.{◌∙◌, sym, refl, arith, codes, [], ◌∷◌}
use Rattle.token_grammar.proofs.Sequences.{spelt_present, spelt_absent, fails_present}
use Rattle.token_grammar.proofs.Heads.{stops_unless}
use Rattle.token_grammar.proofs.Exits.{exit_reads}
use Rattle.token_grammar.specs.TokenTests.{is_one_of}
use Rattle.gdmo_members.proofs.FirstTokens.{labels, labels_lead}
use Rattle.gdmo_members.specs.Templates.{create_modifiers}
use Rattle.gdmo_classes.proofs.Modifiers.{create_starts, create_comes}
use Rattle.gdmo_classes.proofs.creation.read_optional_create.Goals as goal

pub returns-in_err-modifiers : goal.returns-in_err-modifiers
returns-in_err-modifiers c =
    exit_reads _ c.from_residual.result c.from_residual.ensures.1
    (fails_present (create_comes (record { passed = sym c.is_one_of_at.ensures ∙ c.if-not-is_one_of_at.false }))
    c.in_err-modifiers.ensures)

pub returns : goal.returns
returns c = spelt_present (create_comes (record { passed = sym c.is_one_of_at.ensures ∙ c.if-not-is_one_of_at.false }))
    c.in_ok-modifiers.ensures

pub returns-then-not-is_one_of_at : goal.returns-then-not-is_one_of_at
returns-then-not-is_one_of_at c =
    spelt_absent (stops_unless labels labels_lead
    (is_one_of (codes "WITH-REFERENCE-OBJECT" ∷ codes "WITH-AUTOMATIC-INSTANCE-NAMING" ∷ [])) create_modifiers c.args.at
    c.args.at (omega arith) refl create_starts (sym c.is_one_of_at.ensures ∙ c.if-not-is_one_of_at.true))
