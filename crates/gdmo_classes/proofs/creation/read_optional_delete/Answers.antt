-- A delete modifier comes, or none.
use Rattle.std.proofs.Common.{◌∙◌, sym, refl, arith, codes, [], ◌∷◌}
use Rattle.token_grammar.proofs.Sequences.{spelt_present, spelt_absent, spelt_wider, fails_present, fails_wider}
use Rattle.token_grammar.proofs.Heads.{stops_unless}
use Rattle.token_grammar.proofs.Exits.{exit_reads}
use Rattle.token_grammar.specs.TokenTests.{is_one_of}
use Rattle.gdmo_members.proofs.FirstTokens.{labels, labels_lead}
use Rattle.gdmo_members.specs.Templates.{templates, delete_modifier}
use Rattle.gdmo_classes.proofs.Modifiers.{delete_comes}
use Rattle.gdmo_classes.specs.ClassForms.{is_modifier_end}
use Rattle.gdmo_classes.proofs.creation.read_optional_delete.Goals as goal

pub returns-in_err-modifier : goal.returns-in_err-modifier
returns-in_err-modifier c =
    exit_reads _ c.from_residual.result c.from_residual.ensures.1
    (fails_present (delete_comes (record { passed = sym c.is_one_of_at.ensures ∙ c.if-not-is_one_of_at.false }))
    (fails_wider is_modifier_end (c.in_err-modifier.ensures templates)))

pub returns : goal.returns
returns c = spelt_present (delete_comes (record { passed = sym c.is_one_of_at.ensures ∙ c.if-not-is_one_of_at.false }))
    (spelt_wider is_modifier_end (c.in_ok-modifier.ensures templates))

pub returns-then-not-is_one_of_at : goal.returns-then-not-is_one_of_at
returns-then-not-is_one_of_at c =
    spelt_absent (stops_unless labels labels_lead
    (is_one_of (codes "ONLY-IF-NO-CONTAINED-OBJECTS" ∷ codes "DELETES-CONTAINED-OBJECTS" ∷ [])) delete_modifier
    c.args.at c.args.at (omega arith) refl (λ t e. e) (sym c.is_one_of_at.ensures ∙ c.if-not-is_one_of_at.true))
