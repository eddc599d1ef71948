-- A comma or the word comes, or neither.
use Rattle.std.proofs.Common.{◌∙◌, sym, refl, arith}
use Rattle.token_grammar.proofs.Sequences.{spelt_present, spelt_absent, spelt_wider, fails_present, fails_wider}
use Rattle.token_grammar.proofs.Heads.{stops_unless}
use Rattle.token_grammar.proofs.Exits.{exit_reads}
use Rattle.gdmo_members.proofs.FirstTokens.{labels, labels_lead}
use Rattle.gdmo_classes.specs.ClassForms.{is_further, further_modifier}
use Rattle.gdmo_classes.proofs.Modifiers.{further_starts}
use Rattle.gdmo_classes.proofs.creation.read_second_modifier.Goals as goal

pub returns-in_err-modifier : goal.returns-in_err-modifier
returns-in_err-modifier c =
    exit_reads _ c.from_residual.result c.from_residual.ensures.1
    (fails_present (record { passed = sym c.is_further_at.ensures ∙ c.if-not-is_further_at.false })
    (fails_wider (is_further c.args.word.now) c.in_err-modifier.ensures))

pub returns : goal.returns
returns c = spelt_present (record { passed = sym c.is_further_at.ensures ∙ c.if-not-is_further_at.false })
    (spelt_wider (is_further c.args.word.now) c.in_ok-modifier.ensures)

pub returns-then-not-is_further_at : goal.returns-then-not-is_further_at
returns-then-not-is_further_at c =
    spelt_absent (stops_unless labels labels_lead (is_further c.args.word.now) (further_modifier c.args.word.now)
    c.args.at c.args.at (omega arith) refl (further_starts c.args.word.now)
    (sym c.is_further_at.ensures ∙ c.if-not-is_further_at.true))
