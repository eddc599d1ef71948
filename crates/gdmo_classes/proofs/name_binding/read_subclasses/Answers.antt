-- The words come, or they do not.
use Rattle.std.proofs.Common.{◌∙◌, sym, refl, true, arith, codes}
use Rattle.token_grammar.proofs.Sequences.{apart_closed, spelt_then, spelt_present, spelt_absent, spelt_wider}
use Rattle.token_grammar.proofs.Sequences.{fails_front, fails_rest, fails_present, fails_wider}
use Rattle.token_grammar.proofs.Heads.{stops_unless}
use Rattle.token_grammar.proofs.Known.{at_word}
use Rattle.token_grammar.proofs.Exits.{exit_reads}
use Rattle.token_grammar.specs.TokenTests.{is_word_of}
use Rattle.gdmo_members.proofs.FirstTokens.{labels, labels_lead}
use Rattle.gdmo_members.specs.Templates.{templates}
use Rattle.gdmo_classes.specs.ClassForms.{is_part_end, subclasses}
use Rattle.token_grammar.proofs.Heads.{at_wider}
use Rattle.gdmo_classes.proofs.name_binding.read_subclasses.Goals as goal

pub returns-in_err-next : goal.returns-in_err-next
returns-in_err-next c = exit_reads _ c.from_residual.result c.from_residual.ensures.1
    (fails_present (at_wider is_part_end (at_word (codes "AND") true is_part_end (λ at. refl))
    (record { passed = sym c.is_word_at.ensures ∙ c.if-not-is_word_at.false }))
    (fails_wider is_part_end (fails_front apart_closed (c.in_err-next.ensures templates))))

pub returns-in_err-word : goal.returns-in_err-word
returns-in_err-word c = exit_reads _ c.from_residual-in_err-word.result c.from_residual-in_err-word.ensures.1
    (fails_present (at_wider is_part_end (at_word (codes "AND") true is_part_end (λ at. refl))
    (record { passed = sym c.is_word_at.ensures ∙ c.if-not-is_word_at.false }))
    (fails_wider is_part_end
    (fails_rest (c.in_ok-next.ensures templates) apart_closed (c.in_err-word.ensures templates))))

pub returns : goal.returns
returns c = spelt_present
    (at_wider is_part_end (at_word (codes "AND") true is_part_end (λ at. refl))
    (record { passed = sym c.is_word_at.ensures ∙ c.if-not-is_word_at.false }))
    (spelt_wider is_part_end
    (spelt_then (c.in_ok-next.ensures templates) apart_closed (c.in_ok-word.ensures templates)))

pub returns-then-not-is_word_at : goal.returns-then-not-is_word_at
returns-then-not-is_word_at c =
    spelt_absent (stops_unless labels labels_lead (is_word_of (codes "AND")) subclasses c.args.at c.args.at
    (omega arith) refl (λ t e. e) (sym c.is_word_at.ensures ∙ c.if-not-is_word_at.true))
