-- The parts, one after the other.
use Rattle.asn1_syntax.proofs.TypeApart.{parenthesis_type, plain_meets}
use Rattle.asn1_values_syntax.proofs.FirstTokens.{quiet_unless}
use Rattle.asn1_values_syntax.proofs.Quiet.{fail_second, take_second}
use Rattle.asn1_values_syntax.specs.TypeForms.{choice_type, is_structure, structured_type, tagged_type}
use Rattle.asn1_values_syntax.specs.ValueForms.{types}
use Rattle.std.proofs.Common.{codes, refl}
use Rattle.token_grammar.proofs.Exits.{exit_reads}
use Rattle.token_grammar.proofs.OpenParts.{fails_front_on, fails_rest_on, spelt_then_on}
use Rattle.token_grammar.proofs.Parts.{one_word}
use Rattle.token_grammar.proofs.Sequences.{fails_named, fails_on, spelt_named, spelt_on}
use Rattle.token_grammar.specs.TokenTests.{is_sign_of, is_word_of}
use Rattle.asn1_syntax.proofs.type_text.read_constrained_type.Goals as goal

pub returns-in_err-of : goal.returns-in_err-of
returns-in_err-of c = λ tagged structured chosen. exit_reads _ c.from_residual.result c.from_residual.ensures.1
    (fails_named types (fail_second (quiet_unless (is_sign_of (codes "[")) tagged_type refl (λ t e. e) tagged)
    (fail_second (quiet_unless is_structure structured_type refl (λ t e. e) structured)
    (fail_second (quiet_unless (is_word_of (codes "CHOICE")) choice_type refl
    (λ t e. one_word (is_word_of (codes "CHOICE") t) e) chosen) (fails_front_on plain_meets c.in_err-of.ensures)))))

pub returns-in_err-constraints : goal.returns-in_err-constraints
returns-in_err-constraints c = λ tagged structured chosen. exit_reads _ c.from_residual-in_err-constraints.result
    c.from_residual-in_err-constraints.ensures.1 (fails_named types
    (fail_second (quiet_unless (is_sign_of (codes "[")) tagged_type refl (λ t e. e) tagged)
    (fail_second (quiet_unless is_structure structured_type refl (λ t e. e) structured)
    (fail_second (quiet_unless (is_word_of (codes "CHOICE")) choice_type refl
    (λ t e. one_word (is_word_of (codes "CHOICE") t) e) chosen) (fails_rest_on c.in_ok-of.ensures plain_meets
    (fails_on parenthesis_type c.in_err-constraints.ensures))))))

pub returns : goal.returns
returns c = λ tagged structured chosen. spelt_named types (take_second
    (quiet_unless (is_sign_of (codes "[")) tagged_type refl (λ t e. e) tagged)
    (take_second (quiet_unless is_structure structured_type refl (λ t e. e) structured)
    (take_second (quiet_unless (is_word_of (codes "CHOICE")) choice_type refl
    (λ t e. one_word (is_word_of (codes "CHOICE") t) e) chosen) (spelt_then_on c.in_ok-of.ensures plain_meets
    (spelt_on parenthesis_type c.in_ok-constraints.ensures)))))
