-- The parts, one after the other.
use Rattle.asn1_values_syntax.proofs.FirstTokens.{sign_apart}
use Rattle.asn1_values_syntax.specs.Asn1.{asn1}
use Rattle.std.proofs.Common.{codes, refl}
use Rattle.token_grammar.proofs.Exits.{exit_reads}
use Rattle.token_grammar.proofs.Sequences.{fails_front, fails_rest, spelt_then}
use Rattle.token_grammar.specs.Form.{Keep}
use Rattle.token_grammar.specs.TokenTests.{is_number}
use Rattle.asn1_values_syntax.proofs.numbers.read_signed_number.Goals as goal

pub returns-in_err-minus : goal.returns-in_err-minus
returns-in_err-minus c = exit_reads _ c.from_residual.result c.from_residual.ensures.1
    (fails_front (sign_apart (codes "-") (Keep is_number) refl (λ at. refl)) c.in_err-minus.ensures)

pub returns-in_err-number : goal.returns-in_err-number
returns-in_err-number c = exit_reads _ c.from_residual-in_err-number.result c.from_residual-in_err-number.ensures.1
    (fails_rest c.in_ok-minus.ensures (sign_apart (codes "-") (Keep is_number) refl (λ at. refl))
    (c.in_err-number.ensures asn1))

pub returns : goal.returns
returns c = (spelt_then c.in_ok-minus.ensures (sign_apart (codes "-") (Keep is_number) refl (λ at. refl))
    (c.in_ok-number.ensures asn1))
