-- The parts, one after the other.
use Rattle.asn1_syntax.proofs.Apart.{brace_plain, defined_plain, point_plain, simple_quiet}
use Rattle.asn1_values_syntax.proofs.FirstTokens.{quiet_unless, quiet_word}
use Rattle.asn1_values_syntax.proofs.Quiet.{fail_first, fail_second, take_first, take_second}
use Rattle.asn1_values_syntax.specs.TypeEnds.{is_plain_end}
use Rattle.asn1_values_syntax.specs.TypeForms.{any_type, bit_string_type, enumerated_type, integer_type, is_simple_type}
use Rattle.asn1_values_syntax.specs.TypeForms.{object_identifier_type, octet_string_type, type_name}
use Rattle.std.proofs.Common.{codes, refl, sym, ◌∙◌}
use Rattle.token_grammar.proofs.Exits.{exit_reads}
use Rattle.token_grammar.proofs.Parts.{one_word}
use Rattle.token_grammar.proofs.Sequences.{fails_on, fails_wider, spelt_on, spelt_wider}
use Rattle.token_grammar.specs.Form.{Keep, Or}
use Rattle.token_grammar.specs.TokenTests.{is_word_of}
use Rattle.asn1_syntax.proofs.plain_type.read_plain_type.Goals as goal

pub returns-in_err-word : goal.returns-in_err-word
returns-in_err-word c = exit_reads _ c.from_residual.result c.from_residual.ensures.1
    (fail_first (fails_wider is_plain_end c.in_err-word.ensures) (simple_quiet
    (sym c.is_simple_type_at.ensures ∙ c.if-is_simple_type_at.true)))

pub returns-then-is_simple_type_at : goal.returns-then-is_simple_type_at
returns-then-is_simple_type_at c = (take_first (spelt_wider is_plain_end c.in_ok-word.ensures)
    (simple_quiet (sym c.is_simple_type_at.ensures ∙ c.if-is_simple_type_at.true)))

pub returns-in_err-integer : goal.returns-in_err-integer
returns-in_err-integer c = exit_reads _ c.from_residual-in_err-integer.result c.from_residual-in_err-integer.ensures.1
    (fail_second (quiet_word (codes "INTEGER") (Keep is_simple_type) (sym c.is_word_at.ensures ∙ c.if-is_word_at.true)
    (λ at. refl)) (fail_first (fails_on brace_plain c.in_err-integer.ensures)
    (quiet_word (codes "INTEGER") (Or enumerated_type (Or bit_string_type
    (Or octet_string_type (Or object_identifier_type (Or any_type type_name)))))
    (sym c.is_word_at.ensures ∙ c.if-is_word_at.true) (λ at. refl))))

pub returns-then-is_word_at : goal.returns-then-is_word_at
returns-then-is_word_at c = (take_second (quiet_word (codes "INTEGER") (Keep is_simple_type)
    (sym c.is_word_at.ensures ∙ c.if-is_word_at.true) (λ at. refl))
    (take_first (spelt_on brace_plain c.in_ok-integer.ensures) (quiet_word (codes "INTEGER")
    (Or enumerated_type (Or bit_string_type (Or octet_string_type
    (Or object_identifier_type (Or any_type type_name))))) (sym c.is_word_at.ensures ∙ c.if-is_word_at.true)
    (λ at. refl))))

pub returns-in_err-enumerated : goal.returns-in_err-enumerated
returns-in_err-enumerated c = exit_reads _ c.from_residual-in_err-enumerated.result
    c.from_residual-in_err-enumerated.ensures.1 (fail_second (quiet_word (codes "ENUMERATED") (Keep is_simple_type)
    (sym c.is_word_at-2.ensures ∙ c.if-is_word_at-2.true) (λ at. refl))
    (fail_second (quiet_word (codes "ENUMERATED") integer_type (sym c.is_word_at-2.ensures ∙ c.if-is_word_at-2.true)
    (λ at. refl)) (fail_first (fails_wider is_plain_end c.in_err-enumerated.ensures)
    (quiet_word (codes "ENUMERATED") (Or bit_string_type (Or octet_string_type
    (Or object_identifier_type (Or any_type type_name)))) (sym c.is_word_at-2.ensures ∙ c.if-is_word_at-2.true)
    (λ at. refl)))))

pub returns-then-is_word_at-2 : goal.returns-then-is_word_at-2
returns-then-is_word_at-2 c = (take_second (quiet_word (codes "ENUMERATED") (Keep is_simple_type)
    (sym c.is_word_at-2.ensures ∙ c.if-is_word_at-2.true) (λ at. refl))
    (take_second (quiet_word (codes "ENUMERATED") integer_type (sym c.is_word_at-2.ensures ∙ c.if-is_word_at-2.true)
    (λ at. refl)) (take_first (spelt_wider is_plain_end c.in_ok-enumerated.ensures)
    (quiet_word (codes "ENUMERATED") (Or bit_string_type (Or octet_string_type
    (Or object_identifier_type (Or any_type type_name)))) (sym c.is_word_at-2.ensures ∙ c.if-is_word_at-2.true)
    (λ at. refl)))))

pub returns-in_err-bits : goal.returns-in_err-bits
returns-in_err-bits c = exit_reads _ c.from_residual-in_err-bits.result c.from_residual-in_err-bits.ensures.1
    (fail_second (quiet_word (codes "BIT") (Keep is_simple_type) (sym c.is_word_at-3.ensures ∙ c.if-is_word_at-3.true)
    (λ at. refl)) (fail_second (quiet_word (codes "BIT") integer_type
    (sym c.is_word_at-3.ensures ∙ c.if-is_word_at-3.true) (λ at. refl))
    (fail_second (quiet_word (codes "BIT") enumerated_type (sym c.is_word_at-3.ensures ∙ c.if-is_word_at-3.true)
    (λ at. refl)) (fail_first (fails_on brace_plain c.in_err-bits.ensures)
    (quiet_word (codes "BIT") (Or octet_string_type (Or object_identifier_type (Or any_type type_name)))
    (sym c.is_word_at-3.ensures ∙ c.if-is_word_at-3.true) (λ at. refl))))))

pub returns-then-is_word_at-3 : goal.returns-then-is_word_at-3
returns-then-is_word_at-3 c = (take_second (quiet_word (codes "BIT") (Keep is_simple_type)
    (sym c.is_word_at-3.ensures ∙ c.if-is_word_at-3.true) (λ at. refl))
    (take_second (quiet_word (codes "BIT") integer_type (sym c.is_word_at-3.ensures ∙ c.if-is_word_at-3.true)
    (λ at. refl)) (take_second (quiet_word (codes "BIT") enumerated_type
    (sym c.is_word_at-3.ensures ∙ c.if-is_word_at-3.true) (λ at. refl))
    (take_first (spelt_on brace_plain c.in_ok-bits.ensures) (quiet_word (codes "BIT")
    (Or octet_string_type (Or object_identifier_type (Or any_type type_name)))
    (sym c.is_word_at-3.ensures ∙ c.if-is_word_at-3.true) (λ at. refl))))))

pub returns-in_err-octets : goal.returns-in_err-octets
returns-in_err-octets c = exit_reads _ c.from_residual-in_err-octets.result c.from_residual-in_err-octets.ensures.1
    (fail_second (quiet_word (codes "OCTET") (Keep is_simple_type)
    (sym c.is_word_at-4.ensures ∙ c.if-is_word_at-4.true) (λ at. refl))
    (fail_second (quiet_word (codes "OCTET") integer_type (sym c.is_word_at-4.ensures ∙ c.if-is_word_at-4.true)
    (λ at. refl)) (fail_second (quiet_word (codes "OCTET") enumerated_type
    (sym c.is_word_at-4.ensures ∙ c.if-is_word_at-4.true) (λ at. refl))
    (fail_second (quiet_word (codes "OCTET") bit_string_type (sym c.is_word_at-4.ensures ∙ c.if-is_word_at-4.true)
    (λ at. refl)) (fail_first (fails_wider is_plain_end c.in_err-octets.ensures)
    (quiet_word (codes "OCTET") (Or object_identifier_type (Or any_type type_name))
    (sym c.is_word_at-4.ensures ∙ c.if-is_word_at-4.true) (λ at. refl)))))))

pub returns-then-is_word_at-4 : goal.returns-then-is_word_at-4
returns-then-is_word_at-4 c = (take_second (quiet_word (codes "OCTET") (Keep is_simple_type)
    (sym c.is_word_at-4.ensures ∙ c.if-is_word_at-4.true) (λ at. refl))
    (take_second (quiet_word (codes "OCTET") integer_type (sym c.is_word_at-4.ensures ∙ c.if-is_word_at-4.true)
    (λ at. refl)) (take_second (quiet_word (codes "OCTET") enumerated_type
    (sym c.is_word_at-4.ensures ∙ c.if-is_word_at-4.true) (λ at. refl))
    (take_second (quiet_word (codes "OCTET") bit_string_type (sym c.is_word_at-4.ensures ∙ c.if-is_word_at-4.true)
    (λ at. refl)) (take_first (spelt_wider is_plain_end c.in_ok-octets.ensures)
    (quiet_word (codes "OCTET") (Or object_identifier_type (Or any_type type_name))
    (sym c.is_word_at-4.ensures ∙ c.if-is_word_at-4.true) (λ at. refl)))))))

pub returns-in_err-identifier : goal.returns-in_err-identifier
returns-in_err-identifier c = exit_reads _ c.from_residual-in_err-identifier.result
    c.from_residual-in_err-identifier.ensures.1 (fail_second (quiet_word (codes "OBJECT") (Keep is_simple_type)
    (sym c.is_word_at-5.ensures ∙ c.if-is_word_at-5.true) (λ at. refl))
    (fail_second (quiet_word (codes "OBJECT") integer_type (sym c.is_word_at-5.ensures ∙ c.if-is_word_at-5.true)
    (λ at. refl)) (fail_second (quiet_word (codes "OBJECT") enumerated_type
    (sym c.is_word_at-5.ensures ∙ c.if-is_word_at-5.true) (λ at. refl))
    (fail_second (quiet_word (codes "OBJECT") bit_string_type (sym c.is_word_at-5.ensures ∙ c.if-is_word_at-5.true)
    (λ at. refl)) (fail_second (quiet_word (codes "OBJECT") octet_string_type
    (sym c.is_word_at-5.ensures ∙ c.if-is_word_at-5.true) (λ at. refl))
    (fail_first (fails_wider is_plain_end c.in_err-identifier.ensures)
    (quiet_word (codes "OBJECT") (Or any_type type_name) (sym c.is_word_at-5.ensures ∙ c.if-is_word_at-5.true)
    (λ at. refl))))))))

pub returns-then-is_word_at-5 : goal.returns-then-is_word_at-5
returns-then-is_word_at-5 c = (take_second (quiet_word (codes "OBJECT") (Keep is_simple_type)
    (sym c.is_word_at-5.ensures ∙ c.if-is_word_at-5.true) (λ at. refl))
    (take_second (quiet_word (codes "OBJECT") integer_type (sym c.is_word_at-5.ensures ∙ c.if-is_word_at-5.true)
    (λ at. refl)) (take_second (quiet_word (codes "OBJECT") enumerated_type
    (sym c.is_word_at-5.ensures ∙ c.if-is_word_at-5.true) (λ at. refl))
    (take_second (quiet_word (codes "OBJECT") bit_string_type (sym c.is_word_at-5.ensures ∙ c.if-is_word_at-5.true)
    (λ at. refl)) (take_second (quiet_word (codes "OBJECT") octet_string_type
    (sym c.is_word_at-5.ensures ∙ c.if-is_word_at-5.true) (λ at. refl))
    (take_first (spelt_wider is_plain_end c.in_ok-identifier.ensures)
    (quiet_word (codes "OBJECT") (Or any_type type_name) (sym c.is_word_at-5.ensures ∙ c.if-is_word_at-5.true)
    (λ at. refl))))))))

pub returns-in_err-any : goal.returns-in_err-any
returns-in_err-any c = exit_reads _ c.from_residual-in_err-any.result c.from_residual-in_err-any.ensures.1
    (fail_second (quiet_word (codes "ANY") (Keep is_simple_type) (sym c.is_word_at-6.ensures ∙ c.if-is_word_at-6.true)
    (λ at. refl)) (fail_second (quiet_word (codes "ANY") integer_type
    (sym c.is_word_at-6.ensures ∙ c.if-is_word_at-6.true) (λ at. refl))
    (fail_second (quiet_word (codes "ANY") enumerated_type (sym c.is_word_at-6.ensures ∙ c.if-is_word_at-6.true)
    (λ at. refl)) (fail_second (quiet_word (codes "ANY") bit_string_type
    (sym c.is_word_at-6.ensures ∙ c.if-is_word_at-6.true) (λ at. refl))
    (fail_second (quiet_word (codes "ANY") octet_string_type (sym c.is_word_at-6.ensures ∙ c.if-is_word_at-6.true)
    (λ at. refl)) (fail_second (quiet_word (codes "ANY") object_identifier_type
    (sym c.is_word_at-6.ensures ∙ c.if-is_word_at-6.true) (λ at. refl))
    (fail_first (fails_on defined_plain c.in_err-any.ensures) (quiet_word (codes "ANY") type_name
    (sym c.is_word_at-6.ensures ∙ c.if-is_word_at-6.true) (λ at. refl)))))))))

pub returns-then-is_word_at-6 : goal.returns-then-is_word_at-6
returns-then-is_word_at-6 c = (take_second (quiet_word (codes "ANY") (Keep is_simple_type)
    (sym c.is_word_at-6.ensures ∙ c.if-is_word_at-6.true) (λ at. refl))
    (take_second (quiet_word (codes "ANY") integer_type (sym c.is_word_at-6.ensures ∙ c.if-is_word_at-6.true)
    (λ at. refl)) (take_second (quiet_word (codes "ANY") enumerated_type
    (sym c.is_word_at-6.ensures ∙ c.if-is_word_at-6.true) (λ at. refl))
    (take_second (quiet_word (codes "ANY") bit_string_type (sym c.is_word_at-6.ensures ∙ c.if-is_word_at-6.true)
    (λ at. refl)) (take_second (quiet_word (codes "ANY") octet_string_type
    (sym c.is_word_at-6.ensures ∙ c.if-is_word_at-6.true) (λ at. refl))
    (take_second (quiet_word (codes "ANY") object_identifier_type
    (sym c.is_word_at-6.ensures ∙ c.if-is_word_at-6.true) (λ at. refl))
    (take_first (spelt_on defined_plain c.in_ok-any.ensures) (quiet_word (codes "ANY") type_name
    (sym c.is_word_at-6.ensures ∙ c.if-is_word_at-6.true) (λ at. refl)))))))))

pub returns-in_err-name : goal.returns-in_err-name
returns-in_err-name c = exit_reads _ c.from_residual-in_err-name.result c.from_residual-in_err-name.ensures.1
    (fail_second (quiet_unless is_simple_type (Keep is_simple_type) refl (λ t e. e)
    (sym c.is_simple_type_at.ensures ∙ c.if-is_simple_type_at.false))
    (fail_second (quiet_unless (is_word_of (codes "INTEGER")) integer_type refl
    (λ t e. one_word (is_word_of (codes "INTEGER") t) e) (sym c.is_word_at.ensures ∙ c.if-is_word_at.false))
    (fail_second (quiet_unless (is_word_of (codes "ENUMERATED")) enumerated_type refl
    (λ t e. one_word (is_word_of (codes "ENUMERATED") t) e) (sym c.is_word_at-2.ensures ∙ c.if-is_word_at-2.false))
    (fail_second (quiet_unless (is_word_of (codes "BIT")) bit_string_type refl
    (λ t e. one_word (is_word_of (codes "BIT") t) e) (sym c.is_word_at-3.ensures ∙ c.if-is_word_at-3.false))
    (fail_second (quiet_unless (is_word_of (codes "OCTET")) octet_string_type refl
    (λ t e. one_word (is_word_of (codes "OCTET") t) e) (sym c.is_word_at-4.ensures ∙ c.if-is_word_at-4.false))
    (fail_second (quiet_unless (is_word_of (codes "OBJECT")) object_identifier_type refl
    (λ t e. one_word (is_word_of (codes "OBJECT") t) e) (sym c.is_word_at-5.ensures ∙ c.if-is_word_at-5.false))
    (fail_second (quiet_unless (is_word_of (codes "ANY")) any_type refl
    (λ t e. one_word (is_word_of (codes "ANY") t) e) (sym c.is_word_at-6.ensures ∙ c.if-is_word_at-6.false))
    (fails_on point_plain c.in_err-name.ensures))))))))

pub returns : goal.returns
returns c = (take_second (quiet_unless is_simple_type (Keep is_simple_type) refl (λ t e. e)
    (sym c.is_simple_type_at.ensures ∙ c.if-is_simple_type_at.false))
    (take_second (quiet_unless (is_word_of (codes "INTEGER")) integer_type refl
    (λ t e. one_word (is_word_of (codes "INTEGER") t) e) (sym c.is_word_at.ensures ∙ c.if-is_word_at.false))
    (take_second (quiet_unless (is_word_of (codes "ENUMERATED")) enumerated_type refl
    (λ t e. one_word (is_word_of (codes "ENUMERATED") t) e) (sym c.is_word_at-2.ensures ∙ c.if-is_word_at-2.false))
    (take_second (quiet_unless (is_word_of (codes "BIT")) bit_string_type refl
    (λ t e. one_word (is_word_of (codes "BIT") t) e) (sym c.is_word_at-3.ensures ∙ c.if-is_word_at-3.false))
    (take_second (quiet_unless (is_word_of (codes "OCTET")) octet_string_type refl
    (λ t e. one_word (is_word_of (codes "OCTET") t) e) (sym c.is_word_at-4.ensures ∙ c.if-is_word_at-4.false))
    (take_second (quiet_unless (is_word_of (codes "OBJECT")) object_identifier_type refl
    (λ t e. one_word (is_word_of (codes "OBJECT") t) e) (sym c.is_word_at-5.ensures ∙ c.if-is_word_at-5.false))
    (take_second (quiet_unless (is_word_of (codes "ANY")) any_type refl
    (λ t e. one_word (is_word_of (codes "ANY") t) e) (sym c.is_word_at-6.ensures ∙ c.if-is_word_at-6.false))
    (spelt_on point_plain c.in_ok-name.ensures))))))))
