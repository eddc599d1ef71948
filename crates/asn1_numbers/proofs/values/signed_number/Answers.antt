-- Digits with a minus or without.
use Rattle.std.proofs.Math.Path.{subst}
use Rattle.asn1_names.specs.ModuleTerms.NumberTerm.{Digits}
use Rattle.asn1_numbers.specs.NumberedValues.{TellsSaid}
use Rattle.asn1_numbers.proofs.ValueLaws.{digits_told}
use Rattle.asn1_numbers.proofs.values.signed_number.Goals as goal

pub returns : goal.returns
returns c = λ ms m. subst (λ b. TellsSaid ms m (Digits b c.args.digits.now.number) c.digits_number.result)
    c.is_some.ensures
    (digits_told ms m c.is_some.result c.args.digits.now.number c.digits_number.result c.digits_number.ensures)
