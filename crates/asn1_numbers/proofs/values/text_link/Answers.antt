-- Digits, and a name alone.
use Rattle.std.proofs.Common.{◌∙◌, ap, is_some}
use Rattle.std.proofs.Math.Path.{subst}
use Rattle.asn1_names.specs.TermViews.{module_terms, value_number}
use Rattle.asn1_values_syntax.specs.declared.value.ValueText.TheVariants.{Named}
use Rattle.asn1_numbers.specs.NumberedValues.{AssignsStated}
use Rattle.asn1_numbers.proofs.ValueLinkLaws.{digits_link}
use Rattle.asn1_numbers.proofs.values.text_link.Goals as goal

pub returns-in-Number : goal.returns-in-Number
returns-in-Number c = λ m of assigns.
    let ms = module_terms c.args.tables.now in
    let digits = c.in-Number.digits in
    digits_link ms c.args.number m of (is_some digits.minus) digits.number c.signed_number.result
    (subst (λ s. AssignsStated ms c.args.number m of s) (ap value_number c.in-Number.is) assigns)
    (c.signed_number.ensures ms m)

pub returns-in-Name : goal.returns-in-Name
returns-in-Name c = λ m of assigns.
    let ms = module_terms c.args.tables.now in
    c.named_value_link.ensures m of
    (subst (λ s. AssignsStated ms c.args.number m of s)
    (ap value_number c.in-Named.is ∙ ap (λ x. value_number (Named x)) c.in-Name.is) assigns)
