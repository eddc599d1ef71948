-- Digits.
use Rattle.std.proofs.Common.{ap, sym}
use Rattle.std.proofs.Math.Path.{subst}
use Rattle.asn1_names.specs.NumbersFound.{FindsBound, FindsNumber, text_term}
use Rattle.asn1_names.specs.TermViews.{module_terms}
use Rattle.asn1_numbers.proofs.FoundLaws.{bound_of_digits}
use Rattle.asn1_numbers.proofs.number_tables.Numbers.bound.Goals as goal

pub returns-in-Digits : goal.returns-in-Digits
returns-in-Digits c = λ of told.
    let ms = module_terms c.args.self.now in
    let home = c.args.home in
    let said = c.number.result in
    subst (λ t. FindsBound ms home of t said) (sym (ap text_term c.in-Digits.is))
    (bound_of_digits ms home of c.in-Digits.field-0 c.in-Digits.field-1.now said
    (subst (λ t. FindsNumber ms home t said) (ap text_term c.in-Digits.is) c.number.ensures))
