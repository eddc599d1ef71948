-- Digits.
use Rattle.std.proofs.Common.{ap, sym}
use Rattle.std.proofs.Math.Path.{subst}
use Rattle.asn1_names.specs.ModuleTerms.NumberTerm.{Digits}
use Rattle.asn1_names.specs.NumbersFound.{FindsNumber, text_term}
use Rattle.asn1_names.specs.TermViews.{module_terms}
use Rattle.asn1_numbers.proofs.FoundLaws.{digits_found}
use Rattle.asn1_numbers.proofs.ValueLaws.{digits_told}
use Rattle.asn1_numbers.proofs.number_tables.Numbers.number.Goals as goal

pub returns-in-Digits : goal.returns-in-Digits
returns-in-Digits c =
    let ms = module_terms c.args.self.now in
    let home = c.args.home in
    let minus = c.in-Digits.minus in
    let token = c.in-Digits.token.now in
    let told = c.digits_number.result in
    subst (λ t. FindsNumber ms home t c.number_answer.result) (sym (ap text_term c.in-Digits.is))
    (subst (λ r. FindsNumber ms home (Digits minus token) r) (sym c.number_answer.ensures)
    (digits_found ms home minus token told (digits_told ms home minus token told c.digits_number.ensures)))
