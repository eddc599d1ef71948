-- The name of a value.
use Rattle.std.proofs.Common.{List, sym, ℕ}
use Rattle.std.proofs.Math.Path.{subst}
use Rattle.asn1_names.specs.CodeMeanings.{IsValueNumber}
use Rattle.asn1_names.specs.ModuleTerms.NumberTerm.{Called}
use Rattle.asn1_names.specs.NameMeaning.{name_meaning}
use Rattle.asn1_names.specs.NumbersFound.{FindsNumber}
use Rattle.asn1_names.specs.TermViews.{module_terms}
use Rattle.asn1_numbers.proofs.FoundLaws.{value_found}
use Rattle.asn1_numbers.proofs.number_tables.Numbers.called_number.Goals as goal

pub returns-in-ValueAt : goal.returns-in-ValueAt
returns-in-ValueAt c =
    let ms = module_terms c.args.self.now in
    let k = c.in-ValueAt.number in
    subst (λ r. FindsNumber ms c.args.home (Called c.args.name.now) r) (sym c.number_answer.ensures)
    (value_found ms k c.args.home c.args.name.now c.value_at.result
    (subst (λ (text : List ℕ). IsValueNumber ms k (name_meaning ms c.args.home text)) c.as_slice.ensures
    (subst (λ v. IsValueNumber (module_terms v) k (name_meaning (module_terms v) c.args.home c.as_slice.result.now))
    c.self.view_is c.in-ValueAt.ensures))
    c.value_at.ensures)
