-- The number of the type's syntax beside its text.
use Rattle.asn1_names.specs.TermViews.{module_terms}
use Rattle.type_numbers.specs.PlacedTerms.{placed_terms}
use Rattle.type_numbers.proofs.AskedLaws.{asked_number}
use Rattle.type_numbers.proofs.numbered_types.TypeNumbers.new_number.Goals as goal

pub returns-in_ok-number-in-Some-clause-is : goal.returns-in_ok-number-in-Some-clause-is
returns-in_ok-number-in-Some-clause-is c = λ ms meant are means text.
    let self = c.args.self.now in
    asked_number ms (module_terms self.types.now) (module_terms self.texts.now) c.args.meaning meant
    (placed_terms c.args.text) c.in_ok-syntax.field-0 c.in-Some.syntax c.number_of.new.self.lists
    c.in_ok-number-in-Some.number are.of_types are.of_texts c.in_ok-syntax.ensures c.in-Some.is
    c.in_ok-number-in-Some.ensures.is means text
