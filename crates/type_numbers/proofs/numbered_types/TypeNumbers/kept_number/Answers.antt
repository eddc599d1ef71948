-- The number is kept, where its assignment has a place.
use Rattle.std.proofs.Common.{refl}
use Rattle.asn1_names.specs.TermViews.{module_terms}
use Rattle.type_numbers.proofs.AskedLaws.{numbers_known, numbers_stay, text_told}
use Rattle.type_numbers.proofs.numbered_types.TypeNumbers.kept_number.Goals as goal

pub returns-in_err-number-clause-stays : goal.returns-in_err-number-clause-stays
returns-in_err-number-clause-stays c = λ ms are.
    numbers_stay ms c.args.self.now c.new_number.new.self are c.new_number.ensures.grows c.new_number.ensures.once
    c.new_number.ensures.others

pub returns-in-Some-clause-stays : goal.returns-in-Some-clause-stays
returns-in-Some-clause-stays c = λ ms are.
    let self = c.args.self.now in
    let between = c.new_number.new.self in
    let stay = numbers_stay ms self between are c.new_number.ensures.grows c.new_number.ensures.once
    c.new_number.ensures.others in
    numbers_known ms self between _ c.args.assignment c.in_ok-number.number are stay refl refl refl refl
    (λ meant is. c.in_ok-number.ensures.is ms meant are is (text_told ms (module_terms self.texts.now)
    c.args.assignment meant c.type_at-text.result are.of_texts c.type_at-text.ensures is))

pub returns-in_default-clause-stays : goal.returns-in_default-clause-stays
returns-in_default-clause-stays c = λ ms are.
    numbers_stay ms c.args.self.now c.new_number.new.self are c.new_number.ensures.grows c.new_number.ensures.once
    c.new_number.ensures.others
