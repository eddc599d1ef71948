-- Nothing is kept of a type of CMIP-1.
use Rattle.type_numbers.proofs.AskedLaws.{numbers_stay}
use Rattle.type_numbers.proofs.numbered_types.TypeNumbers.standard_number.Goals as goal

pub returns-clause-stays : goal.returns-clause-stays
returns-clause-stays c = λ ms are.
    numbers_stay ms c.args.self.now c.new_number.new.self are c.new_number.ensures.grows c.new_number.ensures.once
    c.new_number.ensures.others
