-- A name may have got a number.
use Rattle.std.proofs.Common.{refl}
use Rattle.type_numbers.proofs.AskedLaws.{numbers_stay}
use Rattle.type_numbers.proofs.numbered_types.TypeNumbers.names_number.Goals as goal

pub returns-clause-stays : goal.returns-clause-stays
returns-clause-stays c = λ ms are.
    numbers_stay ms c.args.self.now _ are c.names_number-has.ensures.grows (λ before. c.has_each_once.ensures)
    record { types = refl; texts = refl; known = refl }
