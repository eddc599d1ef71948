use Rattle.std.proofs.Common.{◌/◌, ◌%◌, ap, arith, get_or}
use Rattle.time_text.proofs.digits.number_of.Goals as goal

pub returns-clause-value : goal.returns-clause-value
returns-clause-value c = λ number small is.
    let tens = c.value_of.ensures.value (number / 10 % 10) (omega arith) (ap (λ xs. get_or xs 0 0) is) in
    let units = c.value_of-2.ensures.value (number % 10) (omega arith) (ap (λ xs. get_or xs 1 0) is) in
    omega (arith, tens, units)
