-- A number tells the key, and the key the type.
use Rattle.type_numbers.proofs.OneMeaningLaws.{told_types}
use Rattle.type_numbers.proofs.laws.numbers_tell_types.Goals as goal

pub returns : goal.returns
returns c = told_types
