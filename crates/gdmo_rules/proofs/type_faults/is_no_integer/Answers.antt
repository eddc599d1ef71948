-- The type has a number.
use Rattle.std.proofs.Math.Path.{subst}
use Rattle.gdmo_types.specs.ComparedTypes.{TellsAttribute}
use Rattle.gdmo_rules.proofs.TypeFaultLaws.{number_integer}
use Rattle.gdmo_rules.proofs.type_faults.is_no_integer.Goals as goal

pub returns-in-Number : goal.returns-in-Number
returns-in-Number c = λ parts x kind told.
    let lists = c.args.numbers.now.lists in
    number_integer parts lists x c.in-Number.number c.is_integer.result
    (subst (TellsAttribute parts lists x) c.in-Number.is told) c.is_integer.ensures
