-- The number that is told of the name's meaning.
use Rattle.std.proofs.Common.{sym}
use Rattle.std.proofs.Math.Path.{subst}
use Rattle.package_statements.specs.NamedValues.{TellsValueNumber}
use Rattle.package_statements.proofs.ValueLaws.{number_told}
use Rattle.package_statements.proofs.statements.value_number.Goals as goal

pub returns : goal.returns
returns c = λ ms linked known.
    subst (λ o. TellsValueNumber ms linked c.args.name.now o) (sym c.number_of.ensures)
    (number_told ms linked c.args.name.now c.meaning.result (c.meaning.ensures ms linked known))
