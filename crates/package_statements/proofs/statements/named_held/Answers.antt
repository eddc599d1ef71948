-- What is held of the number that the name means, or that it has no value.
use Rattle.std.proofs.Math.Path.{subst}
use Rattle.package_statements.specs.NamedValues.{TellsValueNumber}
use Rattle.package_statements.proofs.statements.named_held.Goals as goal

pub returns-in-Some : goal.returns-in-Some
returns-in-Some c = λ ms linked known values.
    c.held_at.ensures ms linked c.args.name.now values
    (subst (λ o. TellsValueNumber ms linked c.args.name.now o) c.in-Some.is (c.value_number.ensures ms linked known))

pub returns-in-None : goal.returns-in-None
returns-in-None c = λ ms linked known values.
    subst (λ o. TellsValueNumber ms linked c.args.name.now o) c.in-None.is (c.value_number.ensures ms linked known)
