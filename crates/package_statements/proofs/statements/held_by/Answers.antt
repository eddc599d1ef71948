-- What is held of the name, or nothing.
use Rattle.std.proofs.Common.{sym}
use Rattle.std.proofs.Math.Path.{subst}
use Rattle.package_statements.specs.PackageStatements.{TellsHeld}
use Rattle.package_statements.proofs.statements.held_by.Goals as goal

pub returns-in-Some : goal.returns-in-Some
returns-in-Some c = λ ms linked known values.
    subst (λ name. TellsHeld ms linked c.args.values.now name c.named_held.result) (sym c.in-Some.is)
    (c.named_held.ensures ms linked known values)
