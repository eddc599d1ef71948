-- The value with the number of the name's assignment, or none.
use Rattle.std.proofs.Common.{sym}
use Rattle.std.proofs.Math.Path.{subst}
use Rattle.filled_syntaxes.specs.AssignedValues.{TellsAssigned}
use Rattle.filled_syntaxes.specs.LinkedMeanings.{linked_arcs, linked_meaning}
use Rattle.package_statements.specs.NamedValues.{TellsValueNumber}
use Rattle.package_statements.proofs.ValueLaws.{value_told}
use Rattle.package_statements.proofs.package_faults.named_value.Goals as goal

pub returns-in-Some : goal.returns-in-Some
returns-in-Some c = λ ms known.
    let parts = c.args.parts.now in
    let meant = linked_meaning ms c.args.name.now.meaning in
    let number = subst (λ o. TellsValueNumber ms parts.linked.now c.args.name.now o) c.in-Some.is
    (c.value_number.ensures ms parts.linked.now known.things_are) in
    subst (λ o. TellsAssigned ms (linked_arcs parts.linked.now) meant o) (sym c.value.ensures)
    (value_told ms parts.linked.now parts.values.now c.in-Some.number meant known.values_are number)

pub returns-in-None : goal.returns-in-None
returns-in-None c = λ ms known.
    let parts = c.args.parts.now in
    subst (λ o. TellsValueNumber ms parts.linked.now c.args.name.now o) c.in-None.is
    (c.value_number.ensures ms parts.linked.now known.things_are)
