-- The first number alone, or what is told of the element.
use Rattle.std.proofs.Common.{[], sym, refl, subst, Some}
use Rattle.key_numbers.specs.NumberedLists.IsList.{empty}
use Rattle.identifier_arcs.specs.Chains.{TellsBegin}
use Rattle.identifier_arcs.proofs.chains.begin_list.Goals as goal

pub returns-in_ok-extended-in-Number-clause-is : goal.returns-in_ok-extended-in-Number-clause-is
returns-in_ok-extended-in-Number-clause-is c =
    let told = c.in_ok-extended-in-Number in
    subst (λ b. TellsBegin c.extended.new.self b c.args.told.now (Some told.field-0)) (sym c.in-Number.is)
    (told.field-0, refl, told.ensures.is [] empty)
