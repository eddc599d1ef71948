-- The value of the type at a place that is told of its name.
use Rattle.std.proofs.Common.{◌∙◌}
use Rattle.std.specs.Option.{option_copied}
use Rattle.std.proofs.Math.Path.{subst}
use Rattle.linked_types.specs.PartTypes.{TellsOptionalType}
use Rattle.linked_types.proofs.NamingLaws.{optional_syntax}
use Rattle.section_values.proofs.StepLaws.{typed_noted}
use Rattle.section_values.proofs.texts.type_value.Goals as goal

pub returns-in_ok-value-in-Some-clause-told : goal.returns-in_ok-value-in-Some-clause-told
returns-in_ok-value-in-Some-clause-told c = λ ms named syntax known tells is has.
    let linked = c.args.parts.now.linked.now in
    let table = c.args.parts.now.table.now in
    let exact = optional_syntax ms linked table named c.args.place syntax
    (subst (λ o. TellsOptionalType ms linked table o c.args.place) is tells) in
    c.in_ok-value-in-Some.ensures.told ms syntax known (c.syntax-syntax.ensures ∙ exact.1 has)

pub returns-in_ok-value-in-Some-clause-noted : goal.returns-in_ok-value-in-Some-clause-noted
returns-in_ok-value-in-Some-clause-noted c = λ ms known tells.
    typed_noted ms c.args.parts.now.linked.now c.args.parts.now.table.now c.args.name.now c.in-Some.field-0 c.args.place
    (option_copied c.syntax-syntax.result) c.args.text.now c.args.document c.in-Some.is c.syntax-syntax.ensures tells
    (c.in_ok-value-in-Some.ensures.noted ms known)
