-- The number is held where the assignment has a value.
use Rattle.std.proofs.Common.{◌∙◌, ap, sym}
use Rattle.std.specs.Option.{option_copied}
use Rattle.filled_syntaxes.specs.LinkedMeanings.{linked_meaning}
use Rattle.package_statements.proofs.ValueLaws.{held_none, held_one, value_told}
use Rattle.package_statements.proofs.statements.held_at.Goals as goal

pub returns-in-Some : goal.returns-in-Some
returns-in-Some c = λ ms linked name known number.
    let values = c.args.values.now in
    held_one ms linked values name c.args.number c.in-Some.field-0.now
    (sym c.value.ensures ∙ ap option_copied c.in-Some.is)
    (value_told ms linked values c.args.number (linked_meaning ms name.meaning) known number)

pub returns-in-None : goal.returns-in-None
returns-in-None c = λ ms linked name known number.
    let values = c.args.values.now in
    held_none ms linked values name c.args.number (sym c.value.ensures ∙ ap option_copied c.in-None.is)
    (value_told ms linked values c.args.number (linked_meaning ms name.meaning) known number)
