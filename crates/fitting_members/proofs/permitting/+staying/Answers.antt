-- A member more of a type's members.
use Rattle.std.proofs.Common.{◌≡◌, rules, sym}
use Rattle.term_values.specs.Syntaxes.TypeSyntax.{SequenceOf, SetOf}
use Rattle.fitting_members.proofs.ChangeLaws.{list_stays, set_stays_if}
use Rattle.fitting_members.proofs.permitting.+staying.Goals as goal

pub returns-in-ListOf : goal.returns-in-ListOf
returns-in-ListOf t c =
    let syntax : c.args.syntax.now ≡ SequenceOf c.in-ListOf.member.value c.in-ListOf.field-1 = search rules in
    rw (syntax, sym c.deref-in-ListOf.ensures) (list_stays c.deref-in-ListOf.result.now c.in-ListOf.field-1
    c.args.value.now c.args.items.now c.args.at c.fits.result c.fits.ensures.told)

pub returns-in-SetOf : goal.returns-in-SetOf
returns-in-SetOf t c =
    let syntax : c.args.syntax.now ≡ SetOf c.in-SetOf.member.value c.in-SetOf.field-1 = search rules in
    rw (syntax, sym c.deref-in-SetOf.ensures) (set_stays_if c.deref-in-SetOf.result.now c.in-SetOf.field-1
    c.args.value.now c.args.items.now c.args.at c.fits_at.result c.fits_at.ensures)
