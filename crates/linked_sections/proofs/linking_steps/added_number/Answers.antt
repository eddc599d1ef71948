-- Digits that stand for a number below 2^64 are read.
use Rattle.std.proofs.Common.{◌<◌, ◌^◌, sym, ◌∙◌, ap}
use Rattle.std.proofs.Math.Path.{subst}
use Rattle.std.specs.Str.Parse.{IsNumeral, digits_value}
use Rattle.linked_sections.proofs.linking_steps.added_number.Goals as goal

pub returns-in-Some : goal.returns-in-Some
returns-in-Some c = λ digits small. c.in-Some.ensures.found.1 ∙ ap (digits_value 10) c.as_slice.ensures

pub returns-in-None : goal.returns-in-None
returns-in-None c = λ digits small.
    absurd (c.in-None.ensures.none (subst (IsNumeral 10) (sym c.as_slice.ensures) digits)
    (subst (λ t. digits_value 10 t < 2 ^ 64) (sym c.as_slice.ensures) small))
