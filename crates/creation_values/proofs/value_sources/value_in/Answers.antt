-- The value in the syntax that is there.
use Rattle.std.proofs.Common.{◌≡◌, ap, ◌∙◌}
use Rattle.term_model.specs.CreateValues.{value_of_octets}
use Rattle.creation_values.proofs.value_sources.value_in.Goals as goal

pub returns-in_ok-value-in-Some : goal.returns-in_ok-value-in-Some
returns-in_ok-value-in-Some c =
    let e : c.in_ok-value-in-Some.value ≡ value_of_octets c.in-Some.syntax.now c.args.octets.now =
    c.in_ok-value-in-Some.ensures ∙ ap (value_of_octets c.in-Some.syntax.now) c.as_slice.ensures in
    rw c.in-Some.is e
