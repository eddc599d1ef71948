-- The name of the arcs, where it has a number.
use Rattle.std.proofs.Common.{◌∙◌, ap, sym}
use Rattle.std.specs.Prelude.{option_map}
use Rattle.asn1_values_syntax.specs.ValueTrees.{value_tree}
use Rattle.gdmo_names.specs.ValueNames.{arcs_name}
use Rattle.gdmo_begun_names.proofs.MayLaws.{arcs_told}
use Rattle.gdmo_begun_names.proofs.begun_names.arcs_may_begin.Goals as goal

pub returns-in-Some : goal.returns-in-Some
returns-in-Some c = arcs_told c.args.names.now c.in-Some.name.now (arcs_name (value_tree c.args.value.now))
    c.number_of.result c.is_some.result
    (sym c.arcs_name.ensures ∙ ap (option_map (λ token. token.now)) c.in-Some.is) c.number_of.ensures
    c.is_some.ensures
