-- One more name decides.
use Rattle.std.proofs.Common.{◌≡◌, ◌∙◌, ◌+◌, ◌-◌, ◌<◌, ap, arith, get_or, length}
use Rattle.asn1_leaf_values.specs.FirstNames.{arcs_named}
use Rattle.filled_syntaxes.proofs.CountLaws.{name_step}
use Rattle.filled_syntaxes.proofs.named_things.first_names.Goals as goal

pub loop-behind-preserved : goal.loop-behind-preserved
loop-behind-preserved c =
    let xs = c.as_slice-told.result.now in
    let i = c.loop-behind.behind in
    let x = c.index-told-told.result in
    let place : length xs - 1 - i ≡ length xs - (i + 1) = omega arith in
    let next : length xs - i ≡ length xs - (i + 1) + 1 = omega arith in
    let within : length xs - (i + 1) < length xs = omega arith in
    name_step xs (length xs - i) (length xs - (i + 1)) x (arcs_named c.loop-behind.names)
    (arcs_named c.set_first_name.new.names) next within
    (c.index-told-told.is ∙ ap (λ k. get_or xs k x) place) c.loop-behind.invariant c.in_ok-set_first_name.ensures
