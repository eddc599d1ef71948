-- A name stands for its arcs, or for none.
use Rattle.std.proofs.Common.{◌≡◌, ◌∙◌, None, Some, ap, refl, rules, sym}
use Rattle.asn1_leaf_values.specs.Arcs.{where_arcs}
use Rattle.asn1_leaf_values.specs.FirstNames.{arcs_named}
use Rattle.filled_syntaxes.proofs.ThingsLaws.{name_set}
use Rattle.filled_syntaxes.proofs.named_things.set_first_name.Goals as goal

pub returns-in_ok-insert-in-Some : goal.returns-in_ok-insert-in-Some
returns-in_ok-insert-in-Some c =
    let first = c.args.first.now in
    let same : c.as_slice-name.result.now ≡ first.name.text = search rules in
    let told : Some c.in-Some.arcs ≡ where_arcs first.arcs.items =
    sym c.in-Some.is ∙ c.in_ok-arcs.ensures ∙ ap where_arcs c.as_slice.ensures.value in
    name_set (arcs_named c.args.names.now) (arcs_named c.insert.new.self) c.as_slice-name.result.now first.name.text
    (Some c.in-Some.arcs) first.arcs.items first.arcs.items same told refl
    (λ name. c.in_ok-insert-in-Some.ensures.updates.0 (record { ref_ptr = (0, 0); now = name }))

pub returns-in-None : goal.returns-in-None
returns-in-None c =
    let first = c.args.first.now in
    let same : c.as_slice-name.result.now ≡ first.name.text = search rules in
    let told : None ≡ where_arcs first.arcs.items =
    sym c.in-None.is ∙ c.in_ok-arcs.ensures ∙ ap where_arcs c.as_slice.ensures.value in
    name_set (arcs_named c.args.names.now) (arcs_named c.swap_remove.new.self) c.as_slice-name.result.now first.name.text
    None first.arcs.items first.arcs.items same told refl
    (λ name. c.swap_remove.ensures.updates.0 (record { ref_ptr = (0, 0); now = name }))
