-- What a value is itself, what it chooses, and its parts.
use Rattle.std.proofs.Common.{◌∙◌, Some, ap, sym}
use Rattle.std.proofs.Math.Path.{subst}
use Rattle.std.proofs.Common.{◌≡◌, true}
use Rattle.std.specs.Prelude.{◌↔◌}
use Rattle.token_grammar.specs.Form.{Empty}
use Rattle.token_grammar.specs.Parts.{list_tree}
use Rattle.asn1_values_syntax.specs.ValueTrees.{part_tree, value_tree}
use Rattle.gdmo_names.specs.ValueNames.{arcs_name, chosen_value, part_value, parts_in}
use Rattle.gdmo_begun_names.specs.BegunMarks.{DefinesSome}
use Rattle.gdmo_begun_names.specs.PartNames.{MayBeginValue}
use Rattle.gdmo_begun_names.proofs.MayLaws.{none_more, part_told, value_chosen, value_none, value_own, value_part}
use Rattle.gdmo_begun_names.proofs.PartLaws.{braces_parts, named_is}
use Rattle.gdmo_begun_names.proofs.begun_names.+begun_names.Goals as goal

pub may_begin-returns-then-arcs_may_begin : goal.may_begin-returns-then-arcs_may_begin
may_begin-returns-then-arcs_may_begin t c =
    value_own (value_tree c.args.value.now) c.args.names.now c.arcs_may_begin.result c.arcs_may_begin.ensures
    c.if-arcs_may_begin.true

pub may_begin-returns-then-part_may_begin : goal.may_begin-returns-then-part_may_begin
may_begin-returns-then-part_may_begin t c =
    value_part (value_tree c.args.value.now) c.deref-part-items.result.now c.loop-part.part-index c.part-item.result
    c.args.names.now c.part_may_begin.result
    (braces_parts c.args.value.now c.in-Braces.brace c.in-Braces.content c.in-Parts.parts c.in-Braces.is c.in-Parts.is
    ∙ ap (λ xs. Some (list_tree part_tree Empty xs)) (sym c.deref-part-items.ensures.value))
    c.loop-part-test.true c.part-item.is c.part_may_begin.ensures c.if-part_may_begin.true

pub may_begin-loop-part-preserved : goal.may_begin-loop-part-preserved
may_begin-loop-part-preserved t c =
    none_more c.args.names.now c.deref-part-items.result.now c.loop-part.part-index c.part-item.result
    c.part_may_begin.result c.loop-part-test.true c.part-item.is c.part_may_begin.ensures c.if-part_may_begin.false
    c.loop-part.invariant

pub may_begin-returns-in-Choice : goal.may_begin-returns-in-Choice
may_begin-returns-in-Choice t c =
    let is = named_is c.args.value.now _ _ c.in-Named.is c.in-Choice.is in
    value_chosen (value_tree c.args.value.now) (value_tree c.in-Choice.value.value) c.in-Choice.name c.args.names.now
    c.may_begin.result (ap (λ v. chosen_value (value_tree v)) is) (ap (λ v. arcs_name (value_tree v)) is)
    (ap (λ v. parts_in (value_tree v)) is)
    (subst (λ v. (c.may_begin.result ≡ true) ↔ DefinesSome (MayBeginValue (value_tree v)) c.args.names.now)
    c.deref.ensures c.may_begin.ensures)

pub may_begin-returns-after-loop-part : goal.may_begin-returns-after-loop-part
may_begin-returns-after-loop-part t c =
    value_none (value_tree c.args.value.now) c.deref-part-items.result.now c.loop-part.part-index c.args.names.now
    c.arcs_may_begin.result
    (braces_parts c.args.value.now c.in-Braces.brace c.in-Braces.content c.in-Parts.parts c.in-Braces.is c.in-Parts.is
    ∙ ap (λ xs. Some (list_tree part_tree Empty xs)) (sym c.deref-part-items.ensures.value))
    (ap (λ v. chosen_value (value_tree v)) c.in-Braces.is) c.arcs_may_begin.ensures c.if-arcs_may_begin.false
    c.loop-part-test.false c.loop-part.invariant

pub part_may_begin-returns-in-Named : goal.part_may_begin-returns-in-Named
part_may_begin-returns-in-Named t c =
    part_told (part_tree c.args.part.now) (value_tree c.in-Named.value) _ c.args.names.now c.may_begin.result
    (ap (λ p. part_value (part_tree p)) c.in-Named.is) c.may_begin.ensures

pub part_may_begin-returns-in-Unnamed : goal.part_may_begin-returns-in-Unnamed
part_may_begin-returns-in-Unnamed t c =
    part_told (part_tree c.args.part.now) (value_tree c.in-Unnamed.value) _ c.args.names.now
    c.may_begin-in-Unnamed.result (ap (λ p. part_value (part_tree p)) c.in-Unnamed.is) c.may_begin-in-Unnamed.ensures
