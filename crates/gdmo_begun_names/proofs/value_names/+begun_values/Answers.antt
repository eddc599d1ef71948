-- The parts, and the components without a name.
use Rattle.std.proofs.Common.{◌∙◌, [], Some, ap, refl, sym}
use Rattle.std.specs.Prelude.{◌↔◌}
use Rattle.std.proofs.Math.Path.{subst}
use Rattle.token_grammar.specs.Form.{Empty}
use Rattle.token_grammar.specs.Parts.{list_tree}
use Rattle.term_values.specs.PartsView.{parts_listed}
use Rattle.asn1_values_syntax.specs.ValueTrees.{part_tree, value_tree}
use Rattle.gdmo_names.specs.ValueNames.{BeginsIn, part_value}
use Rattle.gdmo_begun_names.specs.BegunMarks.{Marks}
use Rattle.gdmo_begun_names.specs.PartNames.{BeginsPart, IsComponent, IsElement, IsUnnamedComponent}
use Rattle.gdmo_begun_names.specs.Walks.{BeginsBy, BeginsValue, IsUnnamedOne}
use Rattle.gdmo_begun_names.proofs.MarkLaws.{marked_end, marked_step}
use Rattle.gdmo_begun_names.proofs.PartLaws.{braces_parts}
use Rattle.gdmo_begun_names.proofs.WalkLaws.{component_marked, is_nil, named_marked, not_nil, one_marked, other_marked}
use Rattle.gdmo_begun_names.proofs.WalkLaws.{parts_marked, unnamed_marked}
use Rattle.gdmo_begun_names.proofs.value_names.+begun_values.Goals as goal
use Rattle.gdmo_begun_names.proofs.value_names.+begun_values.Goals.{mark_unnamed-then-is_empty+in-Named+then-is_empty-2}
use Rattle.gdmo_begun_names.proofs.value_names.+begun_values.Goals.{mark_unnamed-then-is_empty+in-Named+else-is_empty-2}
use Rattle.gdmo_begun_names.proofs.value_names.+begun_values.Goals.{mark_unnamed-then-is_empty+in-Unnamed}
use Rattle.gdmo_begun_names.proofs.value_names.+begun_values.Goals.{mark_unnamed-else-is_empty}

pub mark_names-loop-part-preserved : goal.mark_names-loop-part-preserved
mark_names-loop-part-preserved t c =
    marked_step (λ part. BeginsPart (IsComponent c.in-Components.components.now) (part_tree part))
    c.deref-part-items.result.now c.loop-part.part-index c.part-item.result c.loop-part-test.true c.part-item.is
    c.loop-part.invariant
    (component_marked c.in-Components.components.now (part_tree c.part-item.result) c.mark_called.ensures
    c.mark_unnamed.ensures)

pub mark_names-loop-part-2-preserved : goal.mark_names-loop-part-2-preserved
mark_names-loop-part-2-preserved t c =
    marked_step (λ part. BeginsPart (IsElement c.in-Elements.of.now) (part_tree part))
    c.deref-part-items-in-Parts-content.result.now c.loop-part-2.part-index
    c.part-item-in-loop-part-2.result c.loop-part-2-test.true c.part-item-in-loop-part-2.is c.loop-part-2.invariant
    c.mark_element.ensures

pub mark_names-returns-after-loop-part : goal.mark_names-returns-after-loop-part
mark_names-returns-after-loop-part t c =
    parts_marked (IsComponent c.in-Components.components.now)
    (BeginsValue c.args.syntax.now (value_tree c.args.value.now)) (value_tree c.args.value.now)
    c.deref-part-items.result.now
    (braces_parts c.args.value.now c.in-Braces.brace c.in-Braces.content c.in-Parts.parts
    c.in-Braces.is c.in-Parts.is
    ∙ ap (λ xs. Some (list_tree part_tree Empty xs)) (sym c.deref-part-items.ensures.value))
    (λ first. subst (λ w. BeginsBy w (value_tree c.args.value.now) first
    ↔ BeginsIn first c.args.syntax.now (value_tree c.args.value.now)) c.in-Components.is
    (c.walk_of.ensures (value_tree c.args.value.now) first))
    (marked_end (λ part. BeginsPart (IsComponent c.in-Components.components.now) (part_tree part))
    c.deref-part-items.result.now c.loop-part.part-index c.loop-part-test.false c.loop-part.invariant)

pub mark_names-returns-after-loop-part-2 : goal.mark_names-returns-after-loop-part-2
mark_names-returns-after-loop-part-2 t c =
    let parts = c.deref-part-items-in-Parts-content in
    parts_marked (IsElement c.in-Elements.of.now)
    (BeginsValue c.args.syntax.now (value_tree c.args.value.now)) (value_tree c.args.value.now)
    parts.result.now
    (braces_parts c.args.value.now c.in-Braces-value.brace c.in-Braces-value.content
    c.in-Parts-content.parts c.in-Braces-value.is c.in-Parts-content.is
    ∙ ap (λ xs. Some (list_tree part_tree Empty xs)) (sym parts.ensures.value))
    (λ first. subst (λ w. BeginsBy w (value_tree c.args.value.now) first
    ↔ BeginsIn first c.args.syntax.now (value_tree c.args.value.now)) c.in-Elements.is
    (c.walk_of.ensures (value_tree c.args.value.now) first))
    (marked_end (λ part. BeginsPart (IsElement c.in-Elements.of.now) (part_tree part))
    parts.result.now c.loop-part-2.part-index c.loop-part-2-test.false c.loop-part-2.invariant)

pub mark_unnamed-loop-component-preserved : goal.mark_unnamed-loop-component-preserved
mark_unnamed-loop-component-preserved t c =
    let one = c.component-item.result in
    let part = part_tree c.args.part.now in
    marked_step (λ component. BeginsPart (IsUnnamedOne component) part)
    c.deref-component-items.result.now c.loop-component.component-index one c.loop-component-test.true
    c.component-item.is c.loop-component.invariant
    (elim c.if-is_empty.branch as (λ _. Marks (BeginsPart (IsUnnamedOne one) part) c.loop-component.names
    c.if-is_empty.names) [
      | mark_unnamed-then-is_empty+in-Named+then-is_empty-2 w ↦
          subst (λ n. Marks (BeginsPart (IsUnnamedOne one) part) c.loop-component.names n) (sym w.names-is)
          (one_marked one w.as_slice-in-Named.result.now (value_tree w.in-Named.value) part
          (ap (λ p. part_value (part_tree p)) w.in-Named.is
          ∙ ap (λ n. Some (n, value_tree w.in-Named.value)) (sym w.as_slice-in-Named.ensures))
          (is_nil w.as_slice-in-Named.result.now w.is_empty-in-Named.result w.is_empty-in-Named.ensures
          w.if-is_empty-2.true)
          (sym c.as_slice.ensures ∙ is_nil c.as_slice.result.now c.is_empty.result c.is_empty.ensures
          w.if-is_empty.true) w.mark_names.ensures)
      | mark_unnamed-then-is_empty+in-Named+else-is_empty-2 w ↦
          subst (λ n. Marks (BeginsPart (IsUnnamedOne one) part) c.loop-component.names n) (sym w.names-is)
          (named_marked one w.as_slice-in-Named.result.now (value_tree w.in-Named.value) part c.loop-component.names
          (ap (λ p. part_value (part_tree p)) w.in-Named.is
          ∙ ap (λ n. Some (n, value_tree w.in-Named.value)) (sym w.as_slice-in-Named.ensures))
          (not_nil w.as_slice-in-Named.result.now w.is_empty-in-Named.result w.is_empty-in-Named.ensures
          w.if-is_empty-2.false))
      | mark_unnamed-then-is_empty+in-Unnamed w ↦
          subst (λ n. Marks (BeginsPart (IsUnnamedOne one) part) c.loop-component.names n) (sym w.names-is)
          (one_marked one [] (value_tree w.in-Unnamed.value) part
          (ap (λ p. part_value (part_tree p)) w.in-Unnamed.is) refl
          (sym c.as_slice.ensures ∙ is_nil c.as_slice.result.now c.is_empty.result c.is_empty.ensures
          w.if-is_empty.true) w.mark_names-in-Unnamed.ensures)
      | mark_unnamed-else-is_empty w ↦
          subst (λ n. Marks (BeginsPart (IsUnnamedOne one) part) c.loop-component.names n) (sym w.names-is)
          (other_marked one part c.loop-component.names
          (λ e. not_nil c.as_slice.result.now c.is_empty.result c.is_empty.ensures w.if-is_empty.false
          (c.as_slice.ensures ∙ e)))
    ])

pub mark_unnamed-returns : goal.mark_unnamed-returns
mark_unnamed-returns t c =
    subst (λ ps. Marks (BeginsPart (IsUnnamedComponent ps) (part_tree c.args.part.now)) c.args.names.now
    c.loop-component.names) (ap parts_listed c.deref-component-items.ensures.value ∙ c.components.view_is)
    (unnamed_marked (part_tree c.args.part.now) c.deref-component-items.result.now
    (marked_end (λ component. BeginsPart (IsUnnamedOne component) (part_tree c.args.part.now))
    c.deref-component-items.result.now c.loop-component.component-index c.loop-component-test.false
    c.loop-component.invariant))
