-- What a value in a filter is itself, what it chooses, and its parts.
use Rattle.std.proofs.Common.{◌∙◌, None, Some, ap, sym}
use Rattle.std.specs.Prelude.{option_map}
use Rattle.std.proofs.Math.Path.{subst}
use Rattle.token_grammar.specs.Form.{Empty}
use Rattle.token_grammar.specs.Parts.{list_tree}
use Rattle.asn1_values_syntax.specs.ValueTrees.{part_tree, value_tree}
use Rattle.gdmo_names.specs.ValueNames.{chosen_value, part_value, parts_in}
use Rattle.gdmo_begun_names.specs.BegunMarks.{Marks}
use Rattle.gdmo_begun_names.specs.FilterPlaces.{BeginsAt, place_called, place_syntax}
use Rattle.gdmo_begun_names.specs.PartNames.{BeginsPart, CanBePart}
use Rattle.gdmo_begun_names.proofs.FilterLaws.{own_chosen, own_only, own_parts, part_at}
use Rattle.gdmo_begun_names.proofs.MarkLaws.{marked_end, marked_step, none_marked}
use Rattle.gdmo_begun_names.proofs.PartLaws.{braces_is, braces_parts, named_is}
use Rattle.gdmo_begun_names.proofs.filter_names.+begun_filters.Goals as goal

pub mark_at-loop-part-preserved : goal.mark_at-loop-part-preserved
mark_at-loop-part-preserved t c =
    marked_step (λ part. BeginsPart (CanBePart (place_syntax c.args.place)) (part_tree part))
    c.deref-part-items.result.now c.loop-part.part-index c.part-item.result c.loop-part-test.true c.part-item.is
    c.loop-part.invariant c.mark_part_at.ensures

pub mark_at-returns-in-Literal : goal.mark_at-returns-in-Literal
mark_at-returns-in-Literal t c = own_only c.args.place (value_tree c.args.value.now)
    (ap (λ v. chosen_value (value_tree v)) c.in-Literal.is) (ap (λ v. parts_in (value_tree v)) c.in-Literal.is)
    c.mark_own.ensures

pub mark_at-returns-in-Number : goal.mark_at-returns-in-Number
mark_at-returns-in-Number t c = own_only c.args.place (value_tree c.args.value.now)
    (ap (λ v. chosen_value (value_tree v)) c.in-Number.is) (ap (λ v. parts_in (value_tree v)) c.in-Number.is)
    c.mark_own.ensures

pub mark_at-returns-in-Name : goal.mark_at-returns-in-Name
mark_at-returns-in-Name t c = own_only c.args.place (value_tree c.args.value.now)
    (ap (λ v. chosen_value (value_tree v)) (named_is c.args.value.now _ _ c.in-Named.is c.in-Name.is))
    (ap (λ v. parts_in (value_tree v)) (named_is c.args.value.now _ _ c.in-Named.is c.in-Name.is))
    c.mark_own.ensures

pub mark_at-returns-in-Some : goal.mark_at-returns-in-Some
mark_at-returns-in-Some t c =
    own_chosen c.args.place (value_tree c.args.value.now) (value_tree c.in-Choice.value.value) c.in-Choice.name
    (Some c.in-Some.own)
    (ap (λ v. chosen_value (value_tree v)) (named_is c.args.value.now _ _ c.in-Named.is c.in-Choice.is))
    (ap (λ v. parts_in (value_tree v)) (named_is c.args.value.now _ _ c.in-Named.is c.in-Choice.is))
    (ap (option_map place_syntax) (sym c.in-Some.is) ∙ c.place_called.ensures
    ∙ ap (place_called c.args.place) c.as_slice.ensures)
    c.mark_own.ensures
    (subst (λ v. Marks (BeginsAt (Some c.in-Some.own) (value_tree v)) c.mark_own.new.names c.mark_at.new.names)
    c.deref.ensures c.mark_at.ensures)

pub mark_at-returns-in-None : goal.mark_at-returns-in-None
mark_at-returns-in-None t c =
    own_chosen c.args.place (value_tree c.args.value.now) (value_tree c.in-Choice.value.value) c.in-Choice.name
    None
    (ap (λ v. chosen_value (value_tree v)) (named_is c.args.value.now _ _ c.in-Named.is c.in-Choice.is))
    (ap (λ v. parts_in (value_tree v)) (named_is c.args.value.now _ _ c.in-Named.is c.in-Choice.is))
    (ap (option_map place_syntax) (sym c.in-None.is) ∙ c.place_called.ensures
    ∙ ap (place_called c.args.place) c.as_slice.ensures)
    c.mark_own.ensures
    (none_marked (BeginsAt None (value_tree c.in-Choice.value.value)) c.mark_own.new.names (λ first h. h))

pub mark_at-returns-in-Nothing : goal.mark_at-returns-in-Nothing
mark_at-returns-in-Nothing t c = own_only c.args.place (value_tree c.args.value.now)
    (ap (λ v. chosen_value (value_tree v)) c.in-Braces.is)
    (ap (λ v. parts_in (value_tree v)) (braces_is c.args.value.now _ _ _ c.in-Braces.is c.in-Nothing.is))
    c.mark_own.ensures

pub mark_at-returns-after-loop-part : goal.mark_at-returns-after-loop-part
mark_at-returns-after-loop-part t c =
    own_parts c.args.place (value_tree c.args.value.now) c.deref-part-items.result.now
    (ap (λ v. chosen_value (value_tree v)) c.in-Braces.is)
    (braces_parts c.args.value.now c.in-Braces.brace c.in-Braces.content c.in-Parts.parts c.in-Braces.is c.in-Parts.is
    ∙ ap (λ xs. Some (list_tree part_tree Empty xs)) (sym c.deref-part-items.ensures.value))
    c.mark_own.ensures
    (marked_end (λ part. BeginsPart (CanBePart (place_syntax c.args.place)) (part_tree part))
    c.deref-part-items.result.now c.loop-part.part-index c.loop-part-test.false c.loop-part.invariant)

pub mark_at-returns-in-Arcs : goal.mark_at-returns-in-Arcs
mark_at-returns-in-Arcs t c = own_only c.args.place (value_tree c.args.value.now)
    (ap (λ v. chosen_value (value_tree v)) c.in-Braces.is)
    (ap (λ v. parts_in (value_tree v)) (braces_is c.args.value.now _ _ _ c.in-Braces.is c.in-Arcs.is))
    c.mark_own.ensures

pub mark_at-returns-in-NamedArcs : goal.mark_at-returns-in-NamedArcs
mark_at-returns-in-NamedArcs t c = own_only c.args.place (value_tree c.args.value.now)
    (ap (λ v. chosen_value (value_tree v)) c.in-Braces.is)
    (ap (λ v. parts_in (value_tree v)) (braces_is c.args.value.now _ _ _ c.in-Braces.is c.in-NamedArcs.is))
    c.mark_own.ensures

pub mark_part_at-returns-in-None : goal.mark_part_at-returns-in-None
mark_part_at-returns-in-None t c =
    part_at c.args.place c.place_of_part.result c.as_slice.result.now (value_tree c.in-Named.value)
    (part_tree c.args.part.now)
    (ap (λ p. part_value (part_tree p)) c.in-Named.is
    ∙ ap (λ n. Some (n, value_tree c.in-Named.value)) (sym c.as_slice.ensures))
    c.place_of_part.ensures
    (subst (λ r. Marks (BeginsAt r (value_tree c.in-Named.value)) c.args.names.now c.args.names.now)
    (sym c.in-None.is) (none_marked (BeginsAt None (value_tree c.in-Named.value)) c.args.names.now (λ first h. h)))

pub mark_part_at-returns-in-None-place_of_part : goal.mark_part_at-returns-in-None-place_of_part
mark_part_at-returns-in-None-place_of_part t c =
    part_at c.args.place c.place_of_part-in-Unnamed.result c.as_bytes.result.now (value_tree c.in-Unnamed.value)
    (part_tree c.args.part.now)
    (ap (λ p. part_value (part_tree p)) c.in-Unnamed.is
    ∙ ap (λ n. Some (n, value_tree c.in-Unnamed.value)) (sym c.as_bytes.ensures.value))
    c.place_of_part-in-Unnamed.ensures
    (subst (λ r. Marks (BeginsAt r (value_tree c.in-Unnamed.value)) c.args.names.now c.args.names.now)
    (sym c.in-None-place_of_part.is)
    (none_marked (BeginsAt None (value_tree c.in-Unnamed.value)) c.args.names.now (λ first h. h)))
