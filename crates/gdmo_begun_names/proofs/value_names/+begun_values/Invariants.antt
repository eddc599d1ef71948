-- The names of the parts so far are marked, and of the components so far.
use Rattle.std.proofs.Common.{take}
use Rattle.asn1_values_syntax.specs.ValueTrees.{part_tree}
use Rattle.gdmo_begun_names.specs.BegunMarks.{AnyFirst, Marks}
use Rattle.gdmo_begun_names.specs.PartNames.{BeginsPart, IsComponent, IsElement}
use Rattle.gdmo_begun_names.specs.Walks.{IsUnnamedOne}
use Rattle.gdmo_begun_names.proofs.value_names.+begun_values.Given as goal

abbrev pub invariant-mark_names-loop-part : goal.invariant-mark_names-loop-part
invariant-mark_names-loop-part l =
    Marks (AnyFirst (λ part. BeginsPart (IsComponent l.components) (part_tree part))
    (take l.part-index l.part-items)) l.initial.names l.names

abbrev pub invariant-mark_names-loop-part-2 : goal.invariant-mark_names-loop-part-2
invariant-mark_names-loop-part-2 l =
    Marks (AnyFirst (λ part. BeginsPart (IsElement l.of) (part_tree part))
    (take l.part-index l.part-items)) l.initial.names l.names

abbrev pub invariant-mark_unnamed-loop-component : goal.invariant-mark_unnamed-loop-component
invariant-mark_unnamed-loop-component l =
    Marks (AnyFirst (λ component. BeginsPart (IsUnnamedOne component) (part_tree l.part))
    (take l.component-index l.component-items)) l.initial.names l.names
