-- The names of the parts so far are marked.
use Rattle.std.proofs.Common.{take}
use Rattle.asn1_values_syntax.specs.ValueTrees.{part_tree}
use Rattle.gdmo_begun_names.specs.BegunMarks.{AnyFirst, Marks}
use Rattle.gdmo_begun_names.specs.FilterPlaces.{place_syntax}
use Rattle.gdmo_begun_names.specs.PartNames.{BeginsPart, CanBePart}
use Rattle.gdmo_begun_names.proofs.filter_names.+begun_filters.Given as goal

abbrev pub invariant-mark_at-loop-part : goal.invariant-mark_at-loop-part
invariant-mark_at-loop-part l =
    Marks (AnyFirst (λ part. BeginsPart (CanBePart (place_syntax l.place)) (part_tree part))
    (take l.part-index l.part-items)) l.initial.names l.names
