use Rattle.std.proofs.Common.{map, take}
use Rattle.asn1_names.specs.FirstNames.{found}
use Rattle.gdmo_names.specs.FaultSets.{AnyOf, Notes}
use Rattle.gdmo_names.specs.FoundViews.{found_view, found_views, numbered}
use Rattle.gdmo_names.specs.LabelSteps.{DoubleBy}
use Rattle.gdmo_targets.proofs.labels.note_double_labels.Given as goal

abbrev pub invariant-loop-template : goal.invariant-loop-template
invariant-loop-template l = Notes (AnyOf (DoubleBy (λ label. numbered (found_views l.templates) (found l.labels label)))
    (map found_view (take l.template-index l.templates))) l.initial.faults.first l.faults.first
