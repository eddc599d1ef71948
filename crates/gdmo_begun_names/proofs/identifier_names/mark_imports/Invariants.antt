-- The names of the modules so far are marked.
use Rattle.std.proofs.Common.{take}
use Rattle.gdmo_names.specs.PartViews.{identifier_list}
use Rattle.gdmo_begun_names.specs.BegunMarks.{AnyFirst, Marks}
use Rattle.gdmo_begun_names.specs.StatedNames.{StatedFirst}
use Rattle.gdmo_begun_names.proofs.identifier_names.mark_imports.Given as goal

abbrev pub invariant-loop-other : goal.invariant-loop-other
invariant-loop-other l =
    Marks (AnyFirst (λ y. AnyFirst StatedFirst (identifier_list y.identifier)) (take l.other-index l.other-items))
    l.initial.names l.names
