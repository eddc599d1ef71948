-- The names of the templates so far are marked.
use Rattle.std.proofs.Common.{take}
use Rattle.gdmo_names.specs.FoundViews.{found_view}
use Rattle.gdmo_begun_names.specs.BegunMarks.{AnyFirst, Marks}
use Rattle.gdmo_begun_names.specs.StatedNames.{TemplateFirst}
use Rattle.gdmo_begun_names.proofs.identifier_names.mark_templates.Given as goal

abbrev pub invariant-loop-found : goal.invariant-loop-found
invariant-loop-found l =
    Marks (AnyFirst (λ found. TemplateFirst (found_view found)) (take l.found-index l.templates)) l.initial.names
    l.names
