use Rattle.std.proofs.Common.{◌≡◌, ℕ, List, map, take}
use Rattle.asn1_names.specs.FirstNames.{found}
use Rattle.gdmo_names.specs.FoundViews.{found_view, found_views, numbered}
use Rattle.gdmo_names.specs.LabelMeaning.{first_called}
use Rattle.gdmo_targets.proofs.labels.label_table.Given as goal

abbrev pub invariant-loop-number : goal.invariant-loop-number
invariant-loop-number l = (label : List ℕ) → numbered (found_views l.templates) (found l.table label) ≡
    first_called label (map found_view (take l.number l.templates))
