-- None of the classes so far has such a label.
use Rattle.std.proofs.Common.{◌≡◌, take, false}
use Rattle.std.specs.List.{list_any}
use Rattle.bound_classes.specs.KnownLabels.{is_known}
use Rattle.bound_classes.proofs.behaviour.is_one_known.Given as goal

abbrev pub invariant-loop-of_class : goal.invariant-loop-of_class
invariant-loop-of_class l = list_any is_known (take l.of_class-index l.classes) ≡ false
