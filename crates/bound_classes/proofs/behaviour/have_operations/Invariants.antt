-- None of the classes so far has an action or a notification.
use Rattle.std.proofs.Common.{◌≡◌, take, false}
use Rattle.std.specs.List.{list_any}
use Rattle.bound_classes.specs.Behaviour.{has_operations}
use Rattle.bound_classes.proofs.behaviour.have_operations.Given as goal

abbrev pub invariant-loop-of_class : goal.invariant-loop-of_class
invariant-loop-of_class l = list_any has_operations (take l.of_class-index l.classes) ≡ false
