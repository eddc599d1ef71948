-- None of the classes so far is bound.
use Rattle.std.proofs.Common.{◌≡◌, take, false}
use Rattle.std.specs.List.{list_any}
use Rattle.bound_classes.specs.Behaviour.{is_bound_class}
use Rattle.bound_classes.proofs.behaviour.is_one_bound.Given as goal

abbrev pub invariant-loop-of_class : goal.invariant-loop-of_class
invariant-loop-of_class l = list_any (is_bound_class l.schema) (take l.of_class-index l.of_class-items) ≡ false
