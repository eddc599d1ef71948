-- None of the packages so far has an action or a notification.
use Rattle.std.proofs.Common.{◌≡◌, take, false}
use Rattle.std.specs.List.{list_any}
use Rattle.bound_classes.specs.Behaviour.{has_members}
use Rattle.bound_classes.proofs.behaviour.have_members.Given as goal

abbrev pub invariant-loop-of_package : goal.invariant-loop-of_package
invariant-loop-of_package l = list_any has_members (take l.of_package-index l.packages) ≡ false
