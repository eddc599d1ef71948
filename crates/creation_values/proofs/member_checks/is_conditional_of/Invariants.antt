-- None of the packages so far is registered so.
use Rattle.std.proofs.Common.{◌≡◌, take, false}
use Rattle.std.specs.List.{list_any}
use Rattle.term_model.specs.CreateSteps.{is_registered_as}
use Rattle.creation_values.proofs.member_checks.is_conditional_of.Given as goal

abbrev pub invariant-loop-of_package : goal.invariant-loop-of_package
invariant-loop-of_package l =
    list_any (is_registered_as l.id) (take l.of_package-index l.of_package-items) ≡ false
