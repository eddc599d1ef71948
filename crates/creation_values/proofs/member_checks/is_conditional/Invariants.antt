-- None of the classes so far has the package.
use Rattle.std.proofs.Common.{◌≡◌, take, false}
use Rattle.std.specs.List.{list_any}
use Rattle.term_model.specs.CreateSteps.{is_conditional_in}
use Rattle.creation_values.proofs.member_checks.is_conditional.Given as goal

abbrev pub invariant-loop-class : goal.invariant-loop-class
invariant-loop-class l = list_any (is_conditional_in l.schema l.id) (take l.class-index l.classes) ≡ false
