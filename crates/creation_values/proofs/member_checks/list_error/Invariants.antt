-- The rest of the list, behind what was tried, has the same error.
use Rattle.std.proofs.Common.{◌≡◌, drop, take, []}
use Rattle.term_model.specs.CreateSteps.{list_error}
use Rattle.creation_values.proofs.member_checks.list_error.Given as goal

abbrev pub invariant-loop-at : goal.invariant-loop-at
invariant-loop-at l =
    list_error l.schema l.creation l.attributes (take l.at l.list) (drop l.at l.list)
    ≡ list_error l.schema l.creation l.attributes [] l.list
