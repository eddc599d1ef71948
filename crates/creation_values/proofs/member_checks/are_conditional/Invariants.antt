-- Each identifier so far is that of a conditional package.
use Rattle.std.proofs.Common.{◌≡◌, take, true}
use Rattle.std.specs.List.{list_all}
use Rattle.term_model.specs.CreateSteps.{is_conditional}
use Rattle.creation_values.proofs.member_checks.are_conditional.Given as goal

abbrev pub invariant-loop-id : goal.invariant-loop-id
invariant-loop-id l = list_all (is_conditional l.schema l.class) (take l.id-index l.ids) ≡ true
