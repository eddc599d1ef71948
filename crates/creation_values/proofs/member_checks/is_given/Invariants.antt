-- None of the members so far gives the attribute.
use Rattle.std.proofs.Common.{◌≡◌, take, false}
use Rattle.std.specs.List.{list_any}
use Rattle.term_model.specs.CreateValues.{gives}
use Rattle.creation_values.proofs.member_checks.is_given.Given as goal

abbrev pub invariant-loop-given : goal.invariant-loop-given
invariant-loop-given l = list_any (gives l.id) (take l.given-index l.before) ≡ false
