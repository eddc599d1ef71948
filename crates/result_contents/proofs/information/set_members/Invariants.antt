-- What was made of the front of the list so far.
use Rattle.std.proofs.Common.{◌≡◌, take}
use Rattle.std.specs.Prelude.{map}
use Rattle.term_model.specs.ResultValues.{set_info_value}
use Rattle.term_values.specs.ResultSyntaxes.{set_error, outcome}
use Rattle.term_values.specs.Written.{der}
use Rattle.result_contents.proofs.information.set_members.Given as goal

abbrev pub invariant-loop-status : goal.invariant-loop-status
invariant-loop-status l =
    l.members.items ≡ map (λ status. der (outcome set_error) (set_info_value status))
    (take l.status-index l.statuses)
