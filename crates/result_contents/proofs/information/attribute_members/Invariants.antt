-- What was made of the front of the list so far.
use Rattle.std.proofs.Common.{◌≡◌, take}
use Rattle.std.specs.Prelude.{map}
use Rattle.term_model.specs.ResultValues.{held_value}
use Rattle.term_values.specs.CmipTypes.{attribute}
use Rattle.term_values.specs.Written.{der}
use Rattle.result_contents.proofs.information.attribute_members.Given as goal

abbrev pub invariant-loop-held : goal.invariant-loop-held
invariant-loop-held l =
    l.members.items ≡ map (λ held. der attribute (held_value held)) (take l.held-index l.attributes)
