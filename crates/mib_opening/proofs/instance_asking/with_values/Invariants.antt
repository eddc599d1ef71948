-- The values so far.
use Rattle.std.proofs.Common.{◌≡◌, map, take}
use Rattle.term_model.specs.Opening.{given_of}
use Rattle.mib_opening.proofs.instance_asking.with_values.Given as goal

abbrev pub invariant-loop-held : goal.invariant-loop-held
invariant-loop-held l = l.items.items ≡ map given_of (take l.held-index l.given)
