-- The rest has the same error.
use Rattle.std.proofs.Common.{◌≡◌, drop}
use Rattle.op_life.specs.Making.{others_error_of}
use Rattle.op_life.proofs.making.others_error.Given as goal

abbrev pub invariant-loop-held : goal.invariant-loop-held
invariant-loop-held l =
    others_error_of l.schema l.creation l.outline (drop l.held-index l.attributes)
    ≡ others_error_of l.schema l.creation l.outline l.attributes
