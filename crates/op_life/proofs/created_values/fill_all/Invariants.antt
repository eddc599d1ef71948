-- The rest makes the same of what there is so far.
use Rattle.std.proofs.Common.{◌≡◌, drop}
use Rattle.op_life.specs.Filling.{fill_rest, unfilled}
use Rattle.op_life.proofs.created_values.fill_all.Given as goal

abbrev pub invariant-loop-id : goal.invariant-loop-id
invariant-loop-id l =
    fill_rest l.schema l.creation l.outline l.filled (drop l.id-index l.id-items)
    ≡ fill_rest l.schema l.creation l.outline unfilled l.id-items
