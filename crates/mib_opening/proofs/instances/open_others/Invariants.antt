-- The instances that are left, on the objects that stand, give what all give.
use Rattle.std.proofs.Common.{◌≡◌, ◌+◌, drop}
use Rattle.term_model.specs.Opening.{opened_from}
use Rattle.mib_opening.proofs.instances.open_others.Given as goal

abbrev pub invariant-loop-instance : goal.invariant-loop-instance
invariant-loop-instance g l =
    opened_from l.schema (l.index + 1) (drop l.instance-index l.others) l.mib
    ≡ opened_from l.schema 2 l.others l.fn.mib
