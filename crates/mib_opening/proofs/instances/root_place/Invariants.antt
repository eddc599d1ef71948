-- The ROOT stands among the instances that are left.
use Rattle.std.proofs.Common.{◌≡◌, ◌+◌, drop}
use Rattle.term_model.specs.Opening.{root_place}
use Rattle.mib_opening.proofs.instances.root_place.Given as goal

abbrev pub invariant-loop-other : goal.invariant-loop-other
invariant-loop-other l = root_place (l.index + 1) (drop l.other-index l.others) ≡ root_place 2 l.others
