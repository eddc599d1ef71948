-- What is left, installed in the map so far, makes what all of it makes of the map before.
use Rattle.std.proofs.Common.{◌≡◌}
use Rattle.operation_model.specs.WholeOperation.{installed}
use Rattle.op_install.proofs.installing.install.Given as goal

abbrev pub invariant-loop-name : goal.invariant-loop-name
invariant-loop-name g l =
    installed l.mib l.name-iterator.rest.items ≡ installed l.initial.mib l.initial.name-iterator.rest.items
