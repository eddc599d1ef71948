-- The objects so far that pass the filter.
use Rattle.std.proofs.Common.{◌≡◌, filter, take}
use Rattle.scope_select.specs.Subtrees.{referred}
use Rattle.op_engine.specs.Selecting.{passes}
use Rattle.op_engine.proofs.selecting.passing.Given as goal

abbrev pub invariant-loop-entry : goal.invariant-loop-entry
invariant-loop-entry l =
    referred l.found.items ≡ filter (passes l.schema l.filter) (referred (take l.entry-index l.entries))
