-- What was reached so far with what is left is the whole, and is not past the limit.
use Rattle.std.proofs.Common.{◌≤◌, length}
use Rattle.scope_select.specs.Subtrees.{referred}
use Rattle.scope_select.proofs.SubtreeLaws.{IsReached}
use Rattle.scope_select.proofs.entries.reached_among.Given as goal

abbrev pub invariant-loop-entry : goal.invariant-loop-entry
invariant-loop-entry l =
    IsReached l.base l.scope l.entries (referred l.reached.items) l.entry-index
    × (length (referred l.reached.items) ≤ l.limit)
