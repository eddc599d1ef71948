use Rattle.std.proofs.Common.{sym, subst}
use Rattle.lock_model.specs.LockPath.{IsWay}
use Rattle.lock_model.proofs.Depths.{paths_are_ways}
use Rattle.lock_model.proofs.path.Path.to.Goals as goal

pub invariant_of-result : goal.invariant_of-result
invariant_of-result c =
    subst IsWay (sym c.in_ok-places.ensures)
    (paths_are_ways (record { unit = c.args.wanted.now.unit; writing = c.args.wanted.now.writing }))
