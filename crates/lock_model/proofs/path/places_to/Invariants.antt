use Rattle.std.proofs.Common.{◌≡◌, ◌++◌, drop}
use Rattle.lock_model.specs.LockPath.{way_from, way_to}
use Rattle.lock_model.proofs.path.places_to.Given as goal

-- the places so far, and those behind the name so far
abbrev pub invariant-loop-part : goal.invariant-loop-part
invariant-loop-part l =
    l.places.items ++ way_from l.front (drop l.part-index l.part-items) l.unit.part l.writing
    ≡ way_to (record { unit = l.unit; writing = l.writing })
