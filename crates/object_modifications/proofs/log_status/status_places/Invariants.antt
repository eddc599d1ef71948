-- The places so far, and those of the rest.
use Rattle.std.proofs.Common.{◌≡◌, ◌++◌, drop}
use Rattle.object_modifications.specs.StatusPlaces.{status_places}
use Rattle.object_modifications.proofs.log_status.status_places.Given as goal

abbrev pub invariant-loop-place : goal.invariant-loop-place
invariant-loop-place l =
    status_places l.records 0 l.attributes
    ≡ l.places.items ++ status_places l.records l.place (drop l.place l.attributes)
