-- What is taken at the places that are left is all.
use Rattle.std.proofs.Common.{◌≡◌, drop}
use Rattle.object_modifications.specs.StatusPlaces.{full_taken}
use Rattle.object_modifications.proofs.log_status.take_full.Given as goal

abbrev pub invariant-loop-place : goal.invariant-loop-place
invariant-loop-place l =
    full_taken l.records (drop l.place-index l.places) l.attributes.items
    ≡ full_taken l.records l.places l.fn.attributes.items
