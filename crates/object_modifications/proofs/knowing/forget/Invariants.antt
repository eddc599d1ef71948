-- What is forgotten at the places that are left is all.
use Rattle.std.proofs.Common.{◌≡◌, drop}
use Rattle.object_modifications.specs.Knowing.{forgotten}
use Rattle.object_modifications.proofs.knowing.forget.Given as goal

abbrev pub invariant-loop-place : goal.invariant-loop-place
invariant-loop-place l =
    forgotten (drop l.place-index l.places) l.knowledge.items ≡ forgotten l.places l.fn.knowledge.items
