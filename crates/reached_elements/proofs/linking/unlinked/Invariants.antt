-- As many elements as were counted, which lead nowhere.
use Rattle.std.proofs.Common.{◌≡◌, ℕ, [], replicate, Vec, Global}
use Rattle.std.specs.Prelude.{map}
use Rattle.reached_elements.proofs.linking.unlinked.Given as goal

abbrev pub invariant-loop : goal.invariant-loop
invariant-loop l = map (λ (xs : Vec ℕ Global). xs.items) l.targets.items ≡ replicate l.counter []
