use Rattle.std.proofs.Common.{◌≡◌, ◌≤◌, drop, length, take}
use Rattle.linked_packages.proofs.linking_packages.numbers_from.Given as goal

abbrev pub invariant-loop-k : goal.invariant-loop-k
invariant-loop-k l = l.count ≤ length (drop l.from l.numbers) → l.copies.items ≡ take l.k (drop l.from l.numbers)
