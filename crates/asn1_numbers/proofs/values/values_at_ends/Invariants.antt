-- The numbers at the ends so far.
use Rattle.std.proofs.Common.{◌≡◌, map, take}
use Rattle.asn1_numbers.specs.NumberedValues.{value_at_end}
use Rattle.asn1_numbers.proofs.values.values_at_ends.Given as goal

abbrev pub invariant-loop-end : goal.invariant-loop-end
invariant-loop-end l = l.values.items ≡ map (value_at_end l.own) (take l.end-index l.ends)
