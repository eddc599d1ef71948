use Rattle.std.proofs.Common.{◌≡◌, drop}
use Rattle.asn1_leaf_values.specs.Literals.{named_number}
use Rattle.asn1_leaf_values.proofs.numbers.named_number.Given as goal

abbrev pub invariant-loop-own : goal.invariant-loop-own
invariant-loop-own l = named_number l.own-items l.name ≡ named_number (drop l.own-index l.own-items) l.name
