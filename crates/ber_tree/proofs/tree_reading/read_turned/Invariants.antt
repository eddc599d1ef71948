use Rattle.std.proofs.Common.{◌≡◌, ◌<◌, ◌^◌, take, map}
use Rattle.term_values.specs.Octets.{number}
use Rattle.ber_tree.specs.Integers.{octet_turned}
use Rattle.ber_tree.proofs.tree_reading.read_turned.Given as goal

abbrev pub invariant-loop-octet : goal.invariant-loop-octet
invariant-loop-octet l =
    (l.value ≡ number (take l.octet-index (map (octet_turned l.negative) l.octets))) × (l.value < 256 ^ l.octet-index)
