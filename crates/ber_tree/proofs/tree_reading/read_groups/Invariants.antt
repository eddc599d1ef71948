use Rattle.std.proofs.Common.{◌≡◌, ◌<◌, ◌^◌, take}
use Rattle.ber_tree.specs.Subidentifiers.{grouped}
use Rattle.ber_tree.proofs.tree_reading.read_groups.Given as goal

abbrev pub invariant-loop-octet : goal.invariant-loop-octet
invariant-loop-octet l = (l.value ≡ grouped (take l.octet-index l.octets)) × (l.value < 128 ^ l.octet-index)
