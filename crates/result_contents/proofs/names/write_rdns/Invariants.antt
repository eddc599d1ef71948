-- The RDNs so far are those from the place on.
use Rattle.std.proofs.Common.{◌≡◌, ◌++◌, drop, reverse}
use Rattle.std.specs.List.{flat_map}
use Rattle.ber_tree.specs.Writing.{Extends}
use Rattle.term_model.specs.GetRequest.{rdn_octets}
use Rattle.result_contents.proofs.names.write_rdns.Given as goal

abbrev pub invariant-loop-i : goal.invariant-loop-i
invariant-loop-i l =
    (l.into.items ≡ l.fn.into.items ++ reverse (flat_map rdn_octets (drop l.i l.name)))
    × Extends l.fn.into.items l.into.items
