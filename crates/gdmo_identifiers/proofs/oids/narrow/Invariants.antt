-- The arcs so far are of 32 bits.
use Rattle.std.proofs.Common.{◌≡◌, take, true}
use Rattle.std.specs.List.{list_all}
use Rattle.term_values.specs.Oid.{is_arc}
use Rattle.gdmo_identifiers.proofs.oids.narrow.Given as goal

abbrev pub invariant-loop-number : goal.invariant-loop-number
invariant-loop-number l = (l.arcs.items ≡ take l.number-index l.numbers)
    × (list_all is_arc (take l.number-index l.numbers) ≡ true)
