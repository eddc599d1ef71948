-- The arcs so far are kept, each of which has 32 bits.
use Rattle.std.proofs.Common.{◌≡◌, drop, take}
use Rattle.std.specs.List.{list_all}
use Rattle.term_values.specs.Oid.{is_arc}
use Rattle.filled_syntaxes.proofs.named_things.arcs_of.Given as goal

abbrev pub invariant-loop-arc : goal.invariant-loop-arc
invariant-loop-arc l = (l.items.items ≡ take l.arc-index l.arcs)
    × (list_all is_arc l.arcs ≡ list_all is_arc (drop l.arc-index l.arcs))
