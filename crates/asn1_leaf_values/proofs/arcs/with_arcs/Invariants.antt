use Rattle.std.proofs.Common.{◌≡◌, ◌++◌, map, drop, option_map}
use Rattle.asn1_leaf_values.specs.Arcs.{arc_numbers}
use Rattle.asn1_leaf_values.specs.TextValues.{arc_digits}
use Rattle.asn1_leaf_values.proofs.arcs.with_arcs.Given as goal

abbrev pub invariant-loop-arc : goal.invariant-loop-arc
invariant-loop-arc l =
    option_map (λ ns. l.initial.arcs-inside.items.items ++ ns) (arc_numbers (map arc_digits l.others))
    ≡ option_map (λ ns. l.arcs-inside.items.items ++ ns) (arc_numbers (map arc_digits (drop l.arc-index l.others)))
