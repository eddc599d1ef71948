use Rattle.std.proofs.Common.{◌≡◌, drop, option_map}
use Rattle.ber_values.specs.Left.{values_before}
use Rattle.asn1_values.specs.Filters.{each_said}
use Rattle.asn1_leaf_values.specs.FirstNames.{arcs_named}
use Rattle.asn1_leaf_values.specs.TextValues.{parts_said}
use Rattle.asn1_values.proofs.filtering.+filtering.Given as goal

abbrev pub invariant-read_each-loop-part : goal.invariant-read_each-loop-part
invariant-read_each-loop-part l =
    each_said (arcs_named l.names) (parts_said l.texts)
    ≡ option_map (values_before l.items.items) (each_said (arcs_named l.names) (parts_said (drop l.part-index l.texts)))
