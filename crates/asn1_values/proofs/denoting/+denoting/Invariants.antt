use Rattle.std.proofs.Common.{◌≡◌, ◌≤◌, zero, length, drop, option_map}
use Rattle.ber_values.specs.Left.{values_before, slots_before}
use Rattle.term_values.specs.PartsView.{parts_listed}
use Rattle.asn1_values.specs.Denoted.{denoted, members_said, picked_said, components_said, reading_of, unordered_said}
use Rattle.asn1_leaf_values.specs.FirstNames.{arcs_named}
use Rattle.asn1_values.specs.Steps.{left_of}
use Rattle.asn1_leaf_values.specs.TextValues.{said, parts_said}
use Rattle.asn1_values.proofs.denoting.+denoting.Given as goal

abbrev pub invariant-denote_alternative-loop-k : goal.invariant-denote_alternative-loop-k
invariant-denote_alternative-loop-k g l =
    picked_said (reading_of g.F.FilterReading.reading (arcs_named l.names)) l.k (parts_listed (drop l.k l.items)) l.name (said l.text)
    ≡ picked_said (reading_of g.F.FilterReading.reading (arcs_named l.names)) zero (parts_listed l.items) l.name (said l.text)

abbrev pub invariant-denote_components-loop-part : goal.invariant-denote_components-loop-part
invariant-denote_components-loop-part g l = record {
  within : l.next ≤ length l.texts;
  same : components_said (reading_of g.F.FilterReading.reading (arcs_named l.names)) (parts_listed l.items) (parts_said l.texts)
      ≡ option_map (slots_before l.slots.items)
      (components_said (reading_of g.F.FilterReading.reading (arcs_named l.names))
      (parts_listed (drop l.part-index l.items)) (parts_said (drop l.next l.texts)));
}

abbrev pub invariant-denote_members-loop-part : goal.invariant-denote_members-loop-part
invariant-denote_members-loop-part g l =
    members_said (denoted (reading_of g.F.FilterReading.reading (arcs_named l.names)) l.member) (parts_said l.texts)
    ≡ option_map (values_before l.items.items) (members_said (denoted (reading_of g.F.FilterReading.reading (arcs_named l.names)) l.member)
    (parts_said (drop l.part-index l.texts)))

abbrev pub invariant-denote_unordered-loop-part : goal.invariant-denote_unordered-loop-part
invariant-denote_unordered-loop-part g l = record {
  long : length l.taken.items ≡ length l.texts;
  same : unordered_said (reading_of g.F.FilterReading.reading (arcs_named l.names)) (parts_listed l.items) (parts_said l.texts)
      ≡ option_map (slots_before l.slots.items)
      (unordered_said (reading_of g.F.FilterReading.reading (arcs_named l.names))
      (parts_listed (drop l.part-index l.items)) (left_of l.taken.items l.texts));
}
