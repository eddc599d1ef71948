use Rattle.std.proofs.Common.{◌≡◌, ◌+◌, ◌≤◌, zero, false, drop, length, option_map}
use Rattle.ber_values.specs.Left.{values_before, slots_before, left_of}
use Rattle.term_values.specs.Decoding.{picked_in, members_in, parts_in, unordered_in, denoted}
use Rattle.term_values.specs.PartsView.{parts_listed}
use Rattle.term_values.specs.Tree.{listed}
use Rattle.ber_values.proofs.decoding.+decoding.Given as goal

abbrev pub invariant-decode_choice-loop-k : goal.invariant-decode_choice-loop-k
invariant-decode_choice-loop-k l =
    picked_in l.k (parts_listed (drop l.k l.items)) l.tree ≡ picked_in zero (parts_listed l.items) l.tree

abbrev pub invariant-decode_members-loop-tree : goal.invariant-decode_members-loop-tree
invariant-decode_members-loop-tree l =
    members_in (denoted false l.member) (listed l.tree-items)
    ≡ option_map (values_before l.items.items) (members_in (denoted false l.member) (listed
    (drop l.tree-index l.tree-items)))

abbrev pub invariant-decode_parts-loop-part : goal.invariant-decode_parts-loop-part
invariant-decode_parts-loop-part l =
    (l.at ≤ length l.rest) × (parts_in (parts_listed l.part-items) (listed l.rest)
    ≡ option_map (slots_before l.items.items) (parts_in (parts_listed (drop l.part-index l.part-items)) (listed
    (drop l.at l.rest))))

abbrev pub invariant-decode_unordered-loop-part : goal.invariant-decode_unordered-loop-part
invariant-decode_unordered-loop-part l =
    (length l.taken.items ≡ length l.rest) × (unordered_in (parts_listed l.part-items) (listed l.rest)
    ≡ option_map (slots_before l.items.items)
    (unordered_in (parts_listed (drop l.part-index l.part-items)) (left_of l.taken.items l.rest)))
