use Rattle.std.proofs.Common.{◌≡◌, ◌≤◌, ◌++◌, drop, reverse, None, length}
use Rattle.ber_tree.specs.Writing.{Extends}
use Rattle.term_values.specs.PartsView.{parts_listed}
use Rattle.term_values.specs.Rearranged.{joined}
use Rattle.term_values.specs.SlotsView.{slots_listed}
use Rattle.term_values.specs.Typed.{listed}
use Rattle.term_values.specs.ValueContents.{member_encodings}
use Rattle.term_values.specs.Written.{der_as, part_encodings}
use Rattle.ber_values.proofs.encoding.+encoding.Given as goal

abbrev pub invariant-write_values-loop-i : goal.invariant-write_values-loop-i
invariant-write_values-loop-i l =
    (l.into.items ≡ l.fn.into.items ++ reverse (joined (member_encodings (der_as None l.member) (listed
    (drop l.i l.items)))))
    × Extends l.fn.into.items l.into.items

abbrev pub invariant-write_parts-loop-i : goal.invariant-write_parts-loop-i
invariant-write_parts-loop-i l =
    (l.into.items
    ≡ l.fn.into.items ++ reverse (joined (part_encodings (parts_listed (drop l.i l.items)) (slots_listed
    (drop l.i l.present)))))
    × Extends l.fn.into.items l.into.items

abbrev pub invariant-component_encodings-loop-i : goal.invariant-component_encodings-loop-i
invariant-component_encodings-loop-i l =
    part_encodings (parts_listed l.items) (slots_listed l.present)
    ≡ l.found.items ++ part_encodings (parts_listed (drop l.i l.items)) (slots_listed (drop l.i l.present))
