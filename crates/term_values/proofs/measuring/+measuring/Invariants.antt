use Rattle.std.proofs.Common.{◌≡◌, drop, None}
use Rattle.term_values.specs.Lengths.{octet_count}
use Rattle.term_values.specs.PartsView.{parts_listed}
use Rattle.term_values.specs.Rearranged.{joined}
use Rattle.term_values.specs.SlotsView.{slots_listed}
use Rattle.term_values.specs.Typed.{listed}
use Rattle.term_values.specs.ValueContents.{member_encodings}
use Rattle.term_values.specs.Written.{der_as, part_encodings}
use Rattle.term_values.proofs.measuring.+measuring.Given as goal

abbrev pub invariant-measure_values-loop-i : goal.invariant-measure_values-loop-i
invariant-measure_values-loop-i l =
    l.total ≡ octet_count (joined (member_encodings (der_as None l.member) (listed (drop l.i l.items))))

abbrev pub invariant-measure_parts-loop-i : goal.invariant-measure_parts-loop-i
invariant-measure_parts-loop-i l =
    l.total
    ≡ octet_count (joined (part_encodings (parts_listed (drop l.i l.items)) (slots_listed (drop l.i l.present))))
