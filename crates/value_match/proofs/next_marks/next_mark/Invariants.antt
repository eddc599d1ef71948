use Rattle.std.proofs.Common.{◌≡◌, drop}
use Rattle.term_values.specs.PartsView.{parts_listed}
use Rattle.term_values.specs.SlotsView.{slots_listed}
use Rattle.value_match.specs.MemberKeys.{slots_key}
use Rattle.value_match.proofs.next_marks.next_mark.Given as goal

abbrev pub invariant-loop-i : goal.invariant-loop-i
invariant-loop-i l =
    slots_key (parts_listed (drop l.from l.items)) (slots_listed (drop l.from l.slots))
    ≡ slots_key (parts_listed (drop l.i l.items)) (slots_listed (drop l.i l.slots))
