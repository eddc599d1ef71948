use Rattle.std.proofs.Common.{◌≡◌, drop}
use Rattle.term_values.specs.SameValue.{same_slots, same_values}
use Rattle.term_values.specs.SlotsView.{slots_listed}
use Rattle.term_values.specs.Typed.{listed}
use Rattle.term_values.proofs.comparing.+comparing.Given as goal

abbrev pub invariant-are_same_slots-loop-i : goal.invariant-are_same_slots-loop-i
invariant-are_same_slots-loop-i l =
    same_slots (slots_listed l.items) (slots_listed l.held)
    ≡ same_slots (slots_listed (drop l.i l.items)) (slots_listed (drop l.i l.held))

abbrev pub invariant-are_same_values-loop-i : goal.invariant-are_same_values-loop-i
invariant-are_same_values-loop-i l =
    same_values (listed l.items) (listed l.held) ≡ same_values (listed (drop l.i l.items)) (listed (drop l.i l.held))
