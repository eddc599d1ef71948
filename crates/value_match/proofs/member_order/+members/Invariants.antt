use Rattle.std.proofs.Common.{◌≡◌, ◌<◌, ℕ, drop}
use Rattle.term_values.specs.PartsView.{parts_listed}
use Rattle.term_values.specs.SlotsView.{slots_listed}
use Rattle.term_values.specs.Typed.{listed}
use Rattle.value_match.specs.MemberKeys.{component_key, member_key, slots_key, values_key}
use Rattle.value_match.specs.MemberOrder.{TellsOrder}
use Rattle.value_match.specs.declared.told.MemberOrder.{MemberOrder}
use Rattle.value_match.proofs.member_order.+members.Given as goal

abbrev pub invariant-order_of_values-loop-i : goal.invariant-order_of_values-loop-i
invariant-order_of_values-loop-i l =
    (told : MemberOrder) → TellsOrder told (values_key (member_key l.member) (listed (drop l.i l.items)))
    (values_key (member_key l.member) (listed (drop l.i l.other_items)))
    → TellsOrder told (values_key (member_key l.member) (listed l.items))
    (values_key (member_key l.member) (listed l.other_items))

abbrev pub invariant-order_of_slots-loop-i : goal.invariant-order_of_slots-loop-i
invariant-order_of_slots-loop-i l =
    (told : MemberOrder) → TellsOrder told (slots_key (parts_listed (drop l.i l.items)) (slots_listed
    (drop l.i l.present))) (slots_key (parts_listed (drop l.i l.items)) (slots_listed (drop l.i l.other_present)))
    → TellsOrder told (slots_key (parts_listed l.items) (slots_listed l.present))
    (slots_key (parts_listed l.items) (slots_listed l.other_present))

abbrev pub invariant-order_of_components-loop-turn : goal.invariant-order_of_components-loop-turn
invariant-order_of_components-loop-turn l =
    (m : ℕ) → m < l.from → component_key l.parts l.slots m ≡ component_key l.parts l.others m
