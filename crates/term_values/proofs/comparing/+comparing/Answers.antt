use Rattle.std.proofs.Common.{rules, ◌≡◌, ◌≢◌, length, sym}
use Rattle.term_values.proofs.SameLaws.{unequal_slots, unequal_values}
use Rattle.term_values.specs.SlotsView.{slots_listed}
use Rattle.term_values.specs.Typed.{listed}
use Rattle.term_values.proofs.comparing.+comparing.Goals as goal

pub are_same_slots-returns-then-items-held : goal.are_same_slots-returns-then-items-held
are_same_slots-returns-then-items-held t c =
    let slots : c.args.slots.now ≡ slots_listed c.as_slice-items.result.now = search rules in
    let other : c.args.other.now ≡ slots_listed c.as_slice-held.result.now = search rules in
    let unequal : length c.as_slice-items.result.now ≢ length c.as_slice-held.result.now = search rules in
    rw (slots, other) (sym (unequal_slots c.as_slice-items.result.now c.as_slice-held.result.now unequal))

pub are_same_values-returns-then-items-held : goal.are_same_values-returns-then-items-held
are_same_values-returns-then-items-held t c =
    let values : c.args.values.now ≡ listed c.as_slice-items.result.now = search rules in
    let other : c.args.other.now ≡ listed c.as_slice-held.result.now = search rules in
    let unequal : length c.as_slice-items.result.now ≢ length c.as_slice-held.result.now = search rules in
    rw (values, other) (sym (unequal_values c.as_slice-items.result.now c.as_slice-held.result.now unequal))
