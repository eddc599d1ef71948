use Rattle.std.proofs.Common.{rules, ◌≡◌, ◌≤◌, ◌+◌, ◌-◌, ◌++◌, ◌∷◌, [], drop, length, reverse, None, sym, ap, ◌∙◌}
use Rattle.std.proofs.Common.{arith}
use Rattle.std.proofs.lemmas.List.{append-nil, drop_more}
use Rattle.ber_tree.proofs.Extending.{extends_same, extends_trans}
use Rattle.ber_values.proofs.EncodingLaws.{all_passed, part_step, pick_past}
use Rattle.ber_values.specs.Components.{slot_octets}
use Rattle.term_values.specs.PartsView.{parts_listed}
use Rattle.term_values.specs.Rearranged.{joined}
use Rattle.term_values.specs.SlotsView.{slots_listed}
use Rattle.term_values.specs.Written.{der_as, part_encodings, pick_encoding}
use Rattle.ber_values.proofs.encoding.+encoding.Goals as goal

pub component_encodings-returns : goal.component_encodings-returns
component_encodings-returns t c =
    let xs = c.as_slice-items.result.now in
    let ys = c.as_slice-present.result.now in
    let parts : c.args.parts.now ≡ parts_listed xs = search rules in
    let slots : c.args.slots.now ≡ slots_listed ys = search rules in
    let none : part_encodings (parts_listed (drop c.loop-i.i xs)) (slots_listed (drop c.loop-i.i ys)) ≡ [] =
    all_passed xs ys c.loop-i.i (omega arith) in
    rw (parts, slots) (sym (c.loop-i.invariant ∙ ap (λ zs. c.loop-i.found.items ++ zs) none
    ∙ append-nil c.loop-i.found.items))

pub write_pick-returns-clause-written : goal.write_pick-returns-clause-written
write_pick-returns-clause-written t c =
    let parts : c.args.parts.now ≡ parts_listed c.as_slice-items.result.now = search rules in
    let none : pick_encoding (parts_listed c.as_slice-items.result.now) c.args.index c.args.value.now ≡ [] =
    pick_past c.as_slice-items.result.now c.args.index c.args.value.now (omega arith) in
    rw (parts, none) (search rules)

pub write_parts-loop-i-init : goal.write_parts-loop-i-init
write_parts-loop-i-init t c =
    let xs = c.as_slice-items.result.now in
    let ys = c.as_slice-present.result.now in
    let none : part_encodings (parts_listed (drop c.min-count.result xs)) (slots_listed
    (drop c.min-count.result ys)) ≡ [] =
    all_passed xs ys c.min-count.result (omega arith) in
    (rw none (sym (append-nil c.args.into.now.items)), extends_same c.args.into.now.items)

pub write_parts-loop-i-preserved : goal.write_parts-loop-i-preserved
write_parts-loop-i-preserved t c =
    let xs = c.as_slice-items.result.now in
    let ys = c.as_slice-present.result.now in
    let j = c.loop-i.i - 1 in
    let x = c.index-items-i.result in
    let y = c.index-present-i.result in
    let up : j + 1 ≡ c.loop-i.i = omega arith in
    let part : drop j xs ≡ x ∷ drop (j + 1) xs = drop_more xs j x (omega arith)
    ∙ ap (λ z. z ∷ drop (j + 1) xs) (search rules) in
    let slot : drop j ys ≡ y ∷ drop (j + 1) ys = drop_more ys j y (omega arith)
    ∙ ap (λ z. z ∷ drop (j + 1) ys) (search rules) in
    let before : c.loop-i.into.items ≡ c.args.into.now.items
    ++ reverse (joined (part_encodings (parts_listed (drop (j + 1) xs)) (slots_listed (drop (j + 1) ys)))) =
    rw up c.loop-i.invariant.0 in
    let after : c.write_slot.new.into.items ≡ c.loop-i.into.items
    ++ reverse (slot_octets x.default (der_as None x.syntax) y) = search rules in (
      part_step c.args.into.now.items c.loop-i.into.items c.write_slot.new.into.items xs ys j x y part slot before
          after,
      extends_trans c.args.into.now.items c.loop-i.into.items c.write_slot.new.into.items c.loop-i.invariant.1
          (search rules),
    )
