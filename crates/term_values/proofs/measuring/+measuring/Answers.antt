use Rattle.std.proofs.Common.{rules, ◌≡◌, ◌+◌, ◌-◌, ◌∷◌, [], drop, None, true, sym, ap, ◌∙◌, arith, refl}
use Rattle.std.proofs.lemmas.List.{drop_more}
use Rattle.term_values.proofs.ComponentLaws.{all_passed, part_counts, pick_past}
use Rattle.term_values.proofs.LengthCounts.{rising_counts}
use Rattle.term_values.specs.Lengths.{octet_count}
use Rattle.term_values.specs.Der.{encoded}
use Rattle.term_values.specs.PartsView.{parts_listed}
use Rattle.term_values.specs.Rearranged.{joined, rising}
use Rattle.term_values.specs.SlotsView.{slots_listed}
use Rattle.term_values.specs.Syntaxes.TypeSyntax.{SequenceOf, SetOf}
use Rattle.term_values.specs.ValueContents.{of_parts, of_members}
use Rattle.term_values.specs.Written.{der_as, part_encodings, pick_encoding}
use Rattle.term_values.proofs.measuring.+measuring.Goals as goal

pub measure_tagged-returns : goal.measure_tagged-returns
measure_tagged-returns t c =
    c.with_header.ensures (der_as None c.args.inner.now c.args.value.now) c.measure_as-contents.ensures

pub measure_sequence-returns : goal.measure_sequence-returns
measure_sequence-returns t c =
    c.with_header.ensures (joined (of_parts (part_encodings c.args.parts.now) c.args.value.now))
    c.measure_components-contents.ensures

pub measure_set-returns : goal.measure_set-returns
measure_set-returns t c =
    c.with_header.ensures (joined (rising (of_parts (part_encodings c.args.parts.now) c.args.value.now)))
    (c.measure_components-contents.ensures
    ∙ sym (rising_counts (of_parts (part_encodings c.args.parts.now) c.args.value.now)))

pub measure_list-returns : goal.measure_list-returns
measure_list-returns t c =
    c.with_header.ensures (joined (of_members (der_as None c.args.member.now) c.args.value.now))
    c.measure_members-contents.ensures

pub measure_parts-loop-i-init : goal.measure_parts-loop-i-init
measure_parts-loop-i-init t c =
    let xs = c.as_slice-items.result.now in
    let ys = c.as_slice-present.result.now in
    let none : part_encodings (parts_listed (drop c.min-count.result xs)) (slots_listed
    (drop c.min-count.result ys)) ≡ [] =
    all_passed xs ys c.min-count.result (omega arith) in
    rw none refl

pub measure_parts-loop-i-preserved : goal.measure_parts-loop-i-preserved
measure_parts-loop-i-preserved t c =
    let xs = c.as_slice-items.result.now in
    let ys = c.as_slice-present.result.now in
    let j = c.loop-i.i - 1 in
    let x = c.index-items-i.result in
    let y = c.index-present-i.result in
    let up : j + 1 ≡ c.loop-i.i = omega arith in
    let part : drop j xs ≡ x ∷ drop (j + 1) xs = drop_more xs j x (omega arith)
    ∙ ap (λ z. z ∷ drop (j + 1) xs) (search rules) in
    let slot : drop j ys ≡ y ∷ drop (j + 1) ys = drop_more ys j y (omega arith)
    ∙ ap (λ z. z ∷ drop (j + 1) ys) (search rules) in
    let before : c.loop-i.total ≡ octet_count (joined (part_encodings (parts_listed (drop (j + 1) xs))
    (slots_listed (drop (j + 1) ys)))) = rw up c.loop-i.invariant in
    c.plus-total.ensures
    ∙ part_counts xs ys j x y c.measure_slot.result c.loop-i.total part slot c.measure_slot.ensures before

pub measure_pick-returns : goal.measure_pick-returns
measure_pick-returns t c =
    let parts : c.args.parts.now ≡ parts_listed c.as_slice-items.result.now = search rules in
    let none : pick_encoding (parts_listed c.as_slice-items.result.now) c.args.index c.args.value.now ≡ [] =
    pick_past c.as_slice-items.result.now c.args.index c.args.value.now (omega arith) in
    rw (parts, none) refl

pub measure_as-returns-in-ListOf : goal.measure_as-returns-in-ListOf
measure_as-returns-in-ListOf t c =
    let syntax : c.args.syntax.now ≡ SequenceOf c.in-ListOf.member.value c.in-ListOf.field-1 = search rules in
    rw (syntax, sym c.deref.ensures) (c.measure_list.ensures
    ∙ ap (λ x. octet_count (encoded true x (joined (of_members (der_as None c.deref.result.now) c.args.value.now))))
    c.due-in-ListOf.ensures)

pub measure_as-returns-in-SetOf : goal.measure_as-returns-in-SetOf
measure_as-returns-in-SetOf t c =
    let syntax : c.args.syntax.now ≡ SetOf c.in-SetOf.member.value c.in-SetOf.field-1 = search rules in
    rw (syntax, sym c.deref-in-SetOf.ensures) (c.measure_list-in-SetOf.ensures
    ∙ ap (λ x. octet_count (encoded true x (joined (of_members (der_as None c.deref-in-SetOf.result.now)
    c.args.value.now))))
    c.due-in-SetOf.ensures)
