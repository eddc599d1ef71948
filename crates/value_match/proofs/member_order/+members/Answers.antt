use Rattle.std.proofs.Common.{rules, ◌≡◌, ◌<◌, ◌+◌, Fits, w64, refl, [], ◌∷◌, drop, get_or, None, Some, sym, ap, ◌∙◌}
use Rattle.std.proofs.Common.{subst, arith}
use Rattle.std.proofs.lemmas.List.{drop_more, get_or_default}
use Rattle.term_values.specs.PartsView.{parts_listed}
use Rattle.term_values.specs.SlotsView.{slots_listed}
use Rattle.term_values.specs.Syntaxes.TypeSyntax.{Sequence, SetType, SequenceOf, SetOf}
use Rattle.term_values.specs.Typed.{listed}
use Rattle.term_values.specs.Typed.TypedValue.{Parts, Many}
use Rattle.term_values.specs.declared.syntax.Part.{Part}
use Rattle.term_values.specs.declared.value.Slot.TheVariants.{Present}
use Rattle.value_match.specs.declared.told.MemberOrder.TheVariants.{Before, Alike, After}
use Rattle.value_match.proofs.KeyLaws.{key_of, list_key, sequence_key, set_key, unordered_key, values_front, values_end}
use Rattle.value_match.proofs.KeyLaws.{slots_front, slots_end, front_before, front_after, front_alike}
use Rattle.value_match.specs.Marks.{mark_as}
use Rattle.value_match.specs.FirstSizes.{first_size, pick_size}
use Rattle.value_match.specs.MemberKeys.{component_key, member_key, pick_key}
use Rattle.value_match.proofs.OrderLaws.{before_first, tells_as, tells_behind, tells_lists}
use Rattle.value_match.proofs.SetLaws.{agree_below, agree_next, alone_before, whole_before, whole_same}
use Rattle.value_match.proofs.SizeLaws.{size_of}
use Rattle.value_match.proofs.member_order.+members.Goals as goal

pub order_of_values-returns-in-Before : goal.order_of_values-returns-in-Before
order_of_values-returns-in-Before t c =
    let xs = c.as_slice-items.result.now in
    let ys = c.as_slice-other_items.result.now in
    let i = c.loop-i.i in
    let x = c.index-items-i.result in
    let y = c.index-other_items-i.result in
    let member = c.args.member.now in
    let values : c.args.values.now ≡ listed xs = search rules in
    let others : c.args.others.now ≡ listed ys = search rules in
    let first : drop i xs ≡ x ∷ drop (i + 1) xs = drop_more xs i x (omega arith)
    ∙ ap (λ z. z ∷ drop (i + 1) xs) (search rules) in
    let second : drop i ys ≡ y ∷ drop (i + 1) ys = drop_more ys i y (omega arith)
    ∙ ap (λ z. z ∷ drop (i + 1) ys) (search rules) in
    rw (values, others) (c.loop-i.invariant Before (front_before _ _ _ _ _ _ (values_front member i xs x first)
    (values_front member i ys y second) c.in-Before.ensures))

pub order_of_values-returns-in-After : goal.order_of_values-returns-in-After
order_of_values-returns-in-After t c =
    let xs = c.as_slice-items.result.now in
    let ys = c.as_slice-other_items.result.now in
    let i = c.loop-i.i in
    let x = c.index-items-i.result in
    let y = c.index-other_items-i.result in
    let member = c.args.member.now in
    let values : c.args.values.now ≡ listed xs = search rules in
    let others : c.args.others.now ≡ listed ys = search rules in
    let first : drop i xs ≡ x ∷ drop (i + 1) xs = drop_more xs i x (omega arith)
    ∙ ap (λ z. z ∷ drop (i + 1) xs) (search rules) in
    let second : drop i ys ≡ y ∷ drop (i + 1) ys = drop_more ys i y (omega arith)
    ∙ ap (λ z. z ∷ drop (i + 1) ys) (search rules) in
    rw (values, others) (c.loop-i.invariant After (front_after _ _ _ _ _ _ (values_front member i xs x first)
    (values_front member i ys y second) c.in-After.ensures))

pub order_of_values-loop-i-preserved : goal.order_of_values-loop-i-preserved
order_of_values-loop-i-preserved t c told h =
    let xs = c.as_slice-items.result.now in
    let ys = c.as_slice-other_items.result.now in
    let i = c.loop-i.i in
    let x = c.index-items-i.result in
    let y = c.index-other_items-i.result in
    let member = c.args.member.now in
    let first : drop i xs ≡ x ∷ drop (i + 1) xs = drop_more xs i x (omega arith)
    ∙ ap (λ z. z ∷ drop (i + 1) xs) (search rules) in
    let second : drop i ys ≡ y ∷ drop (i + 1) ys = drop_more ys i y (omega arith)
    ∙ ap (λ z. z ∷ drop (i + 1) ys) (search rules) in
    c.loop-i.invariant told (front_alike told _ _ _ _ _ _ (values_front member i xs x first)
    (values_front member i ys y second) c.in-Alike.ensures h)

pub order_of_values-returns-then-items-other_items : goal.order_of_values-returns-then-items-other_items
order_of_values-returns-then-items-other_items t c =
    let xs = c.as_slice-items.result.now in
    let ys = c.as_slice-other_items.result.now in
    let values : c.args.values.now ≡ listed xs = search rules in
    let others : c.args.others.now ≡ listed ys = search rules in
    rw (values, others) (c.loop-i.invariant Alike (values_end c.args.member.now c.loop-i.i xs ys (omega arith)
    (omega arith)))

pub order_of_slots-returns-in-Before : goal.order_of_slots-returns-in-Before
order_of_slots-returns-in-Before t c =
    let xs = c.as_slice-items.result.now in
    let ys = c.as_slice-present.result.now in
    let zs = c.as_slice-other_present.result.now in
    let i = c.loop-i.i in
    let x = c.index-items-i.result in
    let y = c.index-present-i.result in
    let z = c.index-other_present-i.result in
    let parts : c.args.parts.now ≡ parts_listed xs = search rules in
    let slots : c.args.slots.now ≡ slots_listed ys = search rules in
    let others : c.args.others.now ≡ slots_listed zs = search rules in
    let part : drop i xs ≡ x ∷ drop (i + 1) xs = drop_more xs i x (omega arith)
    ∙ ap (λ w. w ∷ drop (i + 1) xs) (search rules) in
    let first : drop i ys ≡ y ∷ drop (i + 1) ys = drop_more ys i y (omega arith)
    ∙ ap (λ w. w ∷ drop (i + 1) ys) (search rules) in
    let second : drop i zs ≡ z ∷ drop (i + 1) zs = drop_more zs i z (omega arith)
    ∙ ap (λ w. w ∷ drop (i + 1) zs) (search rules) in
    rw (parts, slots, others) (c.loop-i.invariant Before (front_before _ _ _ _ _ _ (slots_front i xs ys x y part first)
    (slots_front i xs zs x z part second) c.in-Before.ensures))

pub order_of_slots-returns-in-After : goal.order_of_slots-returns-in-After
order_of_slots-returns-in-After t c =
    let xs = c.as_slice-items.result.now in
    let ys = c.as_slice-present.result.now in
    let zs = c.as_slice-other_present.result.now in
    let i = c.loop-i.i in
    let x = c.index-items-i.result in
    let y = c.index-present-i.result in
    let z = c.index-other_present-i.result in
    let parts : c.args.parts.now ≡ parts_listed xs = search rules in
    let slots : c.args.slots.now ≡ slots_listed ys = search rules in
    let others : c.args.others.now ≡ slots_listed zs = search rules in
    let part : drop i xs ≡ x ∷ drop (i + 1) xs = drop_more xs i x (omega arith)
    ∙ ap (λ w. w ∷ drop (i + 1) xs) (search rules) in
    let first : drop i ys ≡ y ∷ drop (i + 1) ys = drop_more ys i y (omega arith)
    ∙ ap (λ w. w ∷ drop (i + 1) ys) (search rules) in
    let second : drop i zs ≡ z ∷ drop (i + 1) zs = drop_more zs i z (omega arith)
    ∙ ap (λ w. w ∷ drop (i + 1) zs) (search rules) in
    rw (parts, slots, others) (c.loop-i.invariant After (front_after _ _ _ _ _ _ (slots_front i xs ys x y part first)
    (slots_front i xs zs x z part second) c.in-After.ensures))

pub order_of_slots-loop-i-preserved : goal.order_of_slots-loop-i-preserved
order_of_slots-loop-i-preserved t c told h =
    let xs = c.as_slice-items.result.now in
    let ys = c.as_slice-present.result.now in
    let zs = c.as_slice-other_present.result.now in
    let i = c.loop-i.i in
    let x = c.index-items-i.result in
    let y = c.index-present-i.result in
    let z = c.index-other_present-i.result in
    let part : drop i xs ≡ x ∷ drop (i + 1) xs = drop_more xs i x (omega arith)
    ∙ ap (λ w. w ∷ drop (i + 1) xs) (search rules) in
    let first : drop i ys ≡ y ∷ drop (i + 1) ys = drop_more ys i y (omega arith)
    ∙ ap (λ w. w ∷ drop (i + 1) ys) (search rules) in
    let second : drop i zs ≡ z ∷ drop (i + 1) zs = drop_more zs i z (omega arith)
    ∙ ap (λ w. w ∷ drop (i + 1) zs) (search rules) in
    c.loop-i.invariant told (front_alike told _ _ _ _ _ _ (slots_front i xs ys x y part first)
    (slots_front i xs zs x z part second) c.in-Alike.ensures h)

pub order_of_slots-returns-in-Untold : goal.order_of_slots-returns-in-Untold
order_of_slots-returns-in-Untold t c =
    let xs = c.as_slice-items.result.now in
    let ys = c.as_slice-present.result.now in
    let zs = c.as_slice-other_present.result.now in
    let parts : c.args.parts.now ≡ parts_listed xs = search rules in
    let slots : c.args.slots.now ≡ slots_listed ys = search rules in
    let others : c.args.others.now ≡ slots_listed zs = search rules in
    rw (parts, slots, others) (c.loop-i.invariant c.order_of_next.result c.order_of_next.ensures)

pub order_of_slots-returns : goal.order_of_slots-returns
order_of_slots-returns t c =
    let xs = c.as_slice-items.result.now in
    let ys = c.as_slice-present.result.now in
    let zs = c.as_slice-other_present.result.now in
    let i = c.loop-i.i in
    let parts : c.args.parts.now ≡ parts_listed xs = search rules in
    let slots : c.args.slots.now ≡ slots_listed ys = search rules in
    let others : c.args.others.now ≡ slots_listed zs = search rules in
    rw (parts, slots, others) (c.loop-i.invariant Alike (slots_end xs ys i (omega arith)
    ∙ sym (slots_end xs zs i (omega arith))))

pub order_of_marked-returns : goal.order_of_marked-returns
order_of_marked-returns t c =
    let s = c.args.syntax.now in
    let v = c.args.value.now in
    let w = c.args.other.now in
    c.order_then.ensures (mark_as None s v ∷ []) (mark_as None s w ∷ []) (member_key s v) (member_key s w)
    (tells_as c.order_of_numbers.result c.mark_of-mark.result (mark_as None s v) c.mark_of-other_mark.result
    (mark_as None s w) c.mark_of-mark.ensures c.mark_of-other_mark.ensures c.order_of_numbers.ensures)
    c.order_of_members.ensures

pub order_of_tagged-returns-then-size-other_size : goal.order_of_tagged-returns-then-size-other_size
order_of_tagged-returns-then-size-other_size t c = before_first c.args.size c.args.other_size _ _ (omega arith)

pub order_of_tagged-returns-then-other_size-size : goal.order_of_tagged-returns-then-other_size-size
order_of_tagged-returns-then-other_size-size t c = before_first c.args.other_size c.args.size _ _ (omega arith)

pub order_of_tagged-returns : goal.order_of_tagged-returns
order_of_tagged-returns t c =
    tells_behind c.order_of_members.result c.args.size c.args.other_size _ _ (omega arith) c.order_of_members.ensures

pub order_of_sequences-returns-then-size-other_size : goal.order_of_sequences-returns-then-size-other_size
order_of_sequences-returns-then-size-other_size t c = before_first c.args.size c.args.other_size _ _ (omega arith)

pub order_of_sequences-returns-then-other_size-size : goal.order_of_sequences-returns-then-other_size-size
order_of_sequences-returns-then-other_size-size t c = before_first c.args.other_size c.args.size _ _ (omega arith)

pub order_of_sequences-returns : goal.order_of_sequences-returns
order_of_sequences-returns t c =
    tells_behind c.order_of_slots.result c.args.size c.args.other_size _ _ (omega arith) c.order_of_slots.ensures

pub order_of_sets-returns-then-size-other_size : goal.order_of_sets-returns-then-size-other_size
order_of_sets-returns-then-size-other_size t c = before_first c.args.size c.args.other_size _ _ (omega arith)

pub order_of_sets-returns-then-other_size-size : goal.order_of_sets-returns-then-other_size-size
order_of_sets-returns-then-other_size-size t c = before_first c.args.other_size c.args.size _ _ (omega arith)

pub order_of_sets-returns : goal.order_of_sets-returns
order_of_sets-returns t c =
    tells_behind c.order_of_components.result c.args.size c.args.other_size _ _ (omega arith)
    c.order_of_components.ensures

pub order_of_lists-returns-then-size-other_size : goal.order_of_lists-returns-then-size-other_size
order_of_lists-returns-then-size-other_size t c = before_first c.args.size c.args.other_size _ _ (omega arith)

pub order_of_lists-returns-then-other_size-size : goal.order_of_lists-returns-then-other_size-size
order_of_lists-returns-then-other_size-size t c = before_first c.args.other_size c.args.size _ _ (omega arith)

pub order_of_lists-returns : goal.order_of_lists-returns
order_of_lists-returns t c =
    tells_behind c.order_of_values.result c.args.size c.args.other_size _ _ (omega arith) c.order_of_values.ensures

pub order_of_picks-returns-then-first-second : goal.order_of_picks-returns-then-first-second
order_of_picks-returns-then-first-second t c size other_size =
    let xs = c.as_slice-items.result.now in
    let p = c.index-items-first.result in
    let q = c.index-items-second.result in
    let v = c.args.value.now in
    let w = c.args.other.now in
    let parts : c.args.parts.now ≡ parts_listed xs = search rules in
    let same : c.args.index ≡ c.args.other_index = omega arith in
    let there : get_or xs c.args.index p ≡ p = search rules in
    let other_there : get_or xs c.args.other_index q ≡ q = search rules in
    let measured : c.args.size ≡ first_size p.syntax v = size
    ∙ ap (λ z. pick_size z c.args.index v) parts
    ∙ size_of xs c.args.index p v (omega arith) there in
    let other_measured : c.args.other_size ≡ first_size p.syntax w = other_size
    ∙ ap (λ k. pick_size c.args.parts.now k w) (sym same)
    ∙ ap (λ z. pick_size z c.args.index w) parts
    ∙ size_of xs c.args.index p w (omega arith) there in
    let part : q ≡ p = sym other_there ∙ ap (λ k. get_or xs k q) (sym same)
    ∙ get_or_default xs c.args.index q p (omega arith) ∙ there in
    let one = key_of xs c.args.index p v (omega arith) there in
    let two = subst (λ k. pick_key (parts_listed xs) k w ≡ mark_as None p.syntax w ∷ member_key p.syntax w) same
    (key_of xs c.args.index p w (omega arith) there) in
    rw parts (tells_lists c.order_then.result _ _ _ _ (sym one) (sym two) (c.order_then.ensures
    (mark_as None p.syntax v ∷ []) (mark_as None p.syntax w ∷ []) (member_key p.syntax v) (member_key p.syntax w)
    (tells_as c.order_of_numbers-marks.result c.mark_of-mark.result (mark_as None p.syntax v)
    c.mark_of-other_mark.result (mark_as None p.syntax w) c.mark_of-mark.ensures
    (c.mark_of-other_mark.ensures ∙ ap (λ (z : Part). mark_as None z.syntax w) part) c.order_of_numbers-marks.ensures)
    (c.order_of_measured-behind.ensures measured other_measured)))

pub order_of_picks-returns : goal.order_of_picks-returns
order_of_picks-returns t c size other_size =
    let xs = c.as_slice-items.result.now in
    let p = c.index-items-first.result in
    let q = c.index-items-second.result in
    let v = c.args.value.now in
    let w = c.args.other.now in
    let parts : c.args.parts.now ≡ parts_listed xs = search rules in
    let one = key_of xs c.args.index p v (omega arith) (search rules) in
    let two = key_of xs c.args.other_index q w (omega arith) (search rules) in
    rw parts (tells_lists c.order_then-2.result _ _ _ _ (sym one) (sym two)
    (c.order_then-2.ensures (mark_as None p.syntax v ∷ []) (mark_as None q.syntax w ∷ []) (member_key p.syntax v)
    (member_key q.syntax w) (tells_as c.order_of_numbers-marks.result c.mark_of-mark.result (mark_as None p.syntax v)
    c.mark_of-other_mark.result (mark_as None q.syntax w) c.mark_of-mark.ensures c.mark_of-other_mark.ensures
    c.order_of_numbers-marks.ensures) tt))

pub order_of_measured-returns-in-Parts-Parts : goal.order_of_measured-returns-in-Parts-Parts
order_of_measured-returns-in-Parts-Parts t c size other_size =
    let m = c.args.member.now in
    let v = c.args.value.now in
    let w = c.args.other.now in
    let parts = c.in-Seq.parts in
    let slots = c.in-Parts-Parts.slots in
    let others = c.in-Parts-Parts.others in
    let syntax : m ≡ Sequence parts = search rules in
    let first : v ≡ Parts slots = search rules in
    let second : w ≡ Parts others = search rules in
    tells_lists c.order_of_sequences.result _ _ _ _ (sequence_key m v parts slots c.args.size syntax first size)
    (sequence_key m w parts others c.args.other_size syntax second other_size) c.order_of_sequences.ensures

pub order_of_measured-returns-in-Parts-Parts-2 : goal.order_of_measured-returns-in-Parts-Parts-2
order_of_measured-returns-in-Parts-Parts-2 t c size other_size =
    let m = c.args.member.now in
    let v = c.args.value.now in
    let w = c.args.other.now in
    let parts = c.in-Unordered.parts in
    let slots = c.in-Parts-Parts-2.slots in
    let others = c.in-Parts-Parts-2.others in
    let syntax : m ≡ SetType parts = search rules in
    let first : v ≡ Parts slots = search rules in
    let second : w ≡ Parts others = search rules in
    tells_lists c.order_of_sets.result _ _ _ _ (unordered_key m v parts slots c.args.size syntax first size)
    (unordered_key m w parts others c.args.other_size syntax second other_size) c.order_of_sets.ensures

pub order_of_measured-returns-in-Many-Many : goal.order_of_measured-returns-in-Many-Many
order_of_measured-returns-in-Many-Many t c size other_size =
    let m = c.args.member.now in
    let v = c.args.value.now in
    let w = c.args.other.now in
    let sizes = c.in-ListOf.field-1 in
    let of = c.deref-in-Many-Many.result.now in
    let values = c.in-Many-Many.values in
    let others = c.in-Many-Many.others in
    let beneath : m ≡ SequenceOf c.in-ListOf.of.value sizes = search rules in
    let syntax : m ≡ SequenceOf of sizes = beneath ∙ ap (λ x. SequenceOf x sizes) (sym c.deref-in-Many-Many.ensures) in
    let first : v ≡ Many values = search rules in
    let second : w ≡ Many others = search rules in
    tells_lists c.order_of_lists.result _ _ _ _ (list_key m of v sizes values c.args.size syntax first size)
    (list_key m of w sizes others c.args.other_size syntax second other_size) c.order_of_lists.ensures

pub order_of_measured-returns-in-Many-Many-2 : goal.order_of_measured-returns-in-Many-Many-2
order_of_measured-returns-in-Many-Many-2 t c size other_size =
    let m = c.args.member.now in
    let v = c.args.value.now in
    let w = c.args.other.now in
    let sizes = c.in-SetOf.field-1 in
    let of = c.deref-in-Many-Many-2.result.now in
    let values = c.in-Many-Many-2.values in
    let others = c.in-Many-Many-2.others in
    let beneath : m ≡ SetOf c.in-SetOf.of.value sizes = search rules in
    let syntax : m ≡ SetOf of sizes = beneath ∙ ap (λ x. SetOf x sizes) (sym c.deref-in-Many-Many-2.ensures) in
    let first : v ≡ Many values = search rules in
    let second : w ≡ Many others = search rules in
    tells_lists c.order_of_lists-in-Many-Many-2.result _ _ _ _
    (set_key m of v sizes values c.args.size syntax first size)
    (set_key m of w sizes others c.args.other_size syntax second other_size) c.order_of_lists-in-Many-Many-2.ensures

pub order_at-returns-in-None-place_of_mark-2 : goal.order_at-returns-in-None-place_of_mark-2
order_at-returns-in-None-place_of_mark-2 t c =
    let xs = c.as_slice-items.result.now in
    let ys = c.as_slice-present.result.now in
    let zs = c.as_slice-other_present.result.now in
    let parts : c.args.parts.now ≡ parts_listed xs = search rules in
    let slots : c.args.slots.now ≡ slots_listed ys = search rules in
    let others : c.args.others.now ≡ slots_listed zs = search rules in
    rw (parts, slots, others) (alone_before _ _ c.in-Some.ensures.2 c.in-None-place_of_mark-2.ensures)

pub order_at-returns-in-Some-place_of_mark : goal.order_at-returns-in-Some-place_of_mark
order_at-returns-in-Some-place_of_mark t c =
    let xs = c.as_slice-items.result.now in
    let ys = c.as_slice-present.result.now in
    let zs = c.as_slice-other_present.result.now in
    let parts : c.args.parts.now ≡ parts_listed xs = search rules in
    let slots : c.args.slots.now ≡ slots_listed ys = search rules in
    let others : c.args.others.now ≡ slots_listed zs = search rules in
    rw (parts, slots, others) (alone_before _ _ c.in-Some-place_of_mark.ensures.2 c.in-None.ensures)

pub order_of_found-returns-in-Present-other : goal.order_of_found-returns-in-Present-other
order_of_found-returns-in-Present-other t c =
    let first : c.args.slot.now ≡ Present c.in-Present.value = search rules in
    let second : c.args.other.now ≡ Present c.in-Present-other.held = search rules in
    rw (first, second) (tells_behind c.order_of_members.result 0 0 _ _ refl c.order_of_members.ensures)

pub order_of_components-loop-turn-preserved : goal.order_of_components-loop-turn-preserved
order_of_components-loop-turn-preserved t c =
    let xs = c.as_slice-items.result.now in
    let ys = c.as_slice-present.result.now in
    let zs = c.as_slice-other_present.result.now in
    let p = c.args.parts.now in
    let s = c.args.slots.now in
    let o = c.args.others.now in
    let parts : p ≡ parts_listed xs = search rules in
    let slots : s ≡ slots_listed ys = search rules in
    let others : o ≡ slots_listed zs = search rules in
    let mark = c.in-Some.mark in
    let next : c.in-Some-checked_add.next ≡ mark + 1 = c.in-Some-checked_add.ensures.1 in
    let same = agree_below p s o xs ys zs c.loop-turn.from (Some mark) parts slots others
    c.loop-turn.invariant c.in-Some.ensures.first c.in-Some.ensures.second in
    agree_next (component_key p s) (component_key p o) mark c.in-Some-checked_add.next next same c.in-Alike.ensures

pub order_of_components-returns-in-None : goal.order_of_components-returns-in-None
order_of_components-returns-in-None t c =
    let xs = c.as_slice-items.result.now in
    let ys = c.as_slice-present.result.now in
    let zs = c.as_slice-other_present.result.now in
    let p = c.args.parts.now in
    let s = c.args.slots.now in
    let o = c.args.others.now in
    let parts : p ≡ parts_listed xs = search rules in
    let slots : s ≡ slots_listed ys = search rules in
    let others : o ≡ slots_listed zs = search rules in
    let same = agree_below p s o xs ys zs c.loop-turn.from None parts slots others
    c.loop-turn.invariant c.in-None.ensures.first c.in-None.ensures.second in
    whole_same (component_key p s) (component_key p o) (λ m. same m tt)

pub order_of_components-returns-in-Before : goal.order_of_components-returns-in-Before
order_of_components-returns-in-Before t c =
    let xs = c.as_slice-items.result.now in
    let ys = c.as_slice-present.result.now in
    let zs = c.as_slice-other_present.result.now in
    let p = c.args.parts.now in
    let s = c.args.slots.now in
    let o = c.args.others.now in
    let parts : p ≡ parts_listed xs = search rules in
    let slots : s ≡ slots_listed ys = search rules in
    let others : o ≡ slots_listed zs = search rules in
    let mark = c.in-Some.mark in
    let fits : Fits w64 mark = search rules in
    let small : mark < 18446744073709551616 = omega (arith, fits) in
    let same = agree_below p s o xs ys zs c.loop-turn.from (Some mark) parts slots others
    c.loop-turn.invariant c.in-Some.ensures.first c.in-Some.ensures.second in
    whole_before (component_key p s) (component_key p o) mark small same c.in-Before.ensures

pub order_of_components-returns-in-After : goal.order_of_components-returns-in-After
order_of_components-returns-in-After t c =
    let xs = c.as_slice-items.result.now in
    let ys = c.as_slice-present.result.now in
    let zs = c.as_slice-other_present.result.now in
    let p = c.args.parts.now in
    let s = c.args.slots.now in
    let o = c.args.others.now in
    let parts : p ≡ parts_listed xs = search rules in
    let slots : s ≡ slots_listed ys = search rules in
    let others : o ≡ slots_listed zs = search rules in
    let mark = c.in-Some.mark in
    let fits : Fits w64 mark = search rules in
    let small : mark < 18446744073709551616 = omega (arith, fits) in
    let same = agree_below p s o xs ys zs c.loop-turn.from (Some mark) parts slots others
    c.loop-turn.invariant c.in-Some.ensures.first c.in-Some.ensures.second in
    whole_before (component_key p o) (component_key p s) mark small (λ m less. sym (same m less)) c.in-After.ensures

pub order_of_components-returns-in-None-least_of_both : goal.order_of_components-returns-in-None-least_of_both
order_of_components-returns-in-None-least_of_both t c =
    let xs = c.as_slice-items.result.now in
    let ys = c.as_slice-present.result.now in
    let zs = c.as_slice-other_present.result.now in
    let p = c.args.parts.now in
    let s = c.args.slots.now in
    let o = c.args.others.now in
    let parts : p ≡ parts_listed xs = search rules in
    let slots : s ≡ slots_listed ys = search rules in
    let others : o ≡ slots_listed zs = search rules in
    let same = agree_below p s o xs ys zs c.loop-turn.from None parts slots others c.loop-turn.invariant
    c.in-None-least_of_both.ensures.first c.in-None-least_of_both.ensures.second in
    whole_same (component_key p s) (component_key p o) (λ m. same m tt)
