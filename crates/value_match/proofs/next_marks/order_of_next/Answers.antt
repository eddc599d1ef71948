use Rattle.std.proofs.Common.{[], ◌∷◌, sym}
use Rattle.value_match.proofs.OrderLaws.{tells_lists}
use Rattle.value_match.proofs.next_marks.order_of_next.Goals as goal

pub returns-in-Some-next_mark : goal.returns-in-Some-next_mark
returns-in-Some-next_mark c =
    let first = c.in-Some.ensures in
    let second = c.in-Some-next_mark.ensures in
    tells_lists c.order_then.result _ _ _ _ (sym first.1) (sym second.1)
    (c.order_then.ensures (c.in-Some.mark ∷ []) (c.in-Some-next_mark.other ∷ []) first.0 second.0
    c.order_of_numbers.ensures tt)
