-- The member at the place, where there is one.
use Rattle.std.proofs.Common.{◌∙◌, ap, arith, length}
use Rattle.term_values.specs.Typed.{listed}
use Rattle.fitting_members.proofs.UndoLaws.{none_at, taken_at}
use Rattle.fitting_members.proofs.member_change.take_at.Goals as goal

pub returns-then-at-as_slice : goal.returns-then-at-as_slice
returns-then-at-as_slice c =
    let count = ap length c.as_slice.ensures.value in
    ap listed c.take_out.ensures ∙ taken_at c.args.items.now.items c.args.at (omega (arith, count))

pub returns-else-at-as_slice : goal.returns-else-at-as_slice
returns-else-at-as_slice c =
    let count = ap length c.as_slice.ensures.value in
    none_at c.args.items.now.items c.args.at (omega (arith, count))
