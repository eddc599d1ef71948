use Rattle.std.proofs.Common.{◌∙◌}
use Rattle.hall_seats.proofs.RuleSteps.{joins, looks}
use Rattle.hall_seats.proofs.roll.take_in.Goals as goal

pub join_seat-requires : goal.join_seat-requires
join_seat-requires c =
    let seat = c.args.seat.now in
    let other = c.args.other in
    let joined = joins seat.id seat.me.0 other.id other.me.0 c.requires.journal in
    (c.requires.table.0, c.requires.other.0, c.requires.other.1, c.requires.table.1, joined)

pub load-requires : goal.load-requires
load-requires c =
    let seat = c.join_seat.new.seat in
    let step = looks c.args.table.now.shared.table_id.slots seat.id seat.me in
    (c.join_seat.ensures.0 ∙ c.requires.table.0, c.requires.table.1, step)
