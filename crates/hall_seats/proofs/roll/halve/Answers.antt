use Rattle.hall_seats.specs.Rights.{arriving, taking}
use Rattle.hall_seats.proofs.RuleSteps.{cuts, halved}
use Rattle.hall_seats.proofs.roll.halve.Goals as goal

pub split_seat-requires : goal.split_seat-requires
split_seat-requires c =
    let seat = c.args.seat.now in
    let rights = seat.me.0.rights in
    (c.requires.table.0, c.requires.table.1, cuts seat.id seat.me.0 (arriving rights) (taking rights) (halved rights))
