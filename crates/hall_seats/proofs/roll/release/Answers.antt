use Rattle.std.proofs.Common.{[]}
use Rattle.hall_seats.proofs.RuleSteps.{all_go, cuts}
use Rattle.hall_seats.proofs.roll.release.Goals as goal

pub split_seat-requires : goal.split_seat-requires
split_seat-requires c =
    let seat = c.args.seat.now in
    let rights = seat.me.0.rights in
    (c.requires.table.0, c.requires.table.1, cuts seat.id seat.me.0 [] rights (all_go rights))
