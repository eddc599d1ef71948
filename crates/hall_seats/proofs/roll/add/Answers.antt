use Rattle.hall_seats.proofs.RuleSteps.{counts}
use Rattle.hall_seats.proofs.roll.add.Goals as goal

pub compare_exchange_with-requires : goal.compare_exchange_with-requires
compare_exchange_with-requires c =
    let seat = c.args.seat.now in
    let step = counts c.args.table.now.shared.table_id.slots seat.id seat.me c.args.entry.now c.args.found
    c.requires.journal c.requires.found.0 c.requires.may in
    (c.requires.table.0, c.requires.table.1, step)
