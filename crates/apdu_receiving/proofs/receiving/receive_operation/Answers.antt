-- An argument is there.
use Rattle.std.proofs.Math.Facts.{to_z-of_z}
use Rattle.apdu_receiving.proofs.receiving.receive_operation.Goals as goal

pub returns-in-Some : goal.returns-in-Some
returns-in-Some c =
    rw (c.in-Some.is) (rw (to_z-of_z c.ranges.id, to_z-of_z c.ranges.op) at c.receive_argument.ensures)
