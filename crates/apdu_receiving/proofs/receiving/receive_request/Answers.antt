-- The request that the argument gives, which was tested when it was read.
use Rattle.std.proofs.Math.Facts.{to_z-of_z}
use Rattle.apdu_receiving.proofs.ReadFilters.{read_is_valid}
use Rattle.apdu_receiving.proofs.Steps.{asked}
use Rattle.apdu_receiving.proofs.receiving.receive_request.Goals as goal

pub returns-in-Ok : goal.returns-in-Ok
returns-in-Ok c =
    let given = rw (to_z-of_z c.ranges.op) at c.in-Ok.ensures.given in (
      rw (to_z-of_z c.ranges.id)
          (asked c.args.schema.now c.args.id c.args.op c.args.argument.now c.in-Ok.request given),
      tt,
      read_is_valid c.args.schema.now c.args.op c.args.argument.now c.in-Ok.request given,
    )
