-- The one form of the report's APDU.
use Rattle.std.proofs.Common.{rules, w64}
use Rattle.std.proofs.Math.Facts.{to_z-of_z}
use Rattle.cmip_replies.proofs.SentForms.{event_sent}
use Rattle.cmip_replies.proofs.event_writing.write_event.Goals as goal

pub returns-clause-written : goal.returns-clause-written
returns-clause-written c =
    let written =
    rw (to_z-of_z {w = w64} {z = c.from.result} (search rules), c.from.ensures, to_z-of_z c.ranges.own) at
    c.write_turned.ensures.written in
    rw (event_sent c.args.own c.args.event.now) written
