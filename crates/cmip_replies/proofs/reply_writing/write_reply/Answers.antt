-- The one form of the reply's APDU.
use Rattle.std.proofs.Common.{rules, w64}
use Rattle.std.proofs.Math.Facts.{to_z-of_z}
use Rattle.cmip_replies.proofs.SentForms.{reply_sent}
use Rattle.cmip_replies.proofs.reply_writing.write_reply.Goals as goal

pub returns-clause-written : goal.returns-clause-written
returns-clause-written c =
    let written =
    rw (
      to_z-of_z c.ranges.op,
      to_z-of_z {w = w64} {z = c.from.result} (search rules),
      c.from.ensures,
      to_z-of_z {w = w64} {z = c.from-2.result} (search rules),
      c.from-2.ensures,
      to_z-of_z c.ranges.id,
      to_z-of_z c.ranges.own,
    ) at c.write_turned.ensures.written in
    rw (reply_sent c.args.id c.args.op c.args.own c.args.reply.now) written
