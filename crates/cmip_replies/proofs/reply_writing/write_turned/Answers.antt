-- The frame turned round.
use Rattle.std.proofs.Common.{rules}
use Rattle.std.proofs.Math.Facts.{to_z-of_z}
use Rattle.term_model.specs.RemoteOperation.{frame}
use Rattle.cmip_replies.specs.ReplyOctets.{reply_apdu}
use Rattle.cmip_replies.proofs.SentForms.{same_frame, turned_frame}
use Rattle.cmip_replies.proofs.reply_writing.write_turned.Goals as goal

pub returns-in-Ok-clause-written : goal.returns-in-Ok-clause-written
returns-in-Ok-clause-written c =
    turned_frame c.args.into.now.items (frame (reply_apdu c.args.id c.args.op c.args.own c.args.reply.now)) _
    (search rules) c.in-Ok.ensures.written
    (same_frame c.args.reply.now (to_z-of_z c.ranges.id) (to_z-of_z c.ranges.op) (to_z-of_z c.ranges.own))
    c.reverse_from.ensures
