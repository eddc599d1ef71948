-- The one form of a Reject.
use Rattle.std.proofs.Math.Facts.{to_z-of_z}
use Rattle.cmip_replies.proofs.SentForms.{reject_sent}
use Rattle.cmip_replies.proofs.reject_writing.write_reject.Goals as goal

pub returns-clause-written : goal.returns-clause-written
returns-clause-written c =
    let written = rw (to_z-of_z c.ranges.problem) at c.write_apdu.ensures.written in
    rw (reject_sent c.args.id c.args.class c.args.problem c.requires) written
