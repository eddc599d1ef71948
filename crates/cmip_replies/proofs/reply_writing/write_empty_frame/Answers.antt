-- The invoke id.
use Rattle.std.proofs.Common.{rules}
use Rattle.term_model.specs.RemoteOperation.{empty_result_apdu}
use Rattle.std.proofs.Math.Facts.{to_z-of_z}
use Rattle.cmip_replies.proofs.reply_writing.write_empty_frame.Goals as goal

pub returns-clause-written : goal.returns-clause-written
returns-clause-written c =
    let id = rw (to_z-of_z c.ranges.id) at c.in_ok-write_integer_backwards.ensures.written in
    c.in_ok-close_frame.ensures.written c.args.into.now.items (empty_result_apdu c.args.id) (search rules)
    (c.in_ok-close_value.ensures.written c.args.into.now.items _ (search rules) id)
